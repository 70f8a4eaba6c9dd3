use Rattle.std.specs.Fmt.{decimal}
use Rattle.std.proofs.Common.{arith}
use Rattle.drive_lines.proofs.Appending.{appended_try}
use Rattle.drive_lines.proofs.orders.append_try.Goals as goal

pub returns : goal.returns
returns g c = record {
  items =
      appended_try _ _ _ _ _ _ _ _ c.args.word.now (decimal c.args.command) (decimal c.args.task)
      c.args.named.now.group c.args.named.now.key (decimal c.args.named.now.number)
      c.push.ensures.items c.push_number.ensures.items c.push_count.ensures.items
      c.push_name.ensures.items c.push_name-2.ensures.items c.push_count-2.ensures.items
      c.push-2.ensures.items;
  fits =
      omega (
        arith,
        c.push.ensures.fits,
        c.push_number.ensures.fits,
        c.push_count.ensures.fits,
        c.push_name.ensures.fits,
        c.push_name-2.ensures.fits,
        c.push_count-2.ensures.fits,
        c.push-2.ensures.fits,
      );
}
