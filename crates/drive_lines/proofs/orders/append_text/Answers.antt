use Rattle.std.specs.Fmt.{decimal}
use Rattle.std.proofs.Common.{arith}
use Rattle.drive_lines.proofs.Appending.{appended_text}
use Rattle.drive_lines.proofs.orders.append_text.Goals as goal

pub returns : goal.returns
returns g c = record {
  items =
      appended_text _ _ _ _ _ c.args.word.now (decimal c.args.number) c.args.text.now
      c.push.ensures.items c.push_number.ensures.items c.push_text.ensures.items
      c.push-2.ensures.items;
  fits =
      omega (
        arith,
        c.push.ensures.fits,
        c.push_number.ensures.fits,
        c.push_text.ensures.fits,
        c.push-2.ensures.fits,
      );
}
