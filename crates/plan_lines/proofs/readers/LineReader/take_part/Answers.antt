use Rattle.std.proofs.Common.{arith}
use Rattle.plan_lines.specs.Reading.{held}
use Rattle.plan_lines.proofs.Reading.{none_held, none_in_all, part_taken}
use Rattle.plan_lines.proofs.readers.LineReader.take_part.Goals as goal

pub returns-in-Some : goal.returns-in-Some
returns-in-Some c =
    let r = c.args.self.now in
    let first = c.in-Some.ensures in
    part_taken r.buffer c.args.line.now.items c.keep.new.line.items r.start r.end c.in-Some.at
    (omega arith) (omega arith) first.0.high first.0.before first.1 c.keep.ensures

pub returns-in-None : goal.returns-in-None
returns-in-None c =
    let r = c.args.self.now in (
      none_held r.buffer r.end r.end (omega arith),
      none_in_all (held r) c.in-None.ensures,
      c.keep-in-None.ensures,
    )
