use Rattle.plan_lines.proofs.Reading.{fill_read, goes_on, line_read, opens, part_ended, part_open}
use Rattle.plan_lines.proofs.readers.LineReader.next_line.Goals as goal

pub loop-turn-init : goal.loop-turn-init
loop-turn-init g c = opens _ _ _ c.clear.ensures

pub returns-then-take_part : goal.returns-then-take_part
returns-then-take_part g c =
    let more = fill_read c.in_ok-some.some _ _ _ _ c.if-not-some.false c.in_ok-some.ensures in
    let part = part_ended c.take_part.result _ _ _ _ c.if-take_part.true c.take_part.ensures in
    line_read _ _ _ _ _ _ _ _ _ part.0 _ c.loop-turn.invariant more.0 part.1 part.2 part.3

pub loop-turn-preserved : goal.loop-turn-preserved
loop-turn-preserved g c =
    let more = fill_read c.in_ok-some.some _ _ _ _ c.if-not-some.false c.in_ok-some.ensures in
    let part = part_open c.take_part.result _ _ _ _ c.if-take_part.false c.take_part.ensures in
    goes_on _ _ _ _ _ _ _ _ _ _ c.loop-turn.invariant more.0 more.1 part.1 part.2 part.0
