use Rattle.plan_lines.specs.Answers.{answer_line}
use Rattle.plan_lines.proofs.Writing.{appended_after, one_written, part_is_prefix, prefix_written}
use Rattle.plan_lines.proofs.runs.write_answer.Goals as goal

pub loop-line-preserved : goal.loop-line-preserved
loop-line-preserved g c =
    one_written answer_line _ _ _ _ _ c.loop-line.line-index c.args.lines.now _
    c.loop-line-test.true c.loop-line.invariant
    (appended_after _ _ _ _ _ _ c.in_ok-make_room.ensures.buffered c.append.ensures.items)

pub returns-in_err-make_room-clause-prefix : goal.returns-in_err-make_room-clause-prefix
returns-in_err-make_room-clause-prefix g c =
    prefix_written answer_line _ _ _ c.loop-line.buffer.items c.loop-line.line-index
    c.args.lines.now c.from_residual.result c.loop-line.invariant
    (part_is_prefix _ _ _ c.in_err-make_room.ensures.cut)

pub returns-in_err-flush_out-clause-prefix : goal.returns-in_err-flush_out-clause-prefix
returns-in_err-flush_out-clause-prefix g c =
    prefix_written answer_line _ _ _ c.loop-line.buffer.items c.loop-line.line-index
    c.args.lines.now c.from_residual-in_err-flush_out.result c.loop-line.invariant
    c.in_err-flush_out.ensures.prefix
