use Rattle.std.proofs.Common.{subst}
use Rattle.console_lines.specs.Buffered.{Buffered}
use Rattle.drive_lines.specs.declared.orders.Order.{Order}
use Rattle.drive_lines.specs.Orders.{order_line}
use Rattle.plan_lines.proofs.Writing.{one_written, part_is_prefix, prefix_written}
use Rattle.drive_runs.proofs.answers.write_answer.Goals as goal

pub loop-line-preserved : goal.loop-line-preserved
loop-line-preserved g c =
    one_written order_line _ _ _ _ _ c.loop-line.line-index c.args.lines.now c.line-item.result
    c.loop-line-test.true c.loop-line.invariant
    (subst (λ (line : Order). Buffered (order_line line) c.loop-line.buffer.items
    c.write_order.new.buffer.items (g.W.Write.contents c.loop-line.output)
    (g.W.Write.contents c.write_order.new.output)) c.line-item.is
    c.in_ok-write_order.ensures.buffered)

pub returns-in_err-write_order-clause-prefix : goal.returns-in_err-write_order-clause-prefix
returns-in_err-write_order-clause-prefix g c =
    prefix_written order_line _ _ _ c.loop-line.buffer.items c.loop-line.line-index
    c.args.lines.now c.from_residual.result c.loop-line.invariant
    (part_is_prefix _ _ _ c.in_err-write_order.ensures.cut)

pub returns-in_err-flush_out-clause-prefix : goal.returns-in_err-flush_out-clause-prefix
returns-in_err-flush_out-clause-prefix g c =
    prefix_written order_line _ _ _ c.loop-line.buffer.items c.loop-line.line-index
    c.args.lines.now c.from_residual-in_err-flush_out.result c.loop-line.invariant
    c.in_err-flush_out.ensures.prefix
