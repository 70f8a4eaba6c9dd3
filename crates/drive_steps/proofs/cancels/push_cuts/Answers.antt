use Rattle.std.proofs.Common.{◌+◌, ap, arith, length}
use Rattle.drive_steps.proofs.Canceling.{cuts_next}
use Rattle.drive_steps.proofs.cancels.push_cuts.Goals as goal

pub loop-i-preserved : goal.loop-i-preserved
loop-i-preserved g c =
    cuts_next c.args.state.now c.args.names.now c.args.plan.now.commands.items c.args.taken.now
    (length c.args.state.now.work.tasks) c.loop-i.i (c.task_count-first.result + c.loop-i.i)
    c.index-taken-i.result c.next_try-next.result c.canceled_text-why.result
    c.args.steps.now.items c.loop-i.steps.items c.push.new.self.items
    c.push-in-loop-i.new.self.items c.push-in-loop-i-2.new.self.items (omega arith)
    c.index-taken-i.is c.next_try-next.ensures
    (ap (λ m. m + c.loop-i.i) c.task_count-first.ensures.len) c.canceled_text-why.ensures
    c.in_ok-push.ensures.items c.in_ok-push-2.ensures.items c.in_ok-push-3.ensures.items
    c.loop-i.invariant
