use Rattle.run_model.proofs.Common.{true, false, sym, ◌∙◌, arith}
use Rattle.task_group.proofs.Checks.{finish_cancels}
use Rattle.task_group.proofs.groups.Groups.check_finish.Goals as goal

pub returns-then-not-is_running : goal.returns-then-not-is_running
returns-then-not-is_running g c outcome count tree =
    finish_cancels c.args.self.now c.args.task false
    (omega (arith, c.task_count.ensures.len, c.if-task_count-task.false))
    (sym c.if-not-is_running.true ∙ c.is_running.ensures)

pub returns : goal.returns
returns g c outcome count tree =
    finish_cancels c.args.self.now c.args.task true
    (omega (arith, c.task_count.ensures.len, c.if-task_count-task.false))
    (sym c.if-not-is_running.false ∙ c.is_running.ensures)
