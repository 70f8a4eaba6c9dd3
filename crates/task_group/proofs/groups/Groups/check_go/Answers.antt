use Rattle.run_model.proofs.Common.{◌≡◌, Bool, not, List, [], ◌∷◌, Ok, Err, ◌∙◌, rules, has_room}
use Rattle.run_model.proofs.Common.{most_tasks, WorkState}
use Rattle.run_model.specs.declared.refusals.Refusal.{Refusal}
use Rattle.run_model.specs.declared.refusals.Refusal.TheVariants as refusal
use Rattle.task_group.proofs.Checks.{opens, tested_then}
use Rattle.task_group.proofs.groups.Groups.check_go.Goals as goal

-- Whether one more task fits.
abbrev room : WorkState → List (Bool × Refusal)
room w = (not (has_room (most_tasks w.layout) w.tasks), refusal.TooManyTasks) ∷ []

pub returns-in_err-check_open : goal.returns-in_err-check_open
returns-in_err-check_open g c job argument count tree =
    let w = c.args.self.now in
    let same : c.from_residual.result ≡ Err c.in_err-check_open.field-0.0 = search rules in
    same ∙ tested_then (opens w c.args.group) (room w) _ c.in_err-check_open.ensures.first

pub returns : goal.returns
returns g c job argument count tree =
    let w = c.args.self.now in
    c.check_task_capacity.ensures
    ∙ tested_then (opens w c.args.group) (room w) (Ok tt) c.in_ok-check_open.ensures.first
