use Rattle.run_model.proofs.Common.{◌≡◌, ◌<◌, ℕ, true, false, not, ◌||◌, List, length, take}
use Rattle.run_model.proofs.Common.{Option, Some, None, refl, sym, ◌∙◌, IfSome, and_parts}
use Rattle.run_model.proofs.Common.{ltb-true, most_tasks, WorkState, is_fresh, is_running}
use Rattle.run_model.proofs.Common.{is_unfinished, admits, limit_of, is_admitted, unfinished_in}
use Rattle.std.proofs.Math.Seq.{take-length}
use Rattle.run_model.specs.declared.groups.Group.{Group}
use Rattle.run_model.specs.declared.layouts.Layout.{Layout}
use Rattle.run_model.specs.declared.tasks.Stage.{Stage}
use Rattle.run_model.specs.declared.tasks.Stage.TheVariants as stage
use Rattle.run_model.specs.declared.tasks.Task.{Task}
use Rattle.row_view.specs.WorkRows.{can_come, can_retry, is_linked, work_made}
use Rattle.task_group.specs.Rows.{HasPlace}
use Rattle.task_group.proofs.RowReads.{row_known}
use Rattle.task_group.proofs.groups.Groups.take_task.Goals as goal

-- A linked task names one that is there.
link_known : (layout : Layout) (groups : List Group) (tasks : List Task) (row : Task)
    → can_come layout groups tasks row ≡ true → IfSome row.retry_of (λ m. m < length tasks)
link_known layout groups tasks row comes = by row.retry_of refl
  where
    by : (o : Option ℕ) → row.retry_of ≡ o → IfSome o (λ m. m < length tasks)
    by None e = tt
    by (Some m) e =
        (let linked : is_linked tasks row ≡ true = (and_parts _ _ comes).1 in
        row_known (can_retry row) tasks m (and_parts _ _ (rw e at linked)).0)

-- A running task is admitted.
running_admitted : (layout : Layout) (groups : List Group) (tasks : List Task) (row : Task)
    → can_come layout groups tasks row ≡ true → is_running row.stage ≡ true
    → admits (limit_of (work_made layout groups tasks) row.group) (unfinished_in row.group tasks)
    ≡ true
running_admitted layout groups tasks row comes running =
    let w = work_made layout groups tasks in
    let either : (not (is_running row.stage) || is_admitted w (length tasks) row) ≡ true =
    (and_parts _ _ (and_parts _ _ comes).0).1 in
    let admitted : is_admitted w (length tasks) row ≡ true = rw running at either in
    let fits : admits (limit_of w row.group) (unfinished_in row.group (take (length tasks) tasks))
    ≡ true =
    (and_parts _ _ admitted).1 in
    rw take-length at fits

-- What is neither fresh nor running has ended.
ended_by : (s : Stage) → is_fresh s ≡ false → is_running s ≡ false → is_unfinished s ≡ false
ended_by stage.Fresh fresh running = absurd cc
ended_by stage.Running fresh running = absurd cc
ended_by stage.Success fresh running = refl
ended_by (stage.Failure text) fresh running = refl
ended_by stage.Interrupted fresh running = refl

-- A task that can come has a place.
has_place : (w : WorkState) (row : Task) → can_come w.layout w.groups w.tasks row ≡ true
    → length w.tasks < most_tasks w.layout → HasPlace w row
has_place w row comes room = record {
  known = ltb-true row.group (length w.groups) (and_parts _ _ (and_parts _ _ comes).0).0;
  link = link_known w.layout w.groups w.tasks row comes;
  room = room;
}

pub take_fresh-requires-clause-fresh : goal.take_fresh-requires-clause-fresh
take_fresh-requires-clause-fresh g c = sym c.is_fresh.ensures ∙ c.if-is_fresh.true

pub take_fresh-requires-clause-place : goal.take_fresh-requires-clause-place
take_fresh-requires-clause-place g c =
    has_place c.args.self.now c.args.row c.requires.come c.requires.room

pub take_running-requires-clause-running : goal.take_running-requires-clause-running
take_running-requires-clause-running g c = sym c.is_running.ensures ∙ c.if-is_running.true

pub take_running-requires-clause-admitted : goal.take_running-requires-clause-admitted
take_running-requires-clause-admitted g c =
    let w = c.args.self.now in
    running_admitted w.layout w.groups w.tasks c.args.row c.requires.come
    (sym c.is_running.ensures ∙ c.if-is_running.true)

pub take_running-requires-clause-place : goal.take_running-requires-clause-place
take_running-requires-clause-place g c =
    has_place c.args.self.now c.args.row c.requires.come c.requires.room

pub take_ended-requires-clause-ended : goal.take_ended-requires-clause-ended
take_ended-requires-clause-ended g c =
    ended_by c.args.row.stage (sym c.is_fresh.ensures ∙ c.if-is_fresh.false)
    (sym c.is_running.ensures ∙ c.if-is_running.false)

pub take_ended-requires-clause-place : goal.take_ended-requires-clause-place
take_ended-requires-clause-place g c =
    has_place c.args.self.now c.args.row c.requires.come c.requires.room

pub returns-then-is_fresh : goal.returns-then-is_fresh
returns-then-is_fresh g c = c.take_fresh.ensures

pub returns-then-is_running : goal.returns-then-is_running
returns-then-is_running g c = c.take_running.ensures

pub returns-else-is_running : goal.returns-else-is_running
returns-else-is_running g c = c.take_ended.ensures
