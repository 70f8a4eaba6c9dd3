-- A task that is started and withdrawn leaves every command as it is.
use Rattle.std.proofs.Common.{◌≡◌, ◌∙◌, ◌&&◌, ℕ, zero, suc, false, List, [], ◌∷◌, codes}
use Rattle.std.proofs.Common.{refl, ap}
use Rattle.std.proofs.Math.Bool.{and-false}
use Rattle.std.specs.Option.{option_map_or}
use Rattle.run_model.specs.declared.tasks.Outcome.TheVariants as outcome
use Rattle.run_model.specs.declared.tasks.Stage.{Stage}
use Rattle.run_model.specs.declared.tasks.Stage.TheVariants as stage
use Rattle.run_model.specs.declared.tasks.Task.{Task}
use Rattle.run_model.specs.Event as event
use Rattle.run_model.specs.Rows.{at_row}
use Rattle.run_model.specs.State.{State}
use Rattle.run_model.specs.Step.{step}
use Rattle.run_model.specs.Tasks.{is_fresh}
use Rattle.run_model.specs.WorkChanges.{with_stage}
use Rattle.night_drive.specs.Seen.{is_try}
use Rattle.night_drive.specs.Tries.{counts}
use Rattle.night_drive.specs.Turns.{WithdrawalsLeaveCommands, is_task}
use Rattle.night_drive.proofs.Finishing.{finished}
use Rattle.night_drive.proofs.Starting.{fresh_counts}
use Rattle.night_drive.proofs.Turning.{HasRowAt, IsStaged, known_apart, row_at, stage_here, try_is}

-- A row that is changed twice is at the second stage.
staged_twice : (first second : Stage) (n : ℕ) (rows : List Task)
    → at_row (with_stage second) n (at_row (with_stage first) n rows)
    ≡ at_row (with_stage second) n rows
staged_twice first second n [] = refl
staged_twice first second zero (row ∷ rows) = refl
staged_twice first second (suc n) (row ∷ rows) =
    ap (λ xs. row ∷ xs) (staged_twice first second n rows)

-- The stage of a task that was withdrawn.
abbrev withdrawn : Stage
withdrawn = stage.Failure (codes "withdrawn")

both : (p : State) (n : ℕ)
    → IsStaged p
    (step (step p (event.Start n)) (event.Finish n (outcome.Failure (codes "withdrawn")))) n
    withdrawn
both p n =
    let q : State = step p (event.Start n) in
    let finish = finished q n (outcome.Failure (codes "withdrawn")) in
    record {
      tasks = staged_twice stage.Running withdrawn n p.work.tasks;
      owned = λ night group g. finish.owned night group g;
    }

pub withdrawal_leaves : WithdrawalsLeaveCommands
withdrawal_leaves p ended night group key n fresh =
    let q : State =
    step (step p (event.Start n)) (event.Finish n (outcome.Failure (codes "withdrawn"))) in
    let at : HasRowAt p n is_fresh = row_at p n is_fresh fresh in
    let before : is_try p night group key n ≡ false =
    try_is p night group key n
    ∙ ap (λ b. is_task p night group key n && b)
    (ap (λ o. option_map_or (λ task. counts task.stage) o false) at.found
    ∙ fresh_counts at.row.stage at.passes)
    ∙ and-false (is_task p night group key n) in
    let after : is_try q night group key n ≡ false =
    try_is q night group key n
    ∙ ap (λ b. is_task q night group key n && b)
    (stage_here p q n withdrawn (both p n) at.row at.found counts)
    ∙ and-false (is_task q night group key n) in
    known_apart p q n withdrawn (both p n) ended ended (λ m other. refl) night group key before
    after
