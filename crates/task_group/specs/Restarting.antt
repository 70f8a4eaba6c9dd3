-- The tasks after a restart.
use Rattle.std.specs.Prelude.{◌≡◌, ℕ, true, ◌==◌, ◌&&◌, if◌then◌else◌, List, take, count_by, Some}
use Rattle.std.specs.Prelude.{slice_get}
use Rattle.run_model.specs.declared.tasks.Phase.TheVariants as phase
use Rattle.run_model.specs.declared.tasks.Task.{Task}
use Rattle.run_model.specs.State.{WorkState}
use Rattle.run_model.specs.Tasks.{admits, is_fresh, limit_of, phase_of}
use Rattle.run_model.specs.Tasks.{running_count, has_stage, is_running}

-- The number of these tasks that belong to the group and weren't started.
abbrev pub fresh_in : ℕ → List Task → ℕ
fresh_in g tasks = count_by (λ task. task.group == g && is_fresh task.stage) tasks

-- No task is running, and each task that was running is interrupted. A task that wasn't started is
-- ready if its group's limit admits one more next to the earlier ones that weren't started, and
-- otherwise held.
pub record RestartsTasks (old new : WorkState) : Type 0 where
  pub none : running_count new.tasks ≡ 0
  pub ran : (n : ℕ) → has_stage is_running old n ≡ true → phase_of new n ≡ Some phase.Interrupted
  pub fresh : (n : ℕ) (row : Task) → slice_get old.tasks n ≡ Some row → is_fresh row.stage ≡ true
      → phase_of new n
      ≡ Some
      (if admits (limit_of old row.group) (fresh_in row.group (take n old.tasks))
      then phase.Ready else phase.Held)
