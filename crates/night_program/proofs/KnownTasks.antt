-- The tasks of unknown jobs, one after another.
use Rattle.std.specs.Prelude.{◌≡◌, Bool, true, false}
use Rattle.std.proofs.Common.{ap, refl, sym, ◌∙◌}
use Rattle.run_model.specs.declared.answers.TaskLook.{TaskLook}
use Rattle.run_model.specs.declared.tasks.Stage.{Stage}
use Rattle.run_model.specs.declared.tasks.Stage.TheVariants as stage
use Rattle.run_model.specs.declared.tasks.Task.{Task}
use Rattle.run_model.specs.Tasks.{is_unfinished, phase_by}
use Rattle.night_program.specs.Known.{IsSeen, is_unended}

-- A task is unfinished where its phase says so.
unended : (admitted : Bool) (s : Stage) → is_unended (phase_by admitted s) ≡ is_unfinished s
unended true stage.Fresh = refl
unended false stage.Fresh = refl
unended admitted stage.Running = refl
unended admitted stage.Success = refl
unended admitted (stage.Failure text) = refl
unended admitted stage.Interrupted = refl

-- So this is seen of it.
pub is_seen : (task : Task) (look : TaskLook) (admitted : Bool) → task.job ≡ look.job
    → phase_by admitted task.stage ≡ look.phase → IsSeen task look
is_seen task look admitted job phase =
    (job, sym (unended admitted task.stage) ∙ ap is_unended phase)
