-- A task of the store is a try of a command: what it shows of the command.
use Rattle.std.specs.Prelude.{ℕ, not, Bool, true, false, if◌then◌else◌, List, codes}
use Rattle.std.specs.Str.{bytes_eq}
use Rattle.run_model.specs.declared.tasks.Stage.{Stage}
use Rattle.run_model.specs.declared.tasks.Stage.TheVariants as stage
use Rattle.night_plan.specs.declared.facts.Phase.{Phase}
use Rattle.night_plan.specs.declared.facts.Phase.TheVariants as phase
use Rattle.night_drive.specs.Names.{begins}

-- A task was withdrawn: it was submitted, and its command never began.
abbrev pub is_withdrawn : List ℕ → Bool
is_withdrawn error = bytes_eq error (codes "withdrawn")

-- A task ended because its command was canceled.
abbrev pub is_cancel : List ℕ → Bool
is_cancel error = begins error (codes "canceled: ")

-- A task counts as a try if it was started, and wasn't withdrawn.
abbrev pub counts : Stage → Bool
counts stage.Fresh = false
counts (stage.Failure error) = not (is_withdrawn error)
counts _ = true

-- A try has failed if it ended with an error that isn't a cancel. An interruption isn't a failure.
abbrev pub has_failed : Stage → Bool
has_failed (stage.Failure error) = not (is_cancel error)
has_failed _ = false

-- How far a command has come by its last try, if that ended at this moment.
abbrev pub phase_by : ℕ → Stage → Phase
phase_by moment stage.Fresh = phase.Fresh
phase_by moment stage.Running = phase.Busy
phase_by moment stage.Success = phase.EndedOk
phase_by moment (stage.Failure error) =
    if is_cancel error then phase.Canceled else phase.Failed moment
phase_by moment stage.Interrupted = phase.Interrupted
