-- The tries that live.
use Rattle.std.specs.Prelude.{ℕ, ◌==◌, not, Bool, true, false, if◌then◌else◌, List, ◌++◌, Option}
use Rattle.std.specs.Prelude.{Some, None, find, map}
use Rattle.std.specs.List.{filter, filter_map, list_any}
use Rattle.std.specs.Option.{option_and_then, option_map, option_or}
use Rattle.run_model.specs.declared.tasks.Outcome.{Outcome}
use Rattle.run_model.specs.declared.tasks.Outcome.TheVariants as outcome
use Rattle.drive_steps.specs.Cancels.{canceled_text}
use Rattle.drive_steps.specs.declared.cancels.CommandCancel.{CommandCancel}
use Rattle.drive_steps.specs.declared.heard.Ended.{Ended}
use Rattle.drive_steps.specs.Heard.{has_ended}
use Rattle.drive_steps.specs.declared.reported.Begun.{Begun}
use Rattle.drive_steps.specs.declared.stops.Stop.{Stop}
use Rattle.drive_runs.specs.declared.living.Living.{Living}

-- A try with this task lives.
abbrev pub lives : List Living → ℕ → Bool
lives living task = list_any (λ (one : Living). one.task == task) living

-- The tries that live, each with its command and its task alone.
abbrev pub tries_of : List Living → List Begun
tries_of living =
    map (λ (one : Living). record { command = one.command; task = one.task }) living

-- The try has to stop for this reason, if there is one, unless it has to already.
abbrev pub with_reason : Option (List ℕ) → Living → Living
with_reason reason one = record one { stop = option_or one.stop reason }

-- The try with another task.
abbrev pub with_task : (task : ℕ) → Living → Living
with_task task one = record one { task = task }

-- The cancel of the command of a try that has to stop already.
abbrev pub cancel_of : Living → Option CommandCancel
cancel_of one = option_map (λ why. record { command = one.command; why = why }) one.stop

abbrev pub cancels_of : List Living → List CommandCancel
cancels_of = filter_map cancel_of

-- The try, if the executor wasn't asked to stop it yet.
abbrev pub unasked : Living → Option Begun
unasked one =
    if one.asked then None else Some (record { command = one.command; task = one.task })

-- The try, once the executor was asked to stop it for this reason, if there is one.
abbrev pub once_asked : Option (List ℕ) → Living → Living
once_asked None one = one
once_asked (Some why) one = record one { stop = Some why; asked = true }

-- Why the try with this task has to stop, by these stops.
abbrev pub why_in : List Stop → (task : ℕ) → Option (List ℕ)
why_in stops task =
    option_map (λ (stop : Stop). stop.why) (find (λ (stop : Stop). stop.task == task) stops)

-- The living tries, once the executor was asked for these stops.
abbrev pub all_asked : List Stop → List Living → List Living
all_asked stops = map (λ (one : Living). once_asked (why_in stops one.task) one)

-- The tries that live after these ends.
abbrev pub after_ends : List Living → List Ended → List Living
after_ends living ended =
    filter (λ (one : Living). not (has_ended ended one.task)) living

-- The task is one of these.
abbrev pub is_among : (tasks : List ℕ) → ℕ → Bool
is_among tasks task = list_any (λ (other : ℕ). other == task) tasks

-- The tries that live without those of these tasks.
abbrev pub without : List Living → (tasks : List ℕ) → List Living
without living tasks = filter (λ (one : Living). not (is_among tasks one.task)) living

-- These tries have begun, too.
abbrev pub with_begun : List Living → List Begun → List Living
with_begun living begun =
    living ++ map (λ (begin : Begun). record {
      command = begin.command;
      task = begin.task;
      stop = None;
      asked = false;
    }) begun

-- How a try has ended, if the executor reported this, and was asked to stop it: a failure is a
-- cancel then.
abbrev pub outcome_of : Option (List ℕ) → Outcome → Outcome
outcome_of (Some why) (outcome.Failure error) = outcome.Failure (canceled_text why)
outcome_of _ o = o

-- Why the try with this task has to stop, if it lives and has to.
abbrev pub reason_of : List Living → (task : ℕ) → Option (List ℕ)
reason_of living task =
    option_and_then (λ (one : Living). one.stop)
    (find (λ (one : Living). one.task == task) living)

-- How an end is recorded, by whether its try was to stop.
abbrev pub as_recorded : List Living → Ended → Ended
as_recorded living end =
    record end { outcome = outcome_of (reason_of living end.task) end.outcome }
