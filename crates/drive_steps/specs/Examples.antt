-- Replies to the steps in which two commands begin, in a store with the rows of two nights.
use Rattle.std.specs.Prelude.{ℕ, false, List, [], ◌∷◌, Some, codes, fold}
use Rattle.run_model.specs.declared.answers.Answer.TheVariants as answer
use Rattle.run_model.specs.declared.answers.Reply.{Reply}
use Rattle.run_model.specs.declared.answers.Reply.TheVariants as reply
use Rattle.run_model.specs.declared.commands.Command.TheVariants as call
use Rattle.run_model.specs.declared.commands.Step.{Step}
use Rattle.run_model.specs.declared.commands.Step.TheVariants as step
use Rattle.run_model.specs.declared.tasks.Phase.TheVariants.{Ready}
use Rattle.run_model.specs.declared.tasks.Outcome.TheVariants as outcome
use Rattle.run_model.specs.declared.layouts.Layout.TheVariants.{Small}
use Rattle.run_model.specs.declared.scopes.Kind.TheVariants as kind
use Rattle.run_model.specs.Event.{Event}
use Rattle.run_model.specs.Event as event
use Rattle.run_model.specs.State.{State, formatted}
use Rattle.run_model.specs.Step as change
use Rattle.night_drive.specs.Examples.{after_all, withdrawal}
use Rattle.drive_steps.specs.declared.cancels.CommandCancel.{CommandCancel}
use Rattle.drive_steps.specs.declared.cancels.GroupCancel.{GroupCancel}
use Rattle.drive_steps.specs.declared.heard.Ended.{Ended}
use Rattle.drive_steps.specs.declared.reported.Begun.{Begun}
use Rattle.drive_steps.specs.Rounds.{Heard}

-- The task of `d` was withdrawn, so that no task waits to be started.
abbrev pub at_rest : State
at_rest = after_all (event.Start 8 ∷ withdrawal 8 ∷ [])

-- The store was opened again, which interrupted the task of `c`.
abbrev pub opened_again : State
opened_again = change.step at_rest event.Restart

-- A task was submitted.
abbrev pub submitted : ℕ → Reply
submitted n = reply.Answer (answer.Task n Ready)

-- A task with this key was started.
abbrev pub started : ℕ → (key : List ℕ) → Reply
started n key = reply.Started (record {
  event = 40;
  info = record { task = n; job = codes "sh"; argument = key };
  done = false;
})

-- `d` and `e` of the disks begin, and then there is a flush.
abbrev pub row_of_d_and_e : List Step
row_of_d_and_e =
    step.Command (call.Go (codes "disks--2-2") (codes "sh") (codes "d")) ∷ step.Start
    ∷ step.Command (call.Go (codes "disks--2-2") (codes "sh") (codes "e")) ∷ step.Start
    ∷ step.Flush ∷ []

-- A new store was opened. The second night has a scope with its number, and below that the disks
-- and the tapes each have a scope and a group.
abbrev pub first_events : List Event
first_events =
    event.Restart
    ∷ event.Derive (codes "night--2") 0 kind.Cause
    ∷ event.Derive (codes "night--2--round") 1 (kind.Value (codes "night") (codes "2"))
    ∷ event.Derive (codes "disks--2") 2 kind.Cause
    ∷ event.Derive (codes "tapes--2") 2 kind.Cause
    ∷ event.Bare (codes "disks--2") 3
    ∷ event.Bare (codes "tapes--2") 4
    ∷ []

abbrev pub new_night : State
new_night = fold change.step (formatted Small) first_events

-- Command c has begun, with task n.
abbrev pub begin : (c n : ℕ) → Begun
begin c n = record { command = c; task = n }

-- The try with task n has ended well.
abbrev pub ended_ok : (n : ℕ) → Ended
ended_ok n = record { task = n; outcome = outcome.Success }

-- The try with task n has failed.
abbrev pub ended_badly : (n : ℕ) → Ended
ended_badly n = record { task = n; outcome = outcome.Failure (codes "exit 1") }

-- Command c, or group g, is canceled by hand.
abbrev pub cancel_command : (c : ℕ) → CommandCancel
cancel_command c = record { command = c; why = codes "by hand" }

abbrev pub cancel_group : (g : ℕ) → GroupCancel
cancel_group g = record { group = g; why = codes "by hand" }

-- `d` of the disks is canceled, with task n.
abbrev pub cut_of_d : (n : ℕ) → List Step
cut_of_d n =
    step.Command (call.Go (codes "disks--2-2") (codes "sh") (codes "d")) ∷ step.Start
    ∷ step.Finish n (outcome.Failure (codes "canceled: by hand")) ∷ []

-- The last scope of the disks is canceled.
abbrev pub stop_of_disks : List Step
stop_of_disks = step.Command (call.Cancel (codes "disks--2") (Some (codes "by hand"))) ∷ []

-- In a round nothing has ended. Command 1 and group 0 are canceled, at 7.
abbrev pub canceled_round : Heard
canceled_round = record {
  ends = [];
  cancels = cancel_command 1 ∷ [];
  groups = cancel_group 0 ∷ [];
  now = 7;
}
