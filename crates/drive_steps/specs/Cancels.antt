-- The steps that cancel commands that don't run, and groups.
use Rattle.std.specs.Prelude.{◌≡◌, ◌==◌, ◌++◌, ◌+◌, ◌&&◌, ◌⊎◌, ℕ, not, Bool, true, false}
use Rattle.std.specs.Prelude.{if◌then◌else◌, List, [], ◌∷◌, codes, Option, None, Some, is_some}
use Rattle.std.specs.Prelude.{drop, find, length, map, slice_get, take, unwrap_or, Contains}
use Rattle.std.specs.List.{cons_option, list_any}
use Rattle.std.specs.Option.{option_and_then, option_map, option_map_or}
use Rattle.run_model.specs.declared.answers.Reply.{Reply}
use Rattle.run_model.specs.declared.answers.Reply.TheVariants as reply
use Rattle.run_model.specs.declared.commands.Command.TheVariants as call
use Rattle.run_model.specs.declared.commands.Step.{Step}
use Rattle.run_model.specs.declared.commands.Step.TheVariants as step
use Rattle.run_model.specs.declared.refusals.Refusal.TheVariants.{SessionFull}
use Rattle.run_model.specs.declared.tasks.Outcome.{Outcome}
use Rattle.run_model.specs.declared.tasks.Outcome.TheVariants as outcome
use Rattle.run_model.specs.declared.tasks.Stage.{Stage}
use Rattle.run_model.specs.declared.tasks.Stage.TheVariants as stage
use Rattle.run_model.specs.Rules.{IsConsistent}
use Rattle.run_model.specs.Scopes.{chain, is_done}
use Rattle.run_model.specs.Session.{Session, replies, session_after}
use Rattle.run_model.specs.State.{State}
use Rattle.run_model.specs.Tasks.{has_stage}
use Rattle.run_model.specs.WorkChanges.{stage_of}
use Rattle.model_laws.specs.Hits.{is_on}
use Rattle.night_plan.specs.declared.commands.Command.{Command}
use Rattle.night_drive.specs.declared.names.Names.{Names}
use Rattle.night_drive.specs.Searches.{last_below}
use Rattle.night_drive.specs.Seen.{is_over, is_scope}
use Rattle.night_drive.specs.Tries.{is_cancel}
use Rattle.night_drive.specs.Turns.{has_come, of_last}
use Rattle.drive_steps.specs.declared.cancels.CommandCancel.{CommandCancel}
use Rattle.drive_steps.specs.declared.cancels.GroupCancel.{GroupCancel}
use Rattle.drive_steps.specs.declared.heard.Ended.{Ended}
use Rattle.drive_steps.specs.Reported.{first_started}
use Rattle.drive_steps.specs.Starts.{last_of, next_try}

-- ---- commands

-- A command can begin again after a try that has come to this stage: it failed or was interrupted.
abbrev pub is_open : Stage → Bool
is_open (stage.Failure error) = not (is_cancel error)
is_open stage.Interrupted = true
is_open _ = false

-- The end of task n, if it is among these.
abbrev pub end_in : List Ended → ℕ → Option Outcome
end_in heard n =
    option_map (λ (end : Ended). end.outcome) (find (λ (end : Ended). end.task == n) heard)

-- A command can begin again after task n, once these ends are recorded.
abbrev pub is_open_after : State → List Ended → ℕ → Bool
is_open_after p heard n =
    option_map_or (λ o. is_open (stage_of o)) (end_in heard n) (has_stage is_open p.work n)

-- A cancel of command c is recorded once these ends are, unless its last try runs on, ended well or
-- was canceled.
abbrev pub can_cancel : State → Names → List Command → List Ended → (c : ℕ) → Bool
can_cancel p names commands heard c =
    option_map_or (is_open_after p heard) (last_of p names commands c) true

-- These are the cancels that are recorded: one for each command that was canceled and for which it
-- can be recorded. Of several cancels of a command it is the first one.
pub record AreTaken (p : State) (names : Names) (commands : List Command) (heard : List Ended)
    (cancels taken : List CommandCancel) : Type 0 where
  pub each : (i : ℕ) (cancel : CommandCancel) → slice_get taken i ≡ Some cancel
      → Contains cancels cancel × (can_cancel p names commands heard cancel.command ≡ true)
  pub first : (i : ℕ) (cancel : CommandCancel) → slice_get taken i ≡ Some cancel
      → find (λ (x : CommandCancel). x.command == cancel.command) cancels ≡ Some cancel
  pub once : (i j : ℕ) (a b : CommandCancel) → slice_get taken i ≡ Some a
      → slice_get taken j ≡ Some b → a.command ≡ b.command → i ≡ j
  pub every : (i : ℕ) (cancel : CommandCancel) → slice_get cancels i ≡ Some cancel
      → can_cancel p names commands heard cancel.command ≡ true
      → Contains (map (λ (x : CommandCancel). x.command) taken) cancel.command

-- How a try ends that was canceled for this reason. A text has at most 64 bytes.
abbrev pub canceled_text : (why : List ℕ) → List ℕ
canceled_text why = codes "canceled: " ++ take 54 why

-- For each canceled command its next task, the start of that, and its end. The first task has
-- number n.
abbrev pub cuts_of : State → Names → List Command → (n : ℕ) → List CommandCancel → List Step
cuts_of p names commands n [] = []
cuts_of p names commands n (cancel ∷ taken) =
    step.Command (next_try p names commands cancel.command) ∷ step.Start
    ∷ step.Finish n (outcome.Failure (canceled_text cancel.why))
    ∷ cuts_of p names commands (n + 1) taken

-- By the replies a task was submitted and started for each of these cancels, with its end after it.
abbrev pub are_started : (taken : List CommandCancel) → List Reply → Bool
are_started [] replies = true
are_started (cancel ∷ taken) replies =
    is_some (first_started replies) && are_started taken (drop 3 replies)

-- ---- groups

-- The scope that the cancel of a group of this name cancels: its last one, unless that is done.
abbrev pub open_scope : State → (night : Option (List ℕ)) → (group : List ℕ) → Option ℕ
open_scope p night group =
    option_and_then (λ s. if is_done p.tree.scopes s then None else Some s)
    (last_below (is_scope p night group) (length p.tree.scopes))

-- The name of scope s of the store.
abbrev pub scope_name : State → ℕ → List ℕ
scope_name p s = option_map_or (λ row. row.name) (slice_get p.tree.scopes s) []

-- The step of the cancel of a group, if there is one.
abbrev pub stop_of : State → Names → GroupCancel → Option Step
stop_of p names cancel =
    option_map (λ s. step.Command (call.Cancel (scope_name p s) (Some cancel.why)))
    (open_scope p names.night (unwrap_or (slice_get names.groups.items cancel.group) []))

-- The steps of the cancels of groups.
abbrev pub stops_of : State → Names → List GroupCancel → List Step
stops_of p names [] = []
stops_of p names (cancel ∷ groups) =
    cons_option (stop_of p names cancel) (stops_of p names groups)

-- The log had no room for the step.
abbrev pub is_full : Reply → Bool
is_full (reply.Refused SessionFull) = true
is_full _ = false

-- The log had room for each step.
abbrev pub had_room : List Reply → Bool
had_room replies = not (list_any is_full replies)

-- The steps of the cancels of groups were made for a state with the same scopes. Once they were
-- played and the clock has moved, each of these groups is done, if it has a scope and the log had
-- room for each step.
abbrev pub GroupsAreCanceled : Type 0
GroupsAreCanceled =
    (p : State) (s : Session) (names : Names) (groups : List GroupCancel) (now : ℕ)
    (cancel : GroupCancel) (group : List ℕ) (scope : ℕ)
    → s.state.tree ≡ p.tree → IsConsistent s.state
    → had_room (replies s (stops_of p names groups ++ step.Command (call.Advance now) ∷ []))
    ≡ true
    → Contains groups cancel → slice_get names.groups.items cancel.group ≡ Some group
    → last_below (is_scope p names.night group) (length p.tree.scopes) ≡ Some scope
    → is_over (session_after s
    (stops_of p names groups ++ step.Command (call.Advance now) ∷ [])).state names.night group
    ≡ true

-- The cancel of a group reaches a group of this name: its scope is the last one of that group, or
-- stands above it.
pub record IsReached (p : State) (names : Names) (groups : List GroupCancel)
    (night : Option (List ℕ)) (other : List ℕ) : Type 0 where
  pub cancel : GroupCancel
  pub listed : Contains groups cancel
  pub scope : ℕ
  pub last : last_below
      (is_scope p names.night (unwrap_or (slice_get names.groups.items cancel.group) []))
      (length p.tree.scopes) ≡ Some scope
  pub above : of_last p night other (λ s. is_on scope (chain p.tree.scopes s)) ≡ true

-- Once the cancels of groups were played and the clock has moved, no other group is done: one that
-- is was done before, or its deadline has come, or one of the cancels reaches it.
abbrev pub OthersGoOn : Type 0
OthersGoOn =
    (p : State) (s : Session) (names : Names) (groups : List GroupCancel) (now : ℕ)
    (night : Option (List ℕ)) (other : List ℕ) → s.state.tree ≡ p.tree → IsConsistent s.state
    → is_over (session_after s
    (stops_of p names groups ++ step.Command (call.Advance now) ∷ [])).state night other
    ≡ true
    → (is_over p night other ≡ true)
    ⊎ ((of_last p night other (has_come p now) ≡ true) ⊎ IsReached p names groups night other)
