-- What was heard in a round is recorded in a book.
use Rattle.std.specs.Prelude.{◌≡◌, ◌⊎◌, ◌&&◌, ◌++◌, ℕ, Bool, true, false, List, Option, Some}
use Rattle.std.specs.Prelude.{None, drop, length, ltb, map}
use Rattle.std.specs.List.{filter_map, list_all, list_any}
use Rattle.std.specs.Option.{option_map}
use Rattle.run_model.specs.declared.answers.Reply.{Reply}
use Rattle.run_model.specs.declared.answers.Reply.TheVariants as reply
use Rattle.run_model.specs.declared.refusals.Refusal.TheVariants as refusal
use Rattle.run_model.specs.declared.tasks.Outcome.TheVariants as outcome
use Rattle.run_model.specs.State.{State}
use Rattle.run_disk.specs.Disk.{DiskState}
use Rattle.book_model.specs.Books.{BookView}
use Rattle.book_model.specs.Steps.{StepsOn}
use Rattle.drive_parts.specs.declared.heard.Heard.{Heard}
use Rattle.drive_steps.specs.declared.cancels.CommandCancel.{CommandCancel}
use Rattle.drive_steps.specs.declared.cancels.GroupCancel.{GroupCancel}
use Rattle.drive_steps.specs.declared.heard.Ended.{Ended}
use Rattle.drive_steps.specs.Cancels.{AreTaken, are_started, canceled_text, had_room}
use Rattle.drive_steps.specs.Heard.{AreNoted}
use Rattle.drive_steps.specs.Rooms.{are_housed}
use Rattle.drive_steps.specs.Rounds.{record_of}
use Rattle.drive_steps.specs.Stops.{own_why}
use Rattle.drive_runs.specs.declared.living.Living.{Living}
use Rattle.drive_runs.specs.declared.records.Recorded.{Recorded}
use Rattle.drive_runs.specs.declared.records.Recorded.TheVariants as recorded
use Rattle.drive_runs.specs.declared.sittings.Sitting.{Sitting}
use Rattle.drive_runs.specs.Faults.{first_fault}
use Rattle.drive_runs.specs.Living.{after_ends, as_recorded, is_among, reason_of, with_reason}
use Rattle.drive_runs.specs.Living.{without}
use Rattle.drive_runs.specs.Sittings.{IsSameNight}

-- ---- what was heard

-- The living tries, once those of canceled commands have to stop.
abbrev pub once_canceled : List CommandCancel → List Living → List Living
once_canceled cancels living =
    map (λ (one : Living). with_reason (own_why cancels one.command) one) living

-- The end of a try of which nobody knows how it ended. It is recorded if the try had to stop.
abbrev pub end_of_gone : List Living → (task : ℕ) → Option Ended
end_of_gone living task =
    option_map (λ why. record { task = task; outcome = outcome.Failure (canceled_text why) })
    (reason_of living task)

-- The ends that are recorded.
abbrev pub ends_of : List Living → Heard → List Ended
ends_of living heard =
    map (as_recorded living) heard.ends.items ++ filter_map (end_of_gone living) heard.gone.items

-- ---- what is recorded

-- The step was taken, or it had nothing to do: the scope was done already, or the clock was there.
abbrev pub is_met : Reply → Bool
is_met (reply.Refused refusal.AlreadyDone) = true
is_met (reply.Refused refusal.ClockNotForward) = true
is_met (reply.Refused why) = false
is_met (reply.Faulty fault) = false
is_met _ = true

-- Each step was, and for each cancel of a command a task was submitted and started. This many ends
-- came first.
abbrev pub is_whole : (ends : ℕ) → List CommandCancel → List Reply → Bool
is_whole ends taken replies =
    list_all is_met replies && are_started taken (drop ends replies)

-- One of the tries that live after the ends is gone: nobody knows how it ended.
abbrev pub some_gone : (gone : List ℕ) → List Living → Bool
some_gone gone living = list_any (λ (one : Living). is_among gone one.task) living

-- What is remembered then: the ends of these tries, and that no other tries live than those that
-- lived and haven't ended. Those of canceled commands have to stop.
pub record Remembers (s : Sitting) (heard : Heard) (ends : List Ended) (now : ℕ) (t : Sitting)
    : Type 0 where
  pub same : IsSameNight s t
  pub sizes : t.kept.sizes ≡ s.kept.sizes
  pub noted : AreNoted s.kept.ends t.kept.ends ends now
  pub living : t.kept.living.items
      ≡ without (after_ends (once_canceled heard.cancels.items s.kept.living.items) ends)
      heard.gone.items

-- The steps that record what was heard were played: the ends, a task for the cancel of each command
-- that can be canceled, the cancels of groups, and the time. And it is remembered which tries live
-- then.
pub record WasPlayed {D : Type 0} (state : D → DiskState) (s : Sitting) (heard : Heard) (now : ℕ)
    (old : BookView D) (t : Sitting) (new : BookView D) : Type 0 where
  pub ends : List Ended
  pub ended : ends ≡ ends_of (once_canceled heard.cancels.items s.kept.living.items) heard
  pub taken : List CommandCancel
  pub those : AreTaken old.session.state s.names s.plan.commands.items ends heard.cancels.items
      taken
  pub replies : List Reply
  pub played : StepsOn state old (record_of old.session.state s.names s.plan.commands.items ends
      taken heard.done.items now) replies new
  pub gone : Bool
  pub gone_is : gone ≡ some_gone heard.gone.items
      (after_ends (once_canceled heard.cancels.items s.kept.living.items) ends)
  pub remembers : Remembers s heard ends now t

-- What became of it, by the replies. It is recorded well if each step was taken or had nothing to
-- do, and no try is gone. The store has to be opened again if the log had no room for a step, or if
-- only a try is gone. If a step was refused for another reason, the store is full. A fault comes
-- before all this.
abbrev pub Becomes : (ends : ℕ) → List CommandCancel → List Reply → (gone : Bool) → Recorded
    → Type 0
Becomes ends taken replies gone recorded.Well =
    (is_whole ends taken replies ≡ true) × (gone ≡ false)
Becomes ends taken replies gone recorded.Reopen =
    (first_fault replies ≡ None)
    × ((had_room replies ≡ false) ⊎ ((is_whole ends taken replies ≡ true) × (gone ≡ true)))
Becomes ends taken replies gone recorded.Full =
    (first_fault replies ≡ None) × (had_room replies ≡ true)
    × (is_whole ends taken replies ≡ false)
Becomes ends taken replies gone (recorded.Faulty fault) = first_fault replies ≡ Some fault

abbrev pub HasBecome : {D : Type 0} → (D → DiskState) → Sitting → Heard → (now : ℕ)
    → (old : BookView D) → Recorded → Sitting → (new : BookView D) → Type 0
HasBecome state s heard now old how t new =
    (row : WasPlayed state s heard now old t new)
    × Becomes (length row.ends) row.taken row.replies row.gone how

-- ---- what can't be recorded

-- Each group of the plan has a group of the store, and what was heard names commands and groups of
-- the plan.
abbrev pub is_of_plan : State → Sitting → Heard → Bool
is_of_plan p s heard =
    are_housed p s.names
    && (list_all (λ (cancel : CommandCancel). ltb cancel.command (length s.plan.commands.items))
    heard.cancels.items
    && list_all (λ (cancel : GroupCancel). ltb cancel.group (length s.names.groups.items))
    heard.done.items)

-- These cancels can get tasks: there are fewer than 4,096 of them, and the store has fewer than
-- 32,768 tasks.
abbrev pub are_numbered : State → Sitting → (taken : List CommandCancel) → Bool
are_numbered p s taken =
    list_all (λ (cancel : CommandCancel). ltb cancel.command (length s.plan.commands.items)) taken
    && (ltb (length taken) 4096 && ltb (length p.work.tasks) 32768)

-- No steps can be made that record what was heard.
abbrev pub HasNoSteps : State → Sitting → (ends : List Ended) → Heard → Type 0
HasNoSteps p s ends heard =
    (is_of_plan p s heard ≡ false)
    ⊎ ((taken : List CommandCancel)
    × AreTaken p s.names s.plan.commands.items ends heard.cancels.items taken
    × (are_numbered p s taken ≡ false))

-- What became of what was heard. If no steps can be made for it, the store is full.
abbrev pub Records : {D : Type 0} → (D → DiskState) → Sitting → Heard → (now : ℕ)
    → (old : BookView D) → Recorded → Sitting → (new : BookView D) → Type 0
Records state s heard now old recorded.Full t new =
    (HasNoSteps old.session.state s
    (ends_of (once_canceled heard.cancels.items s.kept.living.items) heard) heard × (new ≡ old))
    ⊎ HasBecome state s heard now old recorded.Full t new
Records state s heard now old how t new = HasBecome state s heard now old how t new
