-- What is left of a store that is opened, played over, flushed and opened again.
use Rattle.std.specs.Prelude.{◌≡◌, ◌⊎◌, ◌<◌, ◌++◌, ℕ, List, [], Result, Ok, Err, Some, false}
use Rattle.run_model.specs.declared.answers.Reply.{Reply}
use Rattle.run_model.specs.declared.commands.Step.{Step}
use Rattle.run_model.specs.declared.faults.Fault.TheVariants.{DiskFailed, Memory, NumbersSpent}
use Rattle.run_model.specs.declared.faults.Trouble.{Trouble}
use Rattle.run_model.specs.declared.faults.Trouble.TheVariants.{Faulty, Refused}
use Rattle.run_model.specs.declared.refusals.Refusal.TheVariants.{Broken}
use Rattle.run_model.specs.Allowed.{run}
use Rattle.run_model.specs.Event.{Event}
use Rattle.run_model.specs.Session.{accepted, Session, begun_at}
use Rattle.run_model.specs.State.{State}
use Rattle.run_disk.specs.Disk.{DiskState, last_moment}
use Rattle.run_disk.specs.Runs.{LeavesOnly}
use Rattle.model_laws.specs.Restarts.{IsRestart}
use Rattle.book_model.specs.Books.{CarriesOn, BookView, IsOpened}
use Rattle.book_model.specs.Nights.{HasKept, opened_from}
use Rattle.book_model.specs.Plays.{Playing, Plays, sound, taken}
use Rattle.book_model.specs.Steps.{PlaysInto}
use Rattle.book_model.specs.Stores.{Stores, StoresNothingOr, StoresOpened, restarted}

-- The disk that is returned, in a book or next to a fault.
abbrev pub disk_in : {D X : Type 0} → Result (BookView D) (X × D) → D
disk_in (Ok b) = b.journal.disk
disk_in (Err stopped) = stopped.1

-- ---- at the end

-- In a user's words: a store of state p was opened. The steps were answered one after another, as a
-- book may answer them, and the book wasn't broken at their end. All accepted events, in order and
-- without a gap, lead from the opening to one state. The store was opened again after a restart of
-- that state. The restart interrupts the tasks that were running. Apart from that it changes only
-- the count, and what an interruption does to a group and to the scope of the group.
pub record HasLasted (p : State) (steps : List Step) (before replies : List Reply) (b : Session)
    : Type 0 where
  pub answers : List Reply
  pub appended : replies ≡ before ++ answers
  pub end : Playing
  pub answered : Plays (sound (opened_from p)) steps answers end
  pub sound : end.broken ≡ false
  pub last : State
  pub reached : run (restarted p) (accepted (opened_from p) steps) ≡ Some last
  pub restart : IsRestart last (restarted last)
  pub reopened : b ≡ begun_at (restarted last)

-- ---- at each moment

-- The bytes store the restart of the state to which these events lead.
pub record StoresReopened (start : State) (events : List Event) (bytes : List ℕ) : Type 0 where
  pub last : State
  pub reached : run start events ≡ Some last
  pub stores : Stores bytes (restarted last)

-- The bytes store state p; or a state to which a restart of p and a prefix of the events (perhaps
-- an empty one) lead; or the second restart, after all of them.
abbrev pub HoldsOne : State → List Event → List ℕ → Type 0
HoldsOne p events bytes =
    Stores bytes p
    ⊎ HasKept (restarted p) events [] bytes
    ⊎ StoresReopened (restarted p) events bytes

-- A crash at any moment from `old` to `new` leaves a disk that holds one of these states. The
-- events are those of the steps whose replies come last in the list.
pub record HasStayed (p : State) (steps : List Step) (before replies : List Reply)
    (old new : DiskState) : Type 0 where
  pub answers : List Reply
  pub appended : replies ≡ before ++ answers
  pub held : LeavesOnly (HoldsOne p (accepted (opened_from p) (taken steps answers))) old new

-- The bytes store nothing, or one of these states.
abbrev pub HoldsOneOrNothing : State → List Event → List ℕ → Type 0
HoldsOneOrNothing p events bytes = StoresNothingOr p bytes ⊎ HoldsOne p events bytes

-- The same for a disk that is formatted first. Until the format is done, the disk stores nothing or
-- only root.
pub record HasStayedNew (p : State) (steps : List Step) (before replies : List Reply)
    (old new : DiskState) : Type 0 where
  pub answers : List Reply
  pub appended : replies ≡ before ++ answers
  pub held : LeavesOnly (HoldsOneOrNothing p (accepted (opened_from p) (taken steps answers))) old
      new

-- ---- calls that end early

-- A device call failed between the two moments, or the disk is spent.
abbrev pub DeviceFails : DiskState → DiskState → Type 0
DeviceFails old new = (old.failures < new.failures) ⊎ (new.clock ≡ last_moment)

-- Why the calls end early: memory was refused; the store's numbers are used up; or a device call
-- failed. Then they report that fault, or, if an earlier step met it, that the book is broken.
abbrev pub StopsFor : DiskState → DiskState → Trouble → Type 0
StopsFor old new why =
    (why ≡ Faulty Memory)
    ⊎ (why ≡ Faulty NumbersSpent)
    ⊎ (((why ≡ Faulty DiskFailed) ⊎ (why ≡ Refused Broken)) × DeviceFails old new)

-- ---- intermediate states

-- A store of state p was opened over this disk, and the steps were played over the book. No public
-- contract cites this.
pub record IsPlayed {D : Type 0} (state : D → DiskState) (given : D) (p : State)
    (steps : List Step) (before : List Reply) (b : BookView D) (replies : List Reply)
    : Type 0 where
  pub first : BookView D
  pub opened : IsOpened state given p first
  pub leaves : LeavesOnly (StoresOpened p) (state given) (state first.journal.disk)
  pub plays : PlaysInto state first steps before b replies
  pub on : CarriesOn state first b
