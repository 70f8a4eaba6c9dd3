-- A book over a disk from one opening to the next, as the moves of the machine that it is.
use Rattle.std.specs.Prelude.{◌≡◌, ◌∷◌, [], ℕ, List, Result, Ok}
use Rattle.run_model.specs.declared.answers.Reply.{Reply}
use Rattle.run_model.specs.declared.commands.Step.{Step}
use Rattle.run_model.specs.declared.faults.Fault.{Fault}
use Rattle.run_model.specs.State.{State}
use Rattle.run_disk.specs.Disk.{DiskState, IsAtRest}
use Rattle.book_model.specs.Books.{BookView, CarriesOn, IsDurable, IsReached, IsSafe, acked}
use Rattle.book_model.specs.Machines.{GoesOn, Machine, Move, Open, OpenInVain, Running, Runs}
use Rattle.book_model.specs.Machines.{Crash, Stored, Take}
use Rattle.book_model.specs.Openings.{Opens, disk_after}
use Rattle.book_model.specs.Steps.{AnswersStep, StepsOn, playing}
use Rattle.book_model.specs.Stores.{Stores}

-- Either there is a disk, or a book is open over it.
pub data Standing (D : Type 0) : Type 0 where
  Closed : D → Standing D
  Opened : BookView D → Standing D

-- The next opening finds a disk that is honest and at rest, and holds one of the contents that may
-- have been left.
pub record Finds {D : Type 0} (state : D → DiskState) (left : List ℕ → Type 0) (next : D)
    : Type 0 where
  pub honest : (state next).honest
  pub rest : IsAtRest (state next)
  pub content : left (state next).now

-- An opening returns a book or a fault, and whatever it returns is given up, because a crash came
-- at some moment since it began. The next opening finds what that crash left.
pub record CutsOpening {D : Type 0} (state : D → DiskState) (given next : D) : Type 0 where
  pub result : Result (BookView D) (Fault × D)
  pub opens : Opens state given result
  pub finds : Finds state ((state (disk_after result)).since (state given).clock) next

-- A crash comes at some moment while these steps are taken, and nobody sees their replies. (The
-- disk after all the steps knows what a crash at each earlier moment would have left.) The next
-- opening finds what that crash left.
pub record CutsSteps {D : Type 0} (state : D → DiskState) (h : BookView D) (more : List Step)
    (next : D) : Type 0 where
  pub unreported : List Reply
  pub last : BookView D
  pub takes : StepsOn state h more unreported last
  pub finds : Finds state ((state last.journal.disk).since (state h.journal.disk).clock) next

-- A book makes this move.
abbrev pub Does :
    {D : Type 0} → (D → DiskState) → Standing D → Move → Standing D → Type 0
Does state (Closed given) Open (Opened h) = Opens state given (Ok h)
Does state (Closed given) OpenInVain (Closed next) = CutsOpening state given next
Does state (Opened h) (Take x r) (Opened new) = AnswersStep state h x r new × CarriesOn state h new
Does state (Opened h) (Crash more) (Closed next) = CutsSteps state h more next
Does state _ _ _ = ⊥

-- A book makes these moves, one after another.
abbrev pub DoesAll :
    {D : Type 0} → (D → DiskState) → Standing D → List Move → Standing D → Type 0
DoesAll state old [] new = new ≡ old
DoesAll state old (move ∷ moves) new =
    (next : Standing _) × Does state old move next × DoesAll state next moves new

-- ---- that it is this machine

-- The disk is honest and at rest, and stores this state.
pub record LiesWith {D : Type 0} (state : D → DiskState) (d : D) (p : State) : Type 0 where
  pub honest : (state d).honest
  pub rest : IsAtRest (state d)
  pub stores : Stores (state d).now p

-- The book holds the same as the machine.
pub record HoldsAs {D : Type 0} (state : D → DiskState) (h : BookView D) (m : Running)
    : Type 0 where
  pub safe : IsSafe state h
  pub durable : IsDurable state h
  pub reached : IsReached h
  pub book : m.book ≡ playing h
  pub acked : m.acked ≡ acked h

-- The book is in the same situation as the machine.
abbrev pub StandsAs : {D : Type 0} → (D → DiskState) → Standing D → Machine → Type 0
StandsAs state (Closed d) (Stored p) = LiesWith state d p
StandsAs state (Opened h) (Runs m) = HoldsAs state h m
StandsAs state _ _ = ⊥

-- The machine makes these moves, too, reply for reply, and after them the book is in the same
-- situation as the machine.
pub record GoesAs {D : Type 0} (state : D → DiskState) (m : Machine) (moves : List Move)
    (new : Standing D) : Type 0 where
  pub end : Machine
  pub goes : GoesOn m moves end
  pub stands : StandsAs state new end
