-- The facts about a book when a desk was made over it, and how the book carries on from there.
use Rattle.std.specs.Prelude.{◌≡◌, ◌≤◌, ◌-◌, ◌++◌, ℕ, Bool, true, false, List, ⊤}
use Rattle.std.specs.List.{list_all}
use Rattle.run_model.specs.Event.{Event}
use Rattle.run_model.specs.Event as event
use Rattle.run_model.specs.Session.{Session}
use Rattle.run_disk.specs.Disk.{DiskState, IsAtRest}
use Rattle.run_disk.specs.Runs.{LeavesOnly, Passed}
use Rattle.book_model.specs.Books.{BookView}
use Rattle.book_model.specs.Stores.{StoresPrefix}

-- What a book held at one moment, and the states of its disk at that moment and when the disk was
-- passed to the opening. Also whether commands may come after that moment, not only starts and
-- finishes.
pub record Opened : Type 1 where
  pub session : Session
  pub durable : ℕ
  pub disk : DiskState
  pub origin : DiskState
  pub commands : Bool

-- What is known about the book of a desk: nothing, or what it held when the desk was made.
pub data Known : Type 1 where
  Unsaid : Known
  From : Opened → Known

-- What a book holds now, if only starts and finishes may come after this moment.
abbrev pub opened_of : {D : Type 0} → (D → DiskState) → BookView D → Opened
opened_of state h = record {
  session = h.session;
  durable = h.durable;
  disk = state h.journal.disk;
  origin = state h.origin;
  commands = false;
}

-- Commands may come, too.
abbrev pub obeys : Known → Bool
obeys Unsaid = true
obeys (From from) = from.commands

-- The event is a start or a finish.
abbrev pub is_work : Event → Bool
is_work (event.Start task) = true
is_work (event.Finish task outcome) = true
is_work _ = false

-- A book carries on from what it held at that moment. Its opening stays the same, no acknowledged
-- event is lost, and events are only added: starts and finishes, and commands if they may come.
-- Suppose that the disk is honest, and was at rest when the book was opened. Then a crash at any
-- moment since leaves a state to which a prefix of the events leads, and the prefix contains every
-- event that was acknowledged at that moment.
pub record CarriesFrom {D : Type 0} (from : Opened) (state : D → DiskState) (h : BookView D)
    : Type 0 where
  pub start : h.session.start ≡ from.session.start
  pub added : List Event
  pub more : h.session.history ≡ from.session.history ++ added
  pub only : from.commands ≡ false → list_all is_work added ≡ true
  pub durable : from.durable ≤ h.durable
  pub passed : Passed from.disk (state h.journal.disk)
  pub rest : IsAtRest from.origin → IsAtRest (state h.origin)
  pub any_moment : from.disk.honest → IsAtRest from.origin
      → LeavesOnly
      (StoresPrefix from.session.start h.session.history (from.durable - from.session.start.count))
      from.disk (state h.journal.disk)

-- A book carries on from what is known about it.
abbrev pub Carries : {D : Type 0} → Known → (D → DiskState) → BookView D → Type 0
Carries Unsaid state h = ⊤
Carries (From from) state h = CarriesFrom from state h
