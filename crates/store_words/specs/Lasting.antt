-- What a subcommand that is cut anywhere leaves of a store, and what the next opening finds of it.
--
-- What is premised of files, `FindsLeft`, no clause of `Files` promises: a run gives back the disk
-- that it leaves, and what an opening finds of it is for whoever has files that keep it.
use Rattle.std.specs.Prelude.{◌≡◌, ◌⊎◌, ◌≤◌, ℕ, List}
use Rattle.run_model.specs.Allowed.{IsPrefix}
use Rattle.run_model.specs.Event.{Event}
use Rattle.run_model.specs.State.{State}
use Rattle.run_disk.specs.Disk.{DiskState}
use Rattle.run_disk.specs.Runs.{OnlyReads, Passed}
use Rattle.run_journal.specs.Pairs.{AreZeros}
use Rattle.book_model.specs.Standing.{Finds}
use Rattle.book_model.specs.Stores.{Stores, restarted}

-- An opening finds under a name an honest disk at rest, which holds what a crash since this moment
-- may have left of the disk that had the name last.
abbrev pub FindsLeft : {D : Type 0} → (D → DiskState) → D → D → D → Type 0
FindsLeft state from left next = Finds state ((state left).since (state from).clock) next

-- State p leads to state q by the events of a run: q is p, or the state to which a restart of p and
-- a prefix of the events lead. The prefix contains the first n events, which were acknowledged.
pub record LeadsBy (p : State) (events : List Event) (n : ℕ) (q : State) : Type 0 where
  pub prefix : (q ≡ p) ⊎ IsPrefix (restarted p) events 0 q
  pub holds : n ≤ q.count

-- The disk was only read.
pub record IsReadAlone (old new : DiskState) : Type 0 where
  pub passed : Passed old new
  pub reads : old.honest → OnlyReads old new

-- A store was made in this way (Ends) on a disk that was honest and held zeros, and a crash could
-- have left nothing else. A crash came at any moment. Either a store is found, or there may be none
-- yet.
pub record CutsMaking {D : Type 0} (state : D → DiskState)
    (Ends : (made left : D) → Type 0) (next : D) : Type 0 where
  pub made : D
  pub left : D
  pub honest : (state made).honest
  pub zeros : (x : List ℕ) → (state made).images x → AreZeros x
  pub ends : Ends made left
  pub finds : FindsLeft state made left next
  pub stored : State
  pub stores : Stores (state next).now stored
