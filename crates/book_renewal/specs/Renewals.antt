-- What a renewal returns, and what it leaves of its two disks. It reads one store, and makes
-- another one from the part of its state that is kept.
--
-- It reports the first fault that applies, in this order: Old(WrongSize) if the old disk doesn't
-- have the size of a store; New(WrongSize) if the new one doesn't; Memory; the faults of a recovery
-- of the old disk, beginning with DiskFailed, as Old; Old(NumbersSpent) if its state has 2^62
-- events or more; Memory for the marks of kept rows; New(WrongSize) if the kept part doesn't fit
-- into a store of the new disk's size; New(DiskFailed).
use Rattle.std.specs.Prelude.{◌≡◌, ◌⊎◌, ℕ, false, List, None, Result, IfOk, MatchResult}
use Rattle.run_model.specs.declared.faults.Fault.TheVariants.{DiskFailed, WrongSize}
use Rattle.run_model.specs.declared.layouts.Layout.{Layout}
use Rattle.run_model.specs.Layouts.{layout_of, store_len}
use Rattle.run_model.specs.State.{State}
use Rattle.run_disk.specs.Disk.{DiskState}
use Rattle.run_disk.specs.Runs.{OnlyReads}
use Rattle.state_renewal.specs.Renewed.{fits_in, renewed, renewed_in}
use Rattle.book_model.specs.declared.migrations.MigrateFault.{MigrateFault}
use Rattle.book_model.specs.declared.migrations.MigrateFault.TheVariants as why
use Rattle.book_model.specs.Migrations.{AreUncalled, HasFailedWrite, HasReadStore, HasWritten}
use Rattle.book_model.specs.Migrations.{ReadsNot, CrashesWriting, new_disk}
use Rattle.book_model.specs.Openings.{HasStoreSize}
use Rattle.book_model.specs.Stores.{Stores}

-- Both disks have the size of a store.
pub record AreStores (old given : DiskState) : Type 0 where
  pub from : Layout
  pub to : Layout
  pub old_size : old.size ≡ store_len from
  pub new_size : given.size ≡ store_len to

-- ---- the new disk, which is written

-- Suppose that the new disk held zeros, and that a crash could have left nothing else. Then a crash
-- at any moment since leaves a disk that stores nothing, or the renewed state in the layout of its
-- size.
abbrev pub CrashesInRenewal : State → DiskState → DiskState → Type 0
CrashesInRenewal p given new =
    (layout : Layout) → given.size ≡ store_len layout
    → CrashesWriting (renewed_in layout p) given new

-- A call failed, or the disk is spent. The disk may hold no store.
pub record HasFailedRenewed (p : State) (given new : DiskState) : Type 0 where
  pub layout : Layout
  pub size : given.size ≡ store_len layout
  pub failed : HasFailedWrite (renewed_in layout p) given new

-- The kept part of the state doesn't fit into a store of the new disk's size.
pub record HasNoRoom (p : State) (given : DiskState) : Type 0 where
  pub layout : Layout
  pub size : given.size ≡ store_len layout
  pub full : fits_in layout (renewed p) ≡ false

-- Why no store was made of a state, for each fault that reports it, and what is left of the new
-- disk.
abbrev pub WritesNot : {E : Type 0} → (E → DiskState) → State → E → MigrateFault → E → Type 0
WritesNot to p given why.Memory new = new ≡ given
WritesNot to p given (why.New WrongSize) new = HasNoRoom p (to given) × (new ≡ given)
WritesNot to p given (why.New DiskFailed) new = HasFailedRenewed p (to given) (to new)
WritesNot to p given fault new = ⊥

-- ---- a renewal

-- The old store was read, and the new one was made from the kept part of its state.
pub record HasRenewed (old read given new : DiskState) : Type 0 where
  pub layout : Layout
  pub size : given.size ≡ store_len layout
  pub state : State
  pub found : HasReadStore state old read
  pub written : HasWritten layout (renewed_in layout state) given new

-- The old store was read, but no new one was made from its state.
pub record HasNotRenewed
    {E : Type 0} (to : E → DiskState) (old read : DiskState) (given : E) (fault : MigrateFault)
    (new : E) : Type 0 where
  pub state : State
  pub found : HasReadStore state old read
  pub none : WritesNot to state given fault new

-- Why no store was made, for each fault that reports it, and what is left of the two disks. If the
-- old disk or the new one doesn't have the size of a store, neither was called. Otherwise no state
-- to copy was read from the old disk, or a state was read and no store was made from it.
abbrev pub RenewsNot : {D E : Type 0} → (D → DiskState) → (E → DiskState) → D → E → MigrateFault
    → D → E → Type 0
RenewsNot from to old given fault read new =
    ((fault ≡ why.Old WrongSize) × (layout_of (from old).size ≡ None)
    × AreUncalled old given read new)
    ⊎ ((fault ≡ why.New WrongSize) × HasStoreSize (from old)
    × (layout_of (to given).size ≡ None) × AreUncalled old given read new)
    ⊎ (AreStores (from old) (to given) × ReadsNot from old fault read × (new ≡ given))
    ⊎ (AreStores (from old) (to given)
    × HasNotRenewed to (from old) (from read) given fault new)

-- The result of a renewal: the new disk, and also the fault if there is one.
abbrev pub AnswersRenewal : {D E : Type 0} → (D → DiskState) → (E → DiskState) → D → E
    → Result E (MigrateFault × E) → D → Type 0
AnswersRenewal from to old given result read =
    MatchResult result (λ new. HasRenewed (from old) (from read) (to given) (to new))
    (λ e. RenewsNot from to old given e.0 read e.1)

-- What a renewal returns and leaves. The old disk is only read. Suppose that it is honest and
-- stores a state. At Ok every crash of an honest new disk leaves that state, renewed. If the new
-- disk held zeros, a crash at any moment since the start leaves nothing or the renewed state.
pub record Renews {D E : Type 0} (from : D → DiskState) (to : E → DiskState) (old : D)
    (given : E) (result : Result E (MigrateFault × E)) (read : D) : Type 0 where
  pub answer : AnswersRenewal from to old given result read
  pub reads : (from old).honest → OnlyReads (from old) (from read)
  pub now : (from old).honest → (to given).honest → (p : State) → Stores (from old).now p
      → IfOk result (λ new. (layout : Layout) → (to given).size ≡ store_len layout
      → (x : List ℕ) → (to new).images x → Stores x (renewed_in layout p))
  pub any_moment : (from old).honest → (p : State) → Stores (from old).now p
      → CrashesInRenewal p (to given) (to (new_disk result))
