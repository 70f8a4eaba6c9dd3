-- The source of a migration or of a renewal: an old store, which is read whole before the file of
-- the new one is opened or made.
use Rattle.std.specs.Prelude.{◌≡◌, ◌⊎◌, ℕ, Option, Some, None, option_and_then}
use Rattle.run_model.specs.declared.faults.Fault.{Fault}
use Rattle.run_model.specs.declared.faults.Fault.TheVariants.{NumbersSpent, WrongSize}
use Rattle.run_model.specs.declared.layouts.Layout.{Layout}
use Rattle.run_model.specs.declared.layouts.Layout.TheVariants.{Small, Large}
use Rattle.run_model.specs.Layouts.{layout_of}
use Rattle.run_model.specs.State.{State}
use Rattle.run_disk.specs.Disk.{DiskState}
use Rattle.book_model.specs.Migrations.{HasReadStore, HasReadTooMany}
use Rattle.book_model.specs.Openings.{RecoversNone}

abbrev larger : Layout → Option Layout
larger Small = Some Large
larger Large = None

-- The layout of the store that a migration makes from one with this number of bytes: large for a
-- small store.
abbrev pub migrated_layout : ℕ → Option Layout
migrated_layout size = option_and_then larger (layout_of size)

-- The disk was only read, and stores a state of fewer than 2^62 events.
abbrev pub Serves : (old read : DiskState) → Type 0
Serves old read = (p : State) × HasReadStore p old read

-- Why no store of this layout, if there is one, is made from the disk, for each fault that reports
-- it. Either its size is wrong, and no call was made; or it was only read, and stores no state, or
-- a state of 2^62 events or more.
abbrev pub ServesNot : {D : Type 0} → (D → DiskState) → (to : Option Layout) → (old : D)
    → Fault → (read : D) → Type 0
ServesNot state to old why read =
    ((why ≡ WrongSize) × (to ≡ None) × (read ≡ old))
    ⊎ ((why ≡ NumbersSpent) × HasReadTooMany (state old) (state read))
    ⊎ RecoversNone state old why read
