-- The result of reading the old disk in a migration, and the effect on the new one.
use Rattle.run_model.proofs.Common.{◌≡◌, ◌<◌, ◌≤◌, ◌+◌, ℕ, List, Ok, Err, length, take}
use Rattle.run_model.proofs.Common.{refl, sym, subst, ap, arith, IfErr, OnOk, Result}
use Rattle.run_model.proofs.Common.{length-take-le, State}
use Rattle.run_model.specs.declared.layouts.Layout.{Layout}
use Rattle.run_model.specs.declared.faults.Fault.TheVariants as fault
use Rattle.run_model.specs.declared.layouts.Layout.TheVariants.{Small, Large}
use Rattle.row_view.specs.declared.heads.ImageVersion.TheVariants.{Two}
use Rattle.row_view.specs.Image.{greatest_image}
use Rattle.run_disk.specs.Disk.{DiskState}
use Rattle.run_journal.specs.Stores.{sizes_of}
use Rattle.book_model.specs.declared.migrations.MigrateFault.{MigrateFault}
use Rattle.book_model.specs.declared.migrations.MigrateFault.TheVariants as why
use Rattle.book_model.specs.Migrations.{AreSized, HasMigrated, HasReadStore, MigratesNot}
use Rattle.book_model.specs.Migrations.{ReadsNot, Writes, widened}

-- ---- the old disk

-- Nothing is made from a store that isn't read.
pub unread_not : {D E : Type 0} (from : D → DiskState) (to : E → DiskState) (old read : D)
    (given : E) (w : MigrateFault) → AreSized (from old) (to given) → ReadsNot from old w read
    → MigratesNot from to old given w read given
unread_not from to old read given why.Memory sized is = (sized, is, refl)
unread_not from to old read given (why.Old fault.WrongSize) sized is = absurd is
unread_not from to old read given (why.Old f) sized is = (sized, is, refl)
unread_not from to old read given (why.New f) sized is = absurd is

-- ---- the new disk

-- A small image and its head fit into a slot of a large store.
pub fits_large : (layout : Layout) (count : ℕ) (body : List ℕ) → layout ≡ Small
    → count ≤ greatest_image Two layout → length body ≡ 12 + greatest_image Two Small
    → length (take (12 + count) body) < (sizes_of Large).slot
fits_large layout count body is most size =
    let small = ap (greatest_image Two) is in
    let len = length-take-le (12 + count) body (omega (arith, most, size, small)) in
    omega (arith, len, most, small)

-- ---- both

-- A small store was read, and a large one was made from it.
pub written_done : (old read given new : DiskState) (r : Result (Unit {0}) MigrateFault)
    (p : State) → AreSized old given → HasReadStore p old read
    → Writes Large (widened p) given r new → OnOk r (HasMigrated old read given new)
written_done old read given new (Ok x) p sized found written = record {
  sized = sized;
  state = p;
  found = found;
  written = written;
}
written_done old read given new (Err w) p sized found written = tt

-- A small store was read, but a call of the new disk failed.
pub written_not : {D E : Type 0} (from : D → DiskState) (to : E → DiskState) (old read : D)
    (given new : E) (r : Result (Unit {0}) MigrateFault) (p : State)
    → AreSized (from old) (to given) → HasReadStore p (from old) (from read)
    → IfErr r (λ w. w ≡ why.New fault.DiskFailed) → Writes Large (widened p) (to given) r (to new)
    → IfErr r (λ w. MigratesNot from to old given w read new)
written_not from to old read given new (Ok x) p sized found reported failed = tt
written_not from to old read given new (Err w) p sized found reported failed =
    subst (λ v. MigratesNot from to old given v read new) (sym reported) (record {
      sized = sized;
      state = p;
      found = found;
      failed = failed;
    })
