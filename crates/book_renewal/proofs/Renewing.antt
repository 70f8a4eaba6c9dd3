-- The effect of a renewal on the new disk, and its result.
use Rattle.run_model.proofs.Common.{◌≡◌, inl, inr, ◌<◌, ◌≤◌, ◌+◌, ℕ, List, [], Ok, Err}
use Rattle.run_model.proofs.Common.{length, take, refl, sym, subst, ◌∙◌, arith, IfErr}
use Rattle.run_model.proofs.Common.{Result, length-take-le, store_len, State}
use Rattle.run_model.specs.declared.faults.Fault.TheVariants as fault
use Rattle.run_model.specs.declared.layouts.Layout.{Layout}
use Rattle.run_model.specs.declared.layouts.Layout.TheVariants.{Small, Large}
use Rattle.row_view.specs.declared.heads.ImageVersion.TheVariants.{Two}
use Rattle.row_view.specs.Image.{greatest_image, image}
use Rattle.row_view.specs.Keeping.{IsImage}
use Rattle.run_disk.specs.Disk.{DiskState, IsDisk}
use Rattle.run_disk.specs.Runs.{OnlyReads}
use Rattle.run_disk.proofs.RunLemmas.{reads_none}
use Rattle.run_journal.specs.Stores.{sizes_of}
use Rattle.run_journal.proofs.LayoutLemmas.{one_layout}
use Rattle.state_renewal.specs.Renewed.{renewed, renewed_in}
use Rattle.book_model.specs.declared.migrations.MigrateFault.{MigrateFault}
use Rattle.book_model.specs.declared.migrations.MigrateFault.TheVariants as why
use Rattle.book_model.specs.Meanings.{MeansIn}
use Rattle.book_model.specs.Migrations.{HasReadStore, ReadsNot, CrashesWriting}
use Rattle.book_model.specs.Stores.{Stores}
use Rattle.book_model.proofs.CopyLemmas.{uncalled_stops, unread_reads}
use Rattle.book_model.proofs.Meaning.{fresh_means}
use Rattle.book_model.proofs.Storing.{stores_one}
use Rattle.book_renewal.specs.Renewals.{AreStores, HasRenewed, Renews, RenewsNot, CrashesInRenewal}
use Rattle.book_renewal.specs.Renewals.{WritesNot}

-- ---- the new disk

slot_room : (layout : Layout) → 12 + greatest_image Two layout < (sizes_of layout).slot
slot_room Small = omega arith
slot_room Large = omega arith

-- An image and its head fit into a slot.
pub fits_slot : (layout : Layout) (count : ℕ) (body : List ℕ) → count ≤ greatest_image Two layout
    → length body ≡ 12 + greatest_image Two layout
    → length (take (12 + count) body) < (sizes_of layout).slot
fits_slot layout count body most size =
    let room = slot_room layout in
    let len = length-take-le (12 + count) body (omega (arith, most, size)) in
    omega (arith, len, room, most)

pub renewed_means : (layout : Layout) (p : State)
    → IsImage Two layout (image (renewed p)) (renewed_in layout p)
    → MeansIn Two layout (image (renewed_in layout p)) [] (renewed_in layout p)
renewed_means layout p is =
    fresh_means layout (renewed_in layout p) is.has_layout is.ranged is.consistent

-- The size of the new disk determines the layout of what it stores.
sized_stops : (layout : Layout) (p : State) (given new : DiskState) → given.size ≡ store_len layout
    → CrashesWriting (renewed_in layout p) given new → CrashesInRenewal p given new
sized_stops layout p given new size crashes other sized =
    subst (λ l. CrashesWriting (renewed_in l p) given new)
    (one_layout layout other (sym size ∙ sized)) crashes

-- ---- both

pub are_stores : (old given : DiskState) (from to : Layout) → old.size ≡ store_len from
    → given.size ≡ store_len to → AreStores old given
are_stores old given from to old_size new_size =
    record { from = from; to = to; old_size = old_size; new_size = new_size }

-- Nothing is made from a store that isn't read.
pub unread_not : {D E : Type 0} (from : D → DiskState) (to : E → DiskState) (old read : D)
    (given : E) (w : MigrateFault) → AreStores (from old) (to given) → ReadsNot from old w read
    → RenewsNot from to old given w read given
unread_not from to old read given w sized is = inr (inr (inl (sized, is, refl)))

-- The store was read, but none was made.
pub written_not : {D E : Type 0} (from : D → DiskState) (to : E → DiskState) (old read : D)
    (given new : E) (r : Result (Unit {0}) MigrateFault) (p : State)
    → AreStores (from old) (to given) → HasReadStore p (from old) (from read)
    → IfErr r (λ w. WritesNot to p given w new)
    → IfErr r (λ w. RenewsNot from to old given w read new)
written_not from to old read given new (Ok x) p sized found none = tt
written_not from to old read given new (Err w) p sized found none =
    inr (inr (inr (sized, record { state = p; found = found; none = none })))

-- ---- the answers

other_stops : (p q : State) (given new : DiskState) → q ≡ p → CrashesInRenewal q given new
    → CrashesInRenewal p given new
other_stops p q given new same crashes = subst (λ r. CrashesInRenewal r given new) same crashes

module _ {D E : Type 0} (from : D → DiskState) (to : E → DiskState) (old read : D) (given : E)
    (disk : IsDisk (from old)) where
  not_only : (w : MigrateFault) (new : E) → (from old).honest
      → RenewsNot from to old given w read new → OnlyReads (from old) (from read)
  not_only w new honest (inl is) =
      subst (λ d. OnlyReads (from old) (from d)) (sym is.2.0) (reads_none (from old) disk)
  not_only w new honest (inr (inl is)) =
      subst (λ d. OnlyReads (from old) (from d)) (sym is.3.0) (reads_none (from old) disk)
  not_only w new honest (inr (inr (inl is))) = unread_reads from old read disk w honest is.1
  not_only w new honest (inr (inr (inr is))) = is.1.found.recovered.read.only honest

  same_stops : (p : State) (new : E) → IsDisk (to given) → new ≡ given
      → CrashesInRenewal p (to given) (to new)
  same_stops p new new_disk same =
      subst (λ e. CrashesInRenewal p (to given) (to e)) (sym same)
      (λ layout sized. uncalled_stops (renewed_in layout p) (to given) new_disk)

  write_stops : (w : MigrateFault) (new : E) → IsDisk (to given) → (p q : State) → q ≡ p
      → WritesNot to q given w new → CrashesInRenewal p (to given) (to new)
  write_stops why.Memory new new_disk p q same is = same_stops p new new_disk is
  write_stops (why.New fault.WrongSize) new new_disk p q same is =
      same_stops p new new_disk is.1
  write_stops (why.New fault.DiskFailed) new new_disk p q same is =
      other_stops p q (to given) (to new) same
      (sized_stops is.layout q (to given) (to new) is.size is.failed.crashes)
  write_stops w new new_disk p q same is = absurd is

  not_stops : (w : MigrateFault) (new : E) → IsDisk (to given) → (from old).honest → (p : State)
      → Stores (from old).now p → RenewsNot from to old given w read new
      → CrashesInRenewal p (to given) (to new)
  not_stops w new new_disk honest p stores (inl is) = same_stops p new new_disk is.2.1
  not_stops w new new_disk honest p stores (inr (inl is)) = same_stops p new new_disk is.3.1
  not_stops w new new_disk honest p stores (inr (inr (inl is))) = same_stops p new new_disk is.2
  not_stops w new new_disk honest p stores (inr (inr (inr is))) =
      write_stops w new new_disk p is.1.state
      (stores_one (from old).now is.1.state p (is.1.found.recovered.holds honest) stores) is.1.none

  -- No store was made.
  pub renews_not : (w : MigrateFault) (new : E) → IsDisk (to given)
      → RenewsNot from to old given w read new → Renews from to old given (Err (w, new)) read
  renews_not w new new_disk is = record {
    answer = is;
    reads = λ honest. not_only w new honest is;
    now = λ honest new_honest p stores. tt;
    any_moment = λ honest p stores. not_stops w new new_disk honest p stores is;
  }

  -- It was made.
  pub renews : (new : E) → HasRenewed (from old) (from read) (to given) (to new)
      → Renews from to old given (Ok new) read
  renews new is = record {
    answer = is;
    reads = is.found.recovered.read.only;
    now = λ honest new_honest p stores layout sized x left.
        subst (λ k. Stores x (renewed_in k p)) (one_layout is.layout layout (sym is.size ∙ sized))
        (subst (λ q. Stores x (renewed_in is.layout q))
        (stores_one (from old).now is.state p (is.found.recovered.holds honest) stores)
        (is.written.stores new_honest x left));
    any_moment = λ honest p stores.
        other_stops p is.state (to given) (to new)
        (stores_one (from old).now is.state p (is.found.recovered.holds honest) stores)
        (sized_stops is.layout is.state (to given) (to new) is.size is.written.crashes);
  }
