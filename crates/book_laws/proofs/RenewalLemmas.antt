-- The results of renewals, fault by fault.
use Rattle.std.proofs.Common.{◌≡◌, ◌⊎◌, inl, inr, ◌<◌, ◌^◌, ℕ, List, Bool, true, false, length}
use Rattle.std.proofs.Common.{Ok, Err, refl, sym, ap, subst, ◌∙◌}
use Rattle.std.specs.Prelude.{MatchResult, Result}
use Rattle.std.proofs.lemmas.Bool.{and_from, both_ways, le-leb, true≢false}
use Rattle.run_model.specs.declared.faults.Fault.{Fault}
use Rattle.run_model.specs.declared.faults.Fault.TheVariants as fault
use Rattle.run_model.specs.declared.layouts.Layout.{Layout}
use Rattle.run_model.specs.Layouts.{most_scopes, most_tasks, store_len}
use Rattle.run_model.specs.State.{State}
use Rattle.run_disk.specs.Disk.{DiskState, IsDisk}
use Rattle.run_journal.proofs.LayoutLemmas.{one_layout}
use Rattle.state_renewal.specs.Renewed.{fits_in, renewed, renewed_in}
use Rattle.book_model.specs.declared.migrations.MigrateFault.{MigrateFault}
use Rattle.book_model.specs.declared.migrations.MigrateFault.TheVariants as why
use Rattle.book_model.specs.Migrations.{ReadsNot}
use Rattle.book_model.specs.Stores.{Stores, StoresNone}
use Rattle.book_model.proofs.CopyLemmas.{unread_cause, unread_none, unread_state}
use Rattle.book_model.proofs.OpeningLemmas.{HasCause}
use Rattle.book_model.proofs.Storing.{stores_not_both, stores_one, stores_rules}
use Rattle.run_book.proofs.Copying.{no_layout}
use Rattle.book_renewal.specs.Renewals.{AreStores, Renews, WritesNot}

-- ---- faults

-- A fault of a size isn't one of a device.
abbrev is_size : MigrateFault → Bool
is_size (why.Old fault.WrongSize) = true
is_size (why.New fault.WrongSize) = true
is_size w = false

-- ---- sizes

-- A state that is stored in this layout fits there.
stored_fits : (layout : Layout) (p : State) (x : List ℕ) → Stores x (renewed_in layout p)
    → fits_in layout (renewed p) ≡ true
stored_fits layout p x stores =
    let rules = stores_rules x (renewed_in layout p) stores in
    and_from _ _ (le-leb (length (renewed p).tree.scopes) (most_scopes layout)
    rules.numbered.few_scopes)
    (le-leb (length (renewed p).work.tasks) (most_tasks layout) rules.numbered.few_tasks)

module _ {D E : Type 0} (from : D → DiskState) (to : E → DiskState) (old read : D) (given : E)
    (disk : IsDisk (from old)) where
  -- ---- a state that is stored

  -- Of a state with room a write stops for memory or the device alone.
  write_state : (w : MigrateFault) (new : E) (layout : Layout) (p q : State) → q ≡ p
      → (to given).size ≡ store_len layout → fits_in layout (renewed p) ≡ true
      → WritesNot to q given w new → (w ≡ why.Memory) ⊎ (w ≡ why.New fault.DiskFailed)
  write_state why.Memory new layout p q same sized fits is = inl refl
  write_state (why.New fault.WrongSize) new layout p q same sized fits is =
      absurd (both_ways (fits_in layout (renewed p))
      (ap (λ r. fits_in layout (renewed r)) (sym same)
      ∙ ap (λ k. fits_in k (renewed q))
      (one_layout layout is.0.layout (sym sized ∙ is.0.size))
      ∙ is.0.full) fits)
  write_state (why.New fault.DiskFailed) new layout p q same sized fits is = inr refl
  write_state w new layout p q same sized fits is = absurd is

  -- Why a write stops.
  write_full : (w : MigrateFault) (new : E) (q : State) → WritesNot to q given w new
      → (w ≡ why.Memory) ⊎ (w ≡ why.New fault.WrongSize) ⊎ (w ≡ why.New fault.DiskFailed)
  write_full why.Memory new q is = inl refl
  write_full (why.New fault.WrongSize) new q is = inr (inl refl)
  write_full (why.New fault.DiskFailed) new q is = inr (inr refl)
  write_full w new q is = absurd is

  pub renews_state : (result : Result E (MigrateFault × E)) (p : State) → (from old).honest
      → (sized : AreStores (from old) (to given)) → Renews from to old given result read
      → Stores (from old).now p → p.count < 2 ^ 62 → fits_in sized.to (renewed p) ≡ true
      → MatchResult result
      (λ new. (to given).honest → (x : List ℕ) → (to new).images x
      → Stores x (renewed_in sized.to p))
      (λ e. (e.0 ≡ why.Memory) ⊎ (e.0 ≡ why.Old fault.DiskFailed)
      ⊎ (e.0 ≡ why.New fault.DiskFailed))
  renews_state (Ok new) p honest sized is stores few fits = λ new_honest x left.
      is.now honest new_honest p stores sized.to sized.new_size x left
  renews_state (Err e) p honest sized is stores few fits =
      elim is.answer [
        | inl wrong ↦ absurd (no_layout (from old).size sized.from sized.old_size wrong.1)
        | inr (inl wrong) ↦ absurd (no_layout (to given).size sized.to sized.new_size wrong.2)
        | inr (inr (inl none)) ↦
            elim (unread_state from old read disk e.0 p honest stores few none.1)
            [ inl memory ↦ inl memory | inr failed ↦ inr (inl failed) ]
        | inr (inr (inr none)) ↦
            elim (write_state e.0 e.1 sized.to p none.1.state
            (stores_one (from old).now none.1.state p (none.1.found.recovered.holds honest) stores)
            sized.new_size fits none.1.none)
            [ inl memory ↦ inl memory | inr failed ↦ inr (inr failed) ]
      ]

  pub renews_full : (result : Result E (MigrateFault × E)) (p : State)
      → ((new : E) → IsDisk (to new)) → (from old).honest
      → (sized : AreStores (from old) (to given)) → Renews from to old given result read
      → Stores (from old).now p → p.count < 2 ^ 62 → fits_in sized.to (renewed p) ≡ false
      → MatchResult result (λ new. (to given).honest → ⊥)
      (λ e. (e.0 ≡ why.Memory) ⊎ (e.0 ≡ why.Old fault.DiskFailed)
      ⊎ (e.0 ≡ why.New fault.WrongSize) ⊎ (e.0 ≡ why.New fault.DiskFailed))
  renews_full (Ok new) p disks honest sized is stores few full = λ new_honest.
      let done = is.answer in
      let fits =
      stored_fits done.layout done.state (to new).now
      (done.written.stores new_honest (to new).now
      ((disks new).now_is_image (done.written.passed.honest new_honest))) in
      both_ways (fits_in sized.to (renewed p)) full
      (ap (λ q. fits_in sized.to (renewed q))
      (stores_one (from old).now p done.state stores (done.found.recovered.holds honest))
      ∙ ap (λ k. fits_in k (renewed done.state))
      (one_layout sized.to done.layout (sym sized.new_size ∙ done.size))
      ∙ fits)
  renews_full (Err e) p disks honest sized is stores few full =
      elim is.answer [
        | inl wrong ↦ absurd (no_layout (from old).size sized.from sized.old_size wrong.1)
        | inr (inl wrong) ↦ absurd (no_layout (to given).size sized.to sized.new_size wrong.2)
        | inr (inr (inl none)) ↦
            elim (unread_state from old read disk e.0 p honest stores few none.1)
            [ inl memory ↦ inl memory | inr failed ↦ inr (inl failed) ]
        | inr (inr (inr none)) ↦
            elim (write_full e.0 e.1 none.1.state none.1.none) [
              | inl memory ↦ inl memory
              | inr (inl size) ↦ inr (inr (inl size))
              | inr (inr failed) ↦ inr (inr (inr failed))
            ]
      ]

  -- ---- causes

  unwritten_old : (w : MigrateFault) (new : E) (q : State) → w ≡ why.Old fault.DiskFailed
      → WritesNot to q given w new → ⊥
  unwritten_old w new q reported is = subst (λ v. WritesNot to q given v new) reported is

  pub renews_old_cause : (result : Result E (MigrateFault × E))
      → Renews from to old given result read
      → MatchResult result (λ new. Unit {0})
      (λ e. e.0 ≡ why.Old fault.DiskFailed → HasCause (from old) (from read))
  renews_old_cause (Ok new) is = tt
  renews_old_cause (Err e) is = λ reported.
      elim is.answer [
        | inl wrong ↦ absurd (true≢false (ap is_size (sym wrong.0 ∙ reported)))
        | inr (inl wrong) ↦ absurd (true≢false (ap is_size (sym wrong.0 ∙ reported)))
        | inr (inr (inl unread)) ↦ unread_cause from old read e.0 reported unread.1
        | inr (inr (inr unwritten)) ↦
            absurd (unwritten_old e.0 e.1 unwritten.1.state reported unwritten.1.none)
      ]

  new_write_cause : (w : MigrateFault) (new : E) (q : State) → w ≡ why.New fault.DiskFailed
      → WritesNot to q given w new → HasCause (to given) (to new)
  new_write_cause w new q reported is =
      (subst (λ v. WritesNot to q given v new) reported is).failed.cause

  unread_new : (w : MigrateFault) → w ≡ why.New fault.DiskFailed → ReadsNot from old w read → ⊥
  unread_new w reported is = subst (λ v. ReadsNot from old v read) reported is

  pub renews_new_cause : (result : Result E (MigrateFault × E))
      → Renews from to old given result read
      → MatchResult result (λ new. Unit {0})
      (λ e. e.0 ≡ why.New fault.DiskFailed → HasCause (to given) (to e.1))
  renews_new_cause (Ok new) is = tt
  renews_new_cause (Err e) is = λ reported.
      elim is.answer [
        | inl wrong ↦ absurd (true≢false (ap is_size (sym wrong.0 ∙ reported)))
        | inr (inl wrong) ↦ absurd (true≢false (ap is_size (sym wrong.0 ∙ reported)))
        | inr (inr (inl unread)) ↦ absurd (unread_new e.0 reported unread.1)
        | inr (inr (inr unwritten)) ↦
            new_write_cause e.0 e.1 unwritten.1.state reported unwritten.1.none
      ]

  -- ---- no state

  pub renews_none : (result : Result E (MigrateFault × E)) (other : Fault) → (from old).honest
      → AreStores (from old) (to given) → Renews from to old given result read
      → StoresNone (from old).now other
      → MatchResult result (λ new. ⊥)
      (λ e. (e.0 ≡ why.Old other) ⊎ (e.0 ≡ why.Memory) ⊎ (e.0 ≡ why.Old fault.DiskFailed))
  renews_none (Ok new) other honest sized is none =
      stores_not_both (from old).now is.answer.state other
      (is.answer.found.recovered.holds honest) none
  renews_none (Err e) other honest sized is none =
      elim is.answer [
        | inl wrong ↦ absurd (no_layout (from old).size sized.from sized.old_size wrong.1)
        | inr (inl wrong) ↦ absurd (no_layout (to given).size sized.to sized.new_size wrong.2)
        | inr (inr (inl unread)) ↦ unread_none from old read disk e.0 other honest none unread.1
        | inr (inr (inr unwritten)) ↦
            absurd (stores_not_both (from old).now unwritten.1.state other
            (unwritten.1.found.recovered.holds honest) none)
      ]
