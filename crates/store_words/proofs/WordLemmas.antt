-- What a word leaves of a store, wherever it was cut, and what the next opening finds of it.
use Rattle.std.proofs.Common.{◌≡◌, ◌≤◌, ◌+◌, ◌∙◌, ℕ, List, arith, inl, inr}
use Rattle.std.proofs.Common.{refl, subst, sym, Option, Ok, Err}
use Rattle.std.specs.Prelude.{Result, ⊤}
use Rattle.run_model.specs.declared.faults.Fault.{Fault}
use Rattle.run_model.specs.declared.faults.Fault.TheVariants as fault
use Rattle.run_model.specs.declared.layouts.Layout.{Layout}
use Rattle.run_model.specs.Allowed.{IsPrefix}
use Rattle.run_model.specs.Event.{Event}
use Rattle.run_model.specs.Layouts.{store_len}
use Rattle.run_model.specs.State.{State, formatted}
use Rattle.run_disk.specs.Disk.{DiskState, IsDisk}
use Rattle.run_disk.specs.Runs.{LeavesOnly, OnlyReads}
use Rattle.run_disk.proofs.RunLemmas.{leaves_only_more, reads_leave_only, reads_none, reads_rest}
use Rattle.run_journal.specs.Pairs.{AreZeros}
use Rattle.run_journal.proofs.LayoutLemmas.{one_layout}
use Rattle.state_renewal.specs.Renewed.{renewed_in}
use Rattle.book_model.specs.Migrations.{widened}
use Rattle.book_model.specs.Openings.{FormatsNot, HasRecovered, RecoversNone}
use Rattle.book_model.specs.Standing.{LiesWith}
use Rattle.book_model.specs.Stores.{Stores, StoresNothingOr, StoresOpened, restarted}
use Rattle.book_model.specs.declared.migrations.MigrateFault.{MigrateFault}
use Rattle.book_model.proofs.PrefixLemmas.{prefix_least}
use Rattle.book_model.proofs.Stopping.{zeros_nothing}
use Rattle.book_model.proofs.Storing.{stores_not_both}
use Rattle.console_lines.specs.declared.faults.RunFault.{RunFault}
use Rattle.state_views.specs.declared.views.View.{View}
use Rattle.store_words.specs.Lasting.{CutsMaking, IsReadAlone, LeadsBy}
use Rattle.store_words.specs.Sources.{Serves}
use Rattle.store_words.specs.Stores.{FormatEnds, InspectEnds, MigratesRead, Remakes, Shows}
use Rattle.store_words.specs.Stores.{view_text}
use Rattle.store_words.specs.declared.renewals.Kept.{Kept}

-- ---- what events lead to

-- The bytes store what these events lead to.
pub record IsLedBy (p : State) (events : List Event) (n : ℕ) (bytes : List ℕ) : Type 0 where
  pub state : State
  pub leads : LeadsBy p events n state
  pub stores : Stores bytes state

pub prefix_led : (p q : State) (events : List Event) (least n : ℕ)
    → IsPrefix (restarted p) events least q → n ≤ (restarted p).count + least
    → LeadsBy p events n q
prefix_led p q events least n prefix below =
    let counts = prefix_least (restarted p) q events least prefix in
    record {
      prefix = inr (record {
        many = prefix.many;
        enough = omega arith;
        within = prefix.within;
        reached = prefix.reached;
      });
      holds = omega (arith, counts, below);
    }

pub opened_led : (p : State) (events : List Event) (x : List ℕ) → StoresOpened p x
    → IsLedBy p events 0 x
opened_led p events x (inl before) = record {
  state = p;
  leads = record { prefix = inl refl; holds = omega arith };
  stores = before;
}
opened_led p events x (inr after) = record {
  state = restarted p;
  leads = prefix_led p (restarted p) events 0 0
      (record { many = 0; enough = omega arith; within = omega arith; reached = refl })
      (omega arith);
  stores = after;
}

module _ {D : Type 0} (state : D → DiskState) (disk : (d : D) → IsDisk (state d)) where
  -- ---- reading

  pub lies_read : (given read : D) (p : State) → IsReadAlone (state given) (state read)
      → LiesWith state given p → LiesWith state read p
  lies_read given read p alone lies =
      let reads = alone.reads lies.honest in
      record {
        honest = alone.passed.honest lies.honest;
        rest = reads_rest (state given) (state read) reads lies.rest;
        stores = subst (λ x. Stores x p) (sym reads.now) lies.stores;
      }

  unread : (given : D) → IsReadAlone (state given) (state given)
  unread given = record {
    passed = record {
      size = refl;
      honest = λ honest. honest;
      honest_before = λ honest. honest;
      later = omega arith;
      failures_later = omega arith;
    };
    reads = λ honest. reads_none (state given) (disk given);
  }

  none_alone : (why : Fault) (old new : D) → RecoversNone state old why new
      → IsReadAlone (state old) (state new)
  none_alone fault.WrongSize old new (sized, same) =
      subst (λ d. IsReadAlone (state old) (state d)) (sym same) (unread old)
  none_alone fault.Memory old new (sized, same) =
      subst (λ d. IsReadAlone (state old) (state d)) (sym same) (unread old)
  none_alone fault.DiskFailed old new failed =
      record { passed = failed.passed; reads = failed.only }
  none_alone fault.NumbersSpent old new none = absurd none
  none_alone fault.NotAStore old new found =
      record { passed = found.read.passed; reads = found.read.only }
  none_alone fault.BadSlot old new found =
      record { passed = found.read.passed; reads = found.read.only }
  none_alone fault.BadImage old new found =
      record { passed = found.read.passed; reads = found.read.only }
  none_alone fault.BadBatch old new found =
      record { passed = found.read.passed; reads = found.read.only }
  none_alone fault.BadRecord old new found =
      record { passed = found.read.passed; reads = found.read.only }
  none_alone fault.BadEvent old new found =
      record { passed = found.read.passed; reads = found.read.only }

  pub shows_alone : {T : Type 0} (text : State → List ℕ) (old new : D) (answer : Result T RunFault)
      (w0 w1 : Option (List ℕ)) → Shows text state old answer new w0 w1
      → IsReadAlone (state old) (state new)
  shows_alone text old new answer w0 w1 (inl (p, recovered, prints)) =
      record { passed = recovered.read.passed; reads = recovered.read.only }
  shows_alone text old new answer w0 w1 (inr (why, reported, none, quiet)) =
      none_alone why old new none

  pub inspected_alone : (view : View) (given left : D) (done : Result ⊤ RunFault)
      (w0 w1 : Option (List ℕ)) → InspectEnds view state given done left w0 w1
      → IsReadAlone (state given) (state left)
  inspected_alone view given left done w0 w1 ends =
      shows_alone (view_text view) given left done w0 w1 ends

  pub source_alone : (given read : D) → Serves (state given) (state read)
      → IsReadAlone (state given) (state read)
  source_alone given read (p, has) = record {
    passed = has.recovered.read.passed;
    reads = has.recovered.read.only;
  }

  -- ---- making

  -- What is read after a disk was made leaves nothing else.
  then_read : (P : List ℕ → Type 0) (made mid left : D) → LeavesOnly P (state made) (state mid)
      → OnlyReads (state mid) (state left) → LeavesOnly P (state made) (state left)
  then_read P made mid left first reads =
      leaves_only_more P P P (state made) (state mid) (state left) first
      (reads_leave_only P (state mid) (state left) reads
      (λ x is. first.each x ((disk mid).counts_now (state made).clock x first.later is)))
      (λ x is. is) (λ x is. is)

  blank : (q : State) (made : D) → ((x : List ℕ) → (state made).images x → AreZeros x)
      → LeavesOnly (StoresNothingOr q) (state made) (state made)
  blank q made zeros =
      reads_leave_only (StoresNothingOr q) (state made) (state made)
      (reads_none (state made) (disk made)) (λ x is. zeros_nothing q x (zeros x is))

  -- A store that is found is the one that was made.
  pub made_lies : (Ends : D → D → Type 0) (next : D) (q : State)
      → (cut : CutsMaking state Ends next)
      → LeavesOnly (StoresNothingOr q) (state cut.made) (state cut.left) → LiesWith state next q
  made_lies Ends next q cut leaves = record {
    honest = cut.finds.honest;
    rest = cut.finds.rest;
    stores = by (leaves.each (state next).now cut.finds.content);
  }
    where
      by : StoresNothingOr q (state next).now → Stores (state next).now q
      by (inl (why, none)) =
          absurd (stores_not_both (state next).now cut.stored why cut.stores none)
      by (inr is) = is

  pub format_leaves : {T : Type 0} (made left : D) (layout : Layout) (done : Result T RunFault)
      (w0 w1 : Option (List ℕ)) → (state made).honest
      → ((x : List ℕ) → (state made).images x → AreZeros x)
      → (state made).size ≡ store_len layout → FormatEnds state made done left w0 w1
      → LeavesOnly (StoresNothingOr (formatted layout)) (state made) (state left)
  format_leaves made left layout done w0 w1 honest zeros sized (inl (formats, rest, prints)) =
      subst (λ l. LeavesOnly (StoresNothingOr (formatted l)) (state made) (state left))
      (one_layout formats.layout layout (sym formats.sized ∙ sized))
      (formats.crashes honest zeros)
  format_leaves made left layout done w0 w1 honest zeros sized (inr (why, reported, not, quiet)) =
      by why not
    where
      P : List ℕ → Type 0
      P = StoresNothingOr (formatted layout)

      same : left ≡ made → LeavesOnly P (state made) (state left)
      same is =
          subst (λ d. LeavesOnly P (state made) (state d)) (sym is)
          (blank (formatted layout) made zeros)

      by : (why : Fault) → FormatsNot state made why left → LeavesOnly P (state made) (state left)
      by fault.WrongSize (none, is) = same is
      by fault.Memory (store, is) = same is
      by fault.DiskFailed failed =
          subst (λ l. LeavesOnly (StoresNothingOr (formatted l)) (state made) (state left))
          (one_layout failed.sized.0 layout (sym failed.sized.1 ∙ sized))
          (failed.crashes honest zeros)
      by fault.NotAStore none = absurd none
      by fault.BadSlot none = absurd none
      by fault.BadImage none = absurd none
      by fault.BadBatch none = absurd none
      by fault.BadRecord none = absurd none
      by fault.BadEvent none = absurd none
      by fault.NumbersSpent none = absurd none

  pub migrate_leaves : (looked made read left : D) (p : State) (done : Result ℕ MigrateFault)
      → LiesWith state looked p → (state made).honest
      → ((x : List ℕ) → (state made).images x → AreZeros x)
      → MigratesRead state state looked made done read left
      → LeavesOnly (StoresNothingOr (widened p)) (state made) (state left)
  migrate_leaves looked made read left p (Ok count) lies honest zeros
      (new, q, migrates, recovered, is) =
      let leaves = migrates.any_moment lies.honest p lies.stores honest zeros in
      then_read (StoresNothingOr (widened p)) made new left leaves
      (recovered.read.only (migrates.answer.written.passed.honest honest))
  migrate_leaves looked made read left p (Err fault) lies honest zeros (inl migrates) =
      migrates.any_moment lies.honest p lies.stores honest zeros
  migrate_leaves looked made read left p (Err fault) lies honest zeros
      (inr (new, why, reported, migrates, none)) =
      let leaves = migrates.any_moment lies.honest p lies.stores honest zeros in
      then_read (StoresNothingOr (widened p)) made new left leaves
      ((none_alone why new left none).reads (migrates.answer.written.passed.honest honest))

  recovered_lies : (q p : State) (old new : D) → LiesWith state old p
      → HasRecovered q (state old) (state new) → LiesWith state new p
  recovered_lies q p old new lies recovered =
      lies_read old new p
      (record { passed = recovered.read.passed; reads = recovered.read.only }) lies

  pub renew_leaves : (looked made read left : D) (p : State) (layout : Layout)
      (done : Result Kept MigrateFault) → LiesWith state looked p → (state made).honest
      → ((x : List ℕ) → (state made).images x → AreZeros x)
      → (state made).size ≡ store_len layout
      → Remakes state state looked made done read left
      → LeavesOnly (StoresNothingOr (renewed_in layout p)) (state made) (state left)
  renew_leaves looked made read left p layout (Ok kept) lies honest zeros sized has =
      let seen = recovered_lies has.before.0 p looked has.seen lies has.before.1 in
      let leaves = has.renewed.any_moment seen.honest p seen.stores layout sized honest zeros in
      then_read (StoresNothingOr (renewed_in layout p)) made has.made left leaves
      (has.behind.1.read.only (has.renewed.answer.written.passed.honest honest))
  renew_leaves looked made read left p layout (Err fault) lies honest zeros sized
      (inl (why, reported, none, same)) =
      subst (λ d. LeavesOnly (StoresNothingOr (renewed_in layout p)) (state made) (state d))
      (sym same) (blank (renewed_in layout p) made zeros)
  renew_leaves looked made read left p layout (Err fault) lies honest zeros sized
      (inr (q, seen, recovered, inl renews)) =
      let old = recovered_lies q p looked seen lies recovered in
      renews.any_moment old.honest p old.stores layout sized honest zeros
  renew_leaves looked made read left p layout (Err fault) lies honest zeros sized
      (inr (q, seen, recovered, inr (new, why, reported, renews, none))) =
      let old = recovered_lies q p looked seen lies recovered in
      let leaves = renews.any_moment old.honest p old.stores layout sized honest zeros in
      then_read (StoresNothingOr (renewed_in layout p)) made new left leaves
      ((none_alone why new left none).reads (renews.answer.written.passed.honest honest))
