-- The results and effects of migrations, fault by fault.
use Rattle.run_model.proofs.Common.{◌≡◌, ◌⊎◌, inl, inr, ◌<◌, ◌^◌, Ok, Err, refl, sym, subst}
use Rattle.run_model.proofs.Common.{MatchResult, Result, State}
use Rattle.run_model.specs.declared.faults.Fault.{Fault}
use Rattle.run_model.specs.declared.faults.Fault.TheVariants as fault
use Rattle.run_disk.specs.Disk.{DiskState, IsDisk}
use Rattle.run_disk.specs.Runs.{OnlyReads}
use Rattle.run_disk.proofs.RunLemmas.{reads_none}
use Rattle.book_model.specs.declared.migrations.MigrateFault.{MigrateFault}
use Rattle.book_model.specs.declared.migrations.MigrateFault.TheVariants as why
use Rattle.book_model.specs.Migrations.{
  AreSized,
  HasMigrated,
  Migrates,
  MigratesNot,
  CrashesWriting,
}
use Rattle.book_model.specs.Migrations.{widened}
use Rattle.book_model.specs.Stores.{Stores, StoresNone}
use Rattle.book_model.proofs.CopyLemmas.{uncalled_stops, unread_cause, unread_none, unread_reads}
use Rattle.book_model.proofs.CopyLemmas.{unread_state}
use Rattle.book_model.proofs.OpeningLemmas.{HasCause}
use Rattle.book_model.proofs.Storing.{stores_not_both, stores_one}

-- What a store means, it means once.
other_stops : (p q : State) (given new : DiskState) → q ≡ p → CrashesWriting (widened q) given new
    → CrashesWriting (widened p) given new
other_stops p q given new same crashes = subst
    (λ r. CrashesWriting (widened r) given new) same crashes

module _ {D E : Type 0} (from : D → DiskState) (to : E → DiskState) (old read : D) (given : E)
    (disk : IsDisk (from old)) where
  -- ---- what is left

  not_only : (w : MigrateFault) (new : E) → (from old).honest
      → MigratesNot from to old given w read new → OnlyReads (from old) (from read)
  not_only (why.Old fault.WrongSize) new honest is =
      subst (λ d. OnlyReads (from old) (from d)) (sym is.1.0) (reads_none (from old) disk)
  not_only (why.New fault.WrongSize) new honest is =
      subst (λ d. OnlyReads (from old) (from d)) (sym is.2.0) (reads_none (from old) disk)
  not_only (why.New fault.DiskFailed) new honest is = is.found.recovered.read.only honest
  not_only (why.New f) new honest is = absurd is
  not_only w new honest is = unread_reads from old read disk w honest is.1

  same_stops : (p : State) (new : E) → IsDisk (to given) → new ≡ given
      → CrashesWriting (widened p) (to given) (to new)
  same_stops p new new_disk same =
      subst (λ e. CrashesWriting (widened p) (to given) (to e)) (sym same)
      (uncalled_stops (widened p) (to given) new_disk)

  not_stops : (w : MigrateFault) (new : E) → IsDisk (to given) → (from old).honest → (p : State)
      → Stores (from old).now p → MigratesNot from to old given w read new
      → CrashesWriting (widened p) (to given) (to new)
  not_stops (why.Old fault.WrongSize) new new_disk honest p stores is =
      same_stops p new new_disk is.1.1
  not_stops (why.New fault.WrongSize) new new_disk honest p stores is =
      same_stops p new new_disk is.2.1
  not_stops (why.New fault.DiskFailed) new new_disk honest p stores is =
      other_stops p is.state (to given) (to new)
      (stores_one (from old).now is.state p (is.found.recovered.holds honest) stores)
      is.failed.crashes
  not_stops (why.New f) new new_disk honest p stores is = absurd is
  not_stops w new new_disk honest p stores is = same_stops p new new_disk is.2

  -- ---- the answers

  -- No large store was made.
  pub migrates_not : (w : MigrateFault) (new : E) → IsDisk (to given)
      → MigratesNot from to old given w read new
      → Migrates from to old given (Err (w, new)) read
  migrates_not w new new_disk is = record {
    answer = is;
    reads = λ honest. not_only w new honest is;
    now = λ honest new_honest p stores. tt;
    any_moment = λ honest p stores. not_stops w new new_disk honest p stores is;
  }

  -- It was made.
  pub migrates : (new : E) → HasMigrated (from old) (from read) (to given) (to new)
      → Migrates from to old given (Ok new) read
  migrates new is = record {
    answer = is;
    reads = is.found.recovered.read.only;
    now = λ honest new_honest p stores x left.
        subst (λ q. Stores x (widened q))
        (stores_one (from old).now is.state p (is.found.recovered.holds honest) stores)
        (is.written.stores new_honest x left);
    any_moment = λ honest p stores.
        other_stops p is.state (to given) (to new)
        (stores_one (from old).now is.state p (is.found.recovered.holds honest) stores)
        is.written.crashes;
  }

  -- ---- what is told

  reported_state : (w : MigrateFault) (new : E) (p : State) → (from old).honest
      → AreSized (from old) (to given) → Stores (from old).now p → p.count < 2 ^ 62
      → MigratesNot from to old given w read new
      → (w ≡ why.Memory) ⊎ (w ≡ why.Old fault.DiskFailed) ⊎ (w ≡ why.New fault.DiskFailed)
  reported_state (why.Old fault.WrongSize) new p honest sized stores few is =
      absurd (is.0 sized.small)
  reported_state (why.New fault.WrongSize) new p honest sized stores few is =
      absurd (is.1 sized.large)
  reported_state (why.New fault.DiskFailed) new p honest sized stores few is = inr (inr refl)
  reported_state (why.New f) new p honest sized stores few is = absurd is
  reported_state w new p honest sized stores few is =
      elim (unread_state from old read disk w p honest stores few is.1)
      [ inl memory ↦ inl memory | inr failed ↦ inr (inl failed) ]

  pub migrates_state : (result : Result E (MigrateFault × E)) (p : State) → (from old).honest
      → AreSized (from old) (to given) → Migrates from to old given result read
      → Stores (from old).now p → p.count < 2 ^ 62
      → MatchResult result (λ new. Unit {0}) (λ e. (e.0 ≡ why.Memory)
      ⊎ (e.0 ≡ why.Old fault.DiskFailed) ⊎ (e.0 ≡ why.New fault.DiskFailed))
  migrates_state (Ok new) p honest sized is stores few = tt
  migrates_state (Err e) p honest sized is stores few =
      reported_state e.0 e.1 p honest sized stores few is.answer

  abbrev IsReportedOf : MigrateFault → Fault → Type 0
  IsReportedOf w f = (w ≡ why.Old f) ⊎ (w ≡ why.Memory) ⊎ (w ≡ why.Old fault.DiskFailed)

  reported_none : (w : MigrateFault) (new : E) (other : Fault) → (from old).honest
      → AreSized (from old) (to given) → StoresNone (from old).now other
      → MigratesNot from to old given w read new → IsReportedOf w other
  reported_none (why.Old fault.WrongSize) new other honest sized none is =
      absurd (is.0 sized.small)
  reported_none (why.New fault.WrongSize) new other honest sized none is =
      absurd (is.1 sized.large)
  reported_none (why.New fault.DiskFailed) new other honest sized none is =
      absurd (stores_not_both (from old).now is.state other
      (is.found.recovered.holds honest) none)
  reported_none (why.New f) new other honest sized none is = absurd is
  reported_none w new other honest sized none is =
      unread_none from old read disk w other honest none is.1

  pub migrates_none : (result : Result E (MigrateFault × E)) (other : Fault) → (from old).honest
      → AreSized (from old) (to given) → Migrates from to old given result read
      → StoresNone (from old).now other
      → MatchResult result (λ new. ⊥) (λ e. IsReportedOf e.0 other)
  migrates_none (Ok new) other honest sized is none =
      stores_not_both (from old).now is.answer.state other
      (is.answer.found.recovered.holds honest) none
  migrates_none (Err e) other honest sized is none =
      reported_none e.0 e.1 other honest sized none is.answer

  -- ---- causes

  old_cause : (w : MigrateFault) (new : E) → w ≡ why.Old fault.DiskFailed
      → MigratesNot from to old given w read new → HasCause (from old) (from read)
  old_cause w new reported is =
      unread_cause from old read (why.Old fault.DiskFailed) refl
      (subst (λ v. MigratesNot from to old given v read new) reported is).1

  pub migrates_old_cause : (result : Result E (MigrateFault × E))
      → Migrates from to old given result read
      → MatchResult result (λ new. Unit {0})
      (λ e. e.0 ≡ why.Old fault.DiskFailed → HasCause (from old) (from read))
  migrates_old_cause (Ok new) is = tt
  migrates_old_cause (Err e) is = λ reported. old_cause e.0 e.1 reported is.answer

  new_cause : (w : MigrateFault) (new : E) → w ≡ why.New fault.DiskFailed
      → MigratesNot from to old given w read new → HasCause (to given) (to new)
  new_cause w new reported is =
      (subst (λ v. MigratesNot from to old given v read new) reported is).failed.cause

  pub migrates_new_cause : (result : Result E (MigrateFault × E))
      → Migrates from to old given result read
      → MatchResult result (λ new. Unit {0})
      (λ e. e.0 ≡ why.New fault.DiskFailed → HasCause (to given) (to e.1))
  migrates_new_cause (Ok new) is = tt
  migrates_new_cause (Err e) is = λ reported. new_cause e.0 e.1 reported is.answer
