-- The result of reading the old disk in a copy, and a new disk that isn't called.
use Rattle.run_model.proofs.Common.{◌≡◌, ◌⊎◌, inl, inr, ◌<◌, ◌^◌, Err, refl, sym, ap, subst, arith}
use Rattle.run_model.proofs.Common.{State}
use Rattle.run_model.specs.declared.faults.Fault.{Fault}
use Rattle.run_model.specs.declared.faults.Fault.TheVariants as fault
use Rattle.run_disk.specs.Disk.{DiskState, IsDisk}
use Rattle.run_disk.specs.Runs.{OnlyReads}
use Rattle.run_disk.proofs.RunLemmas.{reads_leave_only, reads_none}
use Rattle.book_model.specs.declared.migrations.MigrateFault.{MigrateFault}
use Rattle.book_model.specs.declared.migrations.MigrateFault.TheVariants as why
use Rattle.book_model.specs.Migrations.{HasReadTooMany, ReadsNot, CrashesWriting}
use Rattle.book_model.specs.Openings.{RecoversNone}
use Rattle.book_model.specs.Stores.{Stores, StoresNone, StoresNothingOr}
use Rattle.book_model.proofs.OpeningLemmas.{HasCause, recovers_cause, recovers_none}
use Rattle.book_model.proofs.OpeningLemmas.{recovers_reads, recovers_state}
use Rattle.book_model.proofs.Stopping.{zeros_nothing}
use Rattle.book_model.proofs.Storing.{stores_not_both, stores_one}

-- A new disk that wasn't called is as it was. If it held zeros, it stores nothing.
pub uncalled_stops : (p : State) (s : DiskState) → IsDisk s → CrashesWriting p s s
uncalled_stops p s disk honest zeros =
    reads_leave_only (StoresNothingOr p) s s (reads_none s disk)
    (λ x left. zeros_nothing p x (zeros x left))

module _ {D : Type 0} (from : D → DiskState) (old read : D) where
  -- What stops the reading of the old disk: too many events, or what stops a recovery.
  old_reported : (f : Fault) → ReadsNot from old (why.Old f) read
      → ((f ≡ fault.NumbersSpent) × HasReadTooMany (from old) (from read))
      ⊎ RecoversNone from old f read
  old_reported fault.WrongSize is = absurd is
  old_reported fault.Memory is = absurd is
  old_reported fault.NumbersSpent is = inl (refl, is)
  old_reported f is = inr is

  not_memory : (f : Fault) → ReadsNot from old (why.Old f) read → f ≡ fault.Memory → ⊥
  not_memory f is reported = subst (λ g. ReadsNot from old (why.Old g) read) reported is

  pub unread_cause : (w : MigrateFault) → w ≡ why.Old fault.DiskFailed → ReadsNot from old w read
      → HasCause (from old) (from read)
  unread_cause w reported is =
      recovers_cause from old read (Err fault.DiskFailed)
      (subst (λ v. ReadsNot from old v read) reported is) refl

module _ {D : Type 0} (from : D → DiskState) (old read : D) (disk : IsDisk (from old)) where
  pub unread_reads : (w : MigrateFault) → (from old).honest → ReadsNot from old w read
      → OnlyReads (from old) (from read)
  unread_reads why.Memory honest is =
      subst (λ d. OnlyReads (from old) (from d)) (sym is) (reads_none (from old) disk)
  unread_reads (why.Old f) honest is =
      elim (old_reported from old read f is) [
        | inl many ↦ many.1.recovered.read.only honest
        | inr none ↦ recovers_reads from old read (Err f) disk honest none
      ]
  unread_reads (why.New f) honest is = absurd is

  -- A state that the old disk stores is read, but for memory and the device.
  pub unread_state : (w : MigrateFault) (p : State) → (from old).honest
      → Stores (from old).now p → p.count < 2 ^ 62 → ReadsNot from old w read
      → (w ≡ why.Memory) ⊎ (w ≡ why.Old fault.DiskFailed)
  unread_state why.Memory p honest stores few is = inl refl
  unread_state (why.Old f) p honest stores few is =
      elim (old_reported from old read f is) [
        | inl many ↦
            let same = ap (λ (q : State). q.count)
            (stores_one (from old).now many.1.state p (many.1.recovered.holds honest) stores) in
            absurd (omega (arith, same, few, many.1.many))
        | inr none ↦ elim (recovers_state from old read (Err f) p disk honest none stores) [
          | inl memory ↦ absurd (not_memory from old read f is memory)
          | inr failed ↦ inr (ap (λ g. why.Old g) failed)
        ]
      ]
  unread_state (why.New f) p honest stores few is = absurd is

  -- Why it stores none is told, but for memory and the device.
  pub unread_none : (w : MigrateFault) (other : Fault) → (from old).honest
      → StoresNone (from old).now other → ReadsNot from old w read
      → (w ≡ why.Old other) ⊎ (w ≡ why.Memory) ⊎ (w ≡ why.Old fault.DiskFailed)
  unread_none why.Memory other honest none is = inr (inl refl)
  unread_none (why.Old f) other honest none is =
      elim (old_reported from old read f is) [
        | inl many ↦
            absurd (stores_not_both (from old).now many.1.state other
            (many.1.recovered.holds honest) none)
        | inr stops ↦ elim (recovers_none from old read (Err f) other disk honest stops none) [
          | inl same ↦ inl (ap (λ g. why.Old g) same)
          | inr (inl memory) ↦ absurd (not_memory from old read f is memory)
          | inr (inr failed) ↦ inr (inr (ap (λ g. why.Old g) failed))
        ]
      ]
  unread_none (why.New f) other honest none is = absurd is
