-- A book carries on over the steps of the lines that were run, and over what became of the next.
use Rattle.std.specs.Prelude.{◌≡◌, List, Option, Ok, Err, true, false, ℕ}
use Rattle.std.proofs.Common.{inl, inr, refl, sym, subst}
use Rattle.run_model.specs.declared.commands.Step.{Step}
use Rattle.run_model.specs.declared.faults.Trouble.TheVariants.{Refused}
use Rattle.run_model.specs.declared.refusals.Refusal.TheVariants.{Broken}
use Rattle.run_session.proofs.Staying.{stays_same}
use Rattle.run_disk.specs.Disk.{DiskState, IsDisk}
use Rattle.book_model.specs.Books.{CarriesOn, BookView, IsDurable}
use Rattle.book_model.proofs.BookLemmas.{carries_after, carries_none}
use Rattle.book_model.proofs.Rows.{row_carries}
use Rattle.console_lines.specs.declared.faults.RunFault.{RunFault}
use Rattle.console_lines.specs.declared.faults.RunFault.TheVariants as fault
use Rattle.console_lines.specs.declared.rejections.RejectedLine.{RejectedLine}
use Rattle.run_console.specs.declared.untils.Until.{Until}
use Rattle.run_console.specs.RunProgress.{Cut, DoesRun, Halts, Lasts, Ran, RunEnds}
use Rattle.run_console.specs.TakenSteps.{TakesAll, Tries, TriesLine}
use Rattle.run_console.proofs.Accounting.{true_false}

module _ {D : Type 0} (state : D → DiskState) (disk : (d : D) → IsDisk (state d)) where
  takes_carry : {old new : BookView D} {steps : List Step} → IsDurable state old
      → TakesAll state old steps new → CarriesOn state old new
  takes_carry {old} {new} {steps} durable p =
      row_carries state old new steps p.answers disk durable p.row

  same_carries : (old new : BookView D) → IsDurable state old → new ≡ old
      → CarriesOn state old new
  same_carries old new durable same =
      subst (λ (h : BookView D). CarriesOn state old h) (sym same)
      (carries_none state old (disk old.journal.disk) durable)

  tries_carry : (old new : BookView D) (why : RunFault) (next : List Step) → IsDurable state old
      → Tries state old why next new → CarriesOn state old new
  tries_carry old new (fault.Store why) next durable row =
      row_carries state old new next _ disk durable row
  tries_carry old new fault.Output next durable (inl same) = same_carries old new durable same
  tries_carry old new fault.Output next durable (inr row) =
      row_carries state old new next row.0 disk durable row.1
  tries_carry old new fault.Input next durable same = same_carries old new durable same
  tries_carry old new fault.InputTooLong next durable same = same_carries old new durable same
  tries_carry old new fault.Memory next durable same = same_carries old new durable same

  tried_carries : {old new : BookView D} {why : RunFault} {ran : List (List ℕ)} {next : List Step}
      → IsDurable state old → TriesLine state old why ran next new
      → CarriesOn state old new
  tried_carries {old} {new} {why} {next} durable p =
      let on = takes_carry durable p.taken in
      carries_after state old p.middle new on
      (tries_carry p.middle new why next on.images p.tried)

  -- ---- what a call says of both of its ends

  pub ran_carries : {lines : List (List ℕ)} {b c : BookView D} {before buffer : List ℕ}
      {w0 w1 : Option (List ℕ)}
      → IsDurable state b
      → Ran state lines b c before buffer w0 w1 → CarriesOn state b c
  ran_carries durable ran = takes_carry durable ran.taken

  pub cut_carries : {why : RunFault} {lines : List (List ℕ)} {b c : BookView D} {before : List ℕ}
      {w0 w1 : Option (List ℕ)}
      → IsDurable state b
      → Cut state why lines b c before w0 w1 → CarriesOn state b c
  cut_carries durable cut = tried_carries durable cut.tried

-- ---- a run

-- A book that is broken is refused.
pub run_refused : {D R W : Type 0} (state : D → DiskState) {remaining : R → Option (List ℕ)}
    {contents : W → Option (List ℕ)} {until : Until} {b : BookView D} {in0 : R} {out0 : W}
    → CarriesOn state b b → b.journal.broken ≡ true
    → DoesRun state remaining contents until (Err (fault.Store (Refused Broken)))
    b b in0 in0 out0 out0
run_refused state {b} on broken = record {
  runs = tt;
  stops = λ sound. absurd (true_false b.journal.broken broken sound);
  refused = λ _. (refl, refl, refl, refl);
  lasts = stays_same b.session.state;
  carries_on = on;
}

module _ {D R W : Type 0} (state : D → DiskState) {remaining : R → Option (List ℕ)}
    {contents : W → Option (List ℕ)} {until : Until} {b c : BookView D} {in0 in1 : R}
    {out0 out1 : W} where
  -- A run over one that isn't came to its end.
  pub run_ended : {rejection : Option RejectedLine} → ((d : D) → IsDisk (state d))
      → IsDurable state b
      → b.journal.broken ≡ false
      → RunEnds state until rejection b c (remaining in0) (remaining in1) (contents out0)
      (contents out1)
      → Lasts b.session c.session
      → DoesRun state remaining contents until (Ok rejection) b c in0 in1 out0 out1
  run_ended disk durable sound ends lasts = record {
    runs = ends;
    stops = λ _. tt;
    refused = λ broken. absurd (true_false b.journal.broken broken sound);
    lasts = lasts;
    carries_on = takes_carry state disk durable ends.taken;
  }

  -- Or a fault stopped it.
  pub run_halted : {why : RunFault} → ((d : D) → IsDisk (state d)) → IsDurable state b
      → b.journal.broken ≡ false
      → Halts state until why b c (remaining in0) (remaining in1) (contents out0) (contents out1)
      → DoesRun state remaining contents until (Err why) b c in0 in1 out0 out1
  run_halted disk durable sound halts = record {
    runs = tt;
    stops = λ _. halts.stops;
    refused = λ broken. absurd (true_false b.journal.broken broken sound);
    lasts = halts.lasts;
    carries_on = tried_carries state disk durable halts.stops.tried;
  }
