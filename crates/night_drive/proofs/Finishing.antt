-- A finish is the end of the command of its task.
use Rattle.std.proofs.Common.{◌≡◌, ◌∙◌, ◌==◌, ◌&&◌, ℕ, ◌+◌, not, Bool, true, false, cond, List}
use Rattle.std.proofs.Common.{Option, refl, sym, ap, arith}
use Rattle.std.proofs.Math.Bool.{and-false}
use Rattle.std.specs.Option.{option_map_or}
use Rattle.run_model.specs.declared.tasks.Outcome.{Outcome}
use Rattle.run_model.specs.declared.tasks.Outcome.TheVariants as outcome
use Rattle.run_model.specs.declared.tasks.Stage.{Stage}
use Rattle.run_model.specs.declared.tasks.Stage.TheVariants as stage
use Rattle.run_model.specs.Event as event
use Rattle.run_model.specs.State.{State}
use Rattle.run_model.specs.Step.{step}
use Rattle.run_model.specs.Tasks.{is_running}
use Rattle.run_model.specs.WorkChanges.{error_of, group_of_task, stage_of}
use Rattle.night_plan.specs.declared.facts.Known.{Known}
use Rattle.night_plan.specs.declared.facts.Phase.TheVariants.{Canceled, EndedOk, Failed}
use Rattle.night_plan.specs.Turns.{Cut, Fail, turned}
use Rattle.night_drive.specs.Seen.{is_try, known_of}
use Rattle.night_drive.specs.Tries.{has_failed, is_cancel, phase_by}
use Rattle.night_drive.specs.Turns.{FinishesEnd, end_of, is_task}
use Rattle.night_drive.proofs.Staying.{error_keeps, owned_stays, task_end_keeps}
use Rattle.night_drive.proofs.Turning.{HasRowAt, IsStaged, failing, known_other, known_own, row_at}

pub finished : (p : State) (n : ℕ) (o : Outcome)
    → IsStaged p (step p (event.Finish n o)) n (stage_of o)
finished p n o = record {
  tasks = refl;
  owned = owned_stays p (step p (event.Finish n o))
      (task_end_keeps (p.count + 1) p.work n (error_of o) p.tree)
      (error_keeps (group_of_task p.work n) (error_of o) p.work.groups);
}

-- What runs hasn't failed.
runs_on : (s : Stage) → is_running s ≡ true → has_failed s ≡ false
runs_on stage.Fresh runs = cc
runs_on stage.Running runs = refl
runs_on stage.Success runs = cc
runs_on (stage.Failure text) runs = cc
runs_on stage.Interrupted runs = cc

no_failure : (p : State) (night : Option (List ℕ)) (group key : List ℕ) (n : ℕ)
    → HasRowAt p n is_running → failing p night group key n ≡ false
no_failure p night group key n at =
    ap (λ b. is_try p night group key n && b)
    (ap (λ o. option_map_or (λ task. has_failed task.stage) o false) at.found
    ∙ runs_on at.row.stage at.passes)
    ∙ and-false (is_try p night group key n)

-- The end of another command leaves this one as it is.
not_ended : (d c moment : ℕ) (o : Outcome) (k : Known) → (d == c) ≡ false
    → k ≡ turned (end_of d moment o) c k
not_ended d c moment outcome.Success k other =
    ap (λ b. cond b (record k { phase = EndedOk }) k) (sym other)
not_ended d c moment (outcome.Failure error) k other = by_cancel (is_cancel error)
  where
    by_cancel : (b : Bool) → k ≡ turned (cond b (Cut d) (Fail d moment)) c k
    by_cancel true = ap (λ b. cond b (record k { phase = Canceled }) k) (sym other)
    by_cancel false =
        ap (λ b. cond b (record k { phase = Failed moment; failures = k.failures + 1 }) k)
        (sym other)

-- The end of this one is what its last try says.
ended : (d c moment : ℕ) (o : Outcome) (k : Known) → (d == c) ≡ true
    → record k {
      phase = phase_by moment (stage_of o);
      failures = k.failures + cond (has_failed (stage_of o)) 1 0;
    }
    ≡ turned (end_of d moment o) c k
ended d c moment outcome.Success k same =
    let more : k.failures + 0 ≡ k.failures = omega arith in
    ap (λ m. record k { phase = EndedOk; failures = m }) more
    ∙ ap (λ b. cond b (record k { phase = EndedOk }) k) (sym same)
ended d c moment (outcome.Failure error) k same = by_cancel (is_cancel error)
  where
    by_cancel : (b : Bool)
        → record k {
          phase = cond b Canceled (Failed moment);
          failures = k.failures + cond (not b) 1 0;
        }
        ≡ turned (cond b (Cut d) (Fail d moment)) c k
    by_cancel true =
        let more : k.failures + 0 ≡ k.failures = omega arith in
        ap (λ m. record k { phase = Canceled; failures = m }) more
        ∙ ap (λ b. cond b (record k { phase = Canceled }) k) (sym same)
    by_cancel false =
        ap (λ b. cond b (record k { phase = Failed moment; failures = k.failures + 1 }) k)
        (sym same)

pub finish_ends : FinishesEnd
finish_ends p before after night group key n c d o runs last counted others its =
    by_task (is_task p night group key n) refl
  where
    old : Known
    old = known_of p before night group key

    by_task : (b : Bool) → is_task p night group key n ≡ b
        → known_of (step p (event.Finish n o)) after night group key
        ≡ turned (end_of d (after n) o) c old
    by_task false lacks =
        known_other p (step p (event.Finish n o)) n (stage_of o) (finished p n o) before after
        others night group key lacks ∙ not_ended d c (after n) o old (its ∙ lacks)
    by_task true own =
        let at : HasRowAt p n is_running = row_at p n is_running runs in
        known_own p (step p (event.Finish n o)) n (stage_of o) (finished p n o) after night group
        key at.row at.found counted own last (no_failure p night group key n at)
        ∙ ended d c (after n) o old (its ∙ own)
