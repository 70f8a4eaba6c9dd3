-- A start begins the command of its task.
use Rattle.std.proofs.Common.{◌≡◌, ◌∙◌, ◌&&◌, ℕ, ◌+◌, Bool, true, false, cond, List, Option}
use Rattle.std.proofs.Common.{length}
use Rattle.std.proofs.Common.{refl, sym, ap, arith}
use Rattle.std.specs.Option.{option_map_or}
use Rattle.run_model.specs.declared.tasks.Stage.{Stage}
use Rattle.run_model.specs.declared.tasks.Stage.TheVariants as stage
use Rattle.run_model.specs.Event as event
use Rattle.run_model.specs.State.{State}
use Rattle.run_model.specs.Step.{step}
use Rattle.run_model.specs.Tasks.{has_stage, is_fresh}
use Rattle.night_plan.specs.declared.facts.Known.{Known}
use Rattle.night_plan.specs.declared.facts.Phase.TheVariants.{Busy}
use Rattle.night_plan.specs.Turns.{Begin, is_among, turned}
use Rattle.night_drive.specs.Searches.{count_below}
use Rattle.night_drive.specs.Seen.{is_try, known_of}
use Rattle.night_drive.specs.Tries.{counts}
use Rattle.night_drive.specs.Turns.{is_task, StartsBegin}
use Rattle.night_drive.proofs.Turning.{HasRowAt, IsStaged, failing, known_other, known_own, row_at}
use Rattle.night_drive.proofs.Turning.{try_is, uncounted}

-- What wasn't started doesn't count.
pub fresh_counts : (s : Stage) → is_fresh s ≡ true → counts s ≡ false
fresh_counts stage.Fresh fresh = refl
fresh_counts stage.Running fresh = cc
fresh_counts stage.Success fresh = cc
fresh_counts (stage.Failure text) fresh = cc
fresh_counts stage.Interrupted fresh = cc

-- A task that wasn't started is no try.
pub not_tried : (p : State) (night : Option (List ℕ)) (group key : List ℕ) (n : ℕ)
    → is_task p night group key n ≡ true → HasRowAt p n is_fresh
    → is_try p night group key n ≡ false
not_tried p night group key n own at =
    try_is p night group key n
    ∙ ap (λ b. b && has_stage counts p.work n) own
    ∙ ap (λ o. option_map_or (λ task. counts task.stage) o false) at.found
    ∙ fresh_counts at.row.stage at.passes

pub started : (p : State) (n : ℕ) → IsStaged p (step p (event.Start n)) n stage.Running
started p n = record { tasks = refl; owned = λ night group g. refl }

pub start_begins : StartsBegin
start_begins p ended night group key n c now sizes chosen fresh last its =
    by_task (is_task p night group key n) refl
  where
    old : Known
    old = known_of p ended night group key

    begun : (b : Bool) → is_among c chosen ≡ b
        → cond b (record old { phase = Busy }) old ≡ turned (Begin now sizes chosen) c old
    begun b is = ap (λ x. cond x (record old { phase = Busy }) old) (sym is)

    by_task : (b : Bool) → is_task p night group key n ≡ b
        → known_of (step p (event.Start n)) ended night group key
        ≡ turned (Begin now sizes chosen) c old
    by_task false lacks =
        known_other p (step p (event.Start n)) n stage.Running (started p n) ended ended
        (λ m other. refl) night group key lacks ∙ begun false (its ∙ lacks)
    by_task true own =
        let at : HasRowAt p n is_fresh = row_at p n is_fresh fresh in
        let count = count_below (failing p night group key) (length p.work.tasks) in
        let same : count + 0 ≡ count = omega arith in
        known_own p (step p (event.Start n)) n stage.Running (started p n) ended night group key
        at.row at.found refl own last
        (uncounted p night group key n (not_tried p night group key n own at))
        ∙ ap (λ m. record old { phase = Busy; failures = m }) same ∙ begun true (its ∙ own)
