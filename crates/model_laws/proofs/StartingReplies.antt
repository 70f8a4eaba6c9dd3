-- The results of a start and a finish.
use Rattle.run_model.proofs.Common.{◌≡◌, ◌==◌, ℕ, true, false, length, Option, Some, None, Ok, sym}
use Rattle.run_model.proofs.Common.{ap, ◌∙◌, eqb-true, lt-ltb, unwrap_or, option_map_or, ok_or}
use Rattle.run_model.proofs.Common.{not-false, Event, State, first_ready, is_running, has_stage}
use Rattle.run_model.proofs.Common.{allowed, refusals, decide_finish, decide_start, decided}
use Rattle.run_model.proofs.Common.{if_room, is_full, each_fails, is_first, unless_Ok}
use Rattle.std.proofs.lemmas.Bool.{not_from_true}
use Rattle.run_model.specs.declared.tasks.Outcome.{Outcome}
use Rattle.run_model.specs.declared.refusals.Refusal.{Refusal}
use Rattle.run_model.specs.Event as event
use Rattle.run_model.proofs.RefusalLemmas.{none_holds, unless_none}
use Rattle.model_laws.specs.Queues.{IsLeastReady}
use Rattle.model_laws.proofs.Passing.{decided_leads, fits_decided}
use Rattle.model_laws.proofs.Places.{passing_within}
use Rattle.model_laws.proofs.Searching.{first_is_least}

-- ---- starts

pub ok_or_Ok : {X : Type 0} (o : Option X) (why : Refusal) (x : X) → ok_or o why ≡ Ok x
    → o ≡ Some x
ok_or_Ok None why x e = cc
ok_or_Ok (Some y) why x e = cc

pub first_ready_from : (p : State) (n : ℕ) → allowed p (event.Start n) ≡ true
    → first_ready p.work ≡ Some n
first_ready_from p n may =
    go (first_ready p.work)
    (is_first (option_map_or (λ first. first == n) (first_ready p.work) false) _ may)
  where
    go : (o : Option ℕ) → option_map_or (λ first. first == n) o false ≡ true → o ≡ Some n
    go None e = cc
    go (Some first) e = ap Some (eqb-true first n e)

-- The start that is asked for.
abbrev pub start_of : State → Event
start_of p = event.Start (unwrap_or (first_ready p.work) (length p.work.tasks))

-- A start is decided as that of the first ready task.
pub start_first : (p : State) (log : ℕ) (o : Option Event) → decide_start p log ≡ Ok o
    → (n : ℕ) × (first_ready p.work ≡ Some n) × (if_room p log (event.Start n) ≡ Ok o)
start_first p log o e =
    let passed = unless_Ok (refusals p (start_of p)) (if_room p log (start_of p)) o e in
    let n : ℕ = unwrap_or (first_ready p.work) (length p.work.tasks) in
    (n, first_ready_from p n passed.0, passed.1)

pub start_allowed : (p : State) (log : ℕ) (made : Event)
    → decide_start p log ≡ Ok (Some made) → allowed p made ≡ true
start_allowed p log made e =
    let leads = decided_leads p log (start_of p) made e in
    sym (ap (allowed p) leads.asks) ∙ leads.may

pub allowed_start : (p : State) (log n : ℕ) → allowed p (event.Start n) ≡ true
    → is_full p log (event.Start n) ≡ false → decide_start p log ≡ Ok (Some (event.Start n))
allowed_start p log n may fits =
    ap (λ (o : Option ℕ). decided p log (event.Start (unwrap_or o (length p.work.tasks))))
    (first_ready_from p n may)
    ∙ fits_decided p log (event.Start n) may fits

pub started_least : (p : State) (log n : ℕ) → decide_start p log ≡ Ok (Some (event.Start n))
    → IsLeastReady p.work n
started_least p log n e =
    first_is_least p.work n (first_ready_from p n (start_allowed p log (event.Start n) e))

-- ---- finishes

finish_passes : (p : State) (n : ℕ) (outcome : Outcome) (made : Event)
    → decide_finish p n outcome ≡ Ok (Some made)
    → (allowed p (event.Finish n outcome) ≡ true) × (event.Finish n outcome ≡ made)
finish_passes p n outcome made e =
    let passed = unless_Ok (refusals p (event.Finish n outcome)) _ (Some made) e in
    (passed.0, cc)

pub finish_leads : (p : State) (n : ℕ) (outcome : Outcome) (made : Event)
    → decide_finish p n outcome ≡ Ok (Some made)
    → (has_stage is_running p.work n ≡ true) × (event.Finish n outcome ≡ made)
finish_leads p n outcome made e =
    let passed = finish_passes p n outcome made e in
    (not-false _ (each_fails (refusals p (event.Finish n outcome)) passed.0).1.0, passed.1)

pub finish_allowed : (p : State) (n : ℕ) (outcome : Outcome) (made : Event)
    → decide_finish p n outcome ≡ Ok (Some made) → allowed p made ≡ true
finish_allowed p n outcome made e =
    let passed = finish_passes p n outcome made e in
    sym (ap (allowed p) passed.1) ∙ passed.0

-- A finish of a running task is never refused.
pub running_finishes : (p : State) (n : ℕ) (outcome : Outcome)
    → has_stage is_running p.work n ≡ true
    → decide_finish p n outcome ≡ Ok (Some (event.Finish n outcome))
running_finishes p n outcome running =
    let within = passing_within (λ task. is_running task.stage) p.work.tasks n running in
    let there = not_from_true _ (lt-ltb n (length p.work.tasks) within) in
    let tests = refusals p (event.Finish n outcome) in
    unless_none tests _ (none_holds tests (there, (not_from_true _ running, tt)))
