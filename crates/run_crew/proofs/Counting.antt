-- The effect of a command on the totals.
use Rattle.run_model.proofs.Common.{◌≡◌, ℕ, ◌+◌, List, [], ◌∷◌, ◌++◌, Bool, true, false, Option}
use Rattle.run_model.proofs.Common.{None, Some, refl, ap, arith, Result, Ok, Err, cond, count_by}
use Rattle.run_model.proofs.Common.{if◌then◌else◌, sum_by-append, sum_by-cons, Event, refusals}
use Rattle.run_model.proofs.Common.{unless, decide, decided, event_of, if_room, is_full}
use Rattle.run_model.proofs.Common.{is_repeated, event_of_step, State, result_unwrap_or}
use Rattle.std.specs.Prelude.{option_to_list}
use Rattle.run_model.specs.declared.commands.Command.{Command}
use Rattle.run_model.specs.declared.refusals.Refusal.{Refusal}
use Rattle.run_model.specs.declared.commands.Step.TheVariants as step
use Rattle.run_model.specs.declared.refusals.Refusal.TheVariants.{SessionFull}
use Rattle.book_model.specs.Books.{BookView}
use Rattle.run_crew.proofs.Carrying.{added_by}

-- How many of the events that a decision leads to pass the test.
abbrev pub count_made : (Event → Bool) → Result (Option Event) Refusal → ℕ
count_made test decision = count_by test (option_to_list (result_unwrap_or decision None))

-- No refusal passes it.
unless_none :
    (test : Event → Bool) (tests : List (Bool × Refusal))
    (answer : Result (Option Event) Refusal)
    → count_made test answer ≡ 0 → count_made test (unless tests answer) ≡ 0
unless_none test [] answer none = none
unless_none test (t ∷ tests) answer none =
    elim t.0 as (λ b. count_made test (if b then Err t.1 else unless tests answer) ≡ 0)
    [ true ↦ refl | false ↦ unless_none test tests answer none ]

decide_none :
    (test : Event → Bool) (p : State) (log : ℕ) (call : Command)
    → count_by test (event_of p call ∷ []) ≡ 0 → count_made test (decide p log call) ≡ 0
decide_none test p log call none =
    let asked = event_of p call in
    let room : count_made test (if_room p log asked) ≡ 0 =
    elim (is_full p log asked) as (λ b.
    count_made test (if b then Err SessionFull else Ok (Some asked)) ≡ 0)
    [ true ↦ refl | false ↦ none ] in
    elim (is_repeated p call) as (λ b.
    count_made test (if b then Ok None else decided p log asked) ≡ 0)
    [ true ↦ refl | false ↦ unless_none test (refusals p asked) (if_room p log asked) room ]

none_of : (test : Event → Bool) (e : Event) → test e ≡ false → count_by test (e ∷ []) ≡ 0
none_of test e not =
    let counted : Bool → ℕ = λ b. cond b 1 0 in
    let one : counted (test e) ≡ counted false = ap counted not in
    omega (arith, one, sum_by-cons (λ e. cond (test e) 1 0) e [])

-- A total stays the same if a command adds nothing that it counts.
pub kept : {D : Type 0} (test : Event → Bool) (b new : BookView D) (call : Command) (total : ℕ)
    → test (event_of b.session.state call) ≡ false
    → total ≡ count_by test b.session.history
    → new.session.history ≡ b.session.history ++ added_by b (step.Command call)
    → total ≡ count_by test new.session.history
kept test b new call total not counted grown =
    let none = none_of test (event_of b.session.state call) not in
    let added = added_by b (step.Command call) in
    let nothing : count_by test added ≡ 0 =
    elim b.journal.broken as (λ k.
    count_by test
    (if k then [] else option_to_list (event_of_step b.session (step.Command call))) ≡ 0)
    [ true ↦ refl | false ↦ decide_none test b.session.state b.session.log call none ] in
    let both : count_by test (b.session.history ++ added)
    ≡ count_by test b.session.history + count_by test added =
    sum_by-append (λ e. cond (test e) 1 0) b.session.history added in
    let same : count_by test new.session.history ≡ count_by test (b.session.history ++ added) =
    ap (λ es. count_by test es) grown in
    omega arith
