-- The result if no test in a list of refusals holds.
use Rattle.std.proofs.Common.{◌≡◌, Bool, true, false, not, ◌&&◌, if◌then◌else◌, List, [], ◌∷◌}
use Rattle.std.proofs.Common.{Result, Ok, Err, refl, ap, ◌∙◌}
use Rattle.std.proofs.lemmas.Bool.{and_from, and_parts, not-true, not_from_false}
use Rattle.run_model.specs.declared.refusals.Refusal.{Refusal}
use Rattle.run_model.specs.Allowed.{tested, unless}
use Rattle.run_model.specs.Replies.{and_then}
use Rattle.std.specs.List.{list_all}

-- Each of the tests fails.
abbrev pub Passes : List (Bool × Refusal) → Type 0
Passes [] = Unit {0}
Passes (t ∷ tests) = (t.0 ≡ false) × Passes tests

pub each_fails : (tests : List (Bool × Refusal)) → list_all (λ t. not t.0) tests ≡ true
    → Passes tests
each_fails [] none = tt
each_fails (t ∷ tests) none =
    let parts = and_parts (not t.0) (list_all (λ t. not t.0) tests) none in
    (not-true t.0 parts.0, each_fails tests parts.1)

pub none_holds : (tests : List (Bool × Refusal)) → Passes tests
    → list_all (λ t. not t.0) tests ≡ true
none_holds [] passes = refl
none_holds (t ∷ tests) passes =
    and_from _ _ (not_from_false t.0 passes.0) (none_holds tests passes.1)

-- If no test holds, and the first one is that something isn't true, it is true.
pub is_first : (b rest : Bool) → (not (not b) && rest) ≡ true → b ≡ true
is_first true rest none = refl
is_first false rest none = none

-- If no test holds, the result is the one after the tests.
pub unless_none : {X : Type 0} (tests : List (Bool × Refusal)) (answer : Result X Refusal)
    → list_all (λ t. not t.0) tests ≡ true → unless tests answer ≡ answer
unless_none [] answer none = refl
unless_none (t ∷ tests) answer none =
    let parts = and_parts (not t.0) (list_all (λ t. not t.0) tests) none in
    ap (λ b. if b then Err t.1 else unless tests answer) (not-true t.0 parts.0)
    ∙ unless_none tests answer parts.1

one_passes : {X : Type 0} (holds : Bool) (why : Refusal) (rest : Result X Refusal) (x : X)
    → (if holds then Err why else rest) ≡ Ok x → (holds ≡ false) × (rest ≡ Ok x)
one_passes true why rest x e = cc
one_passes false why rest x e = (refl, e)

-- Only then it is an Ok.
pub unless_Ok : {X : Type 0} (tests : List (Bool × Refusal)) (answer : Result X Refusal) (x : X)
    → unless tests answer ≡ Ok x → (list_all (λ t. not t.0) tests ≡ true) × (answer ≡ Ok x)
unless_Ok [] answer x e = (refl, e)
unless_Ok (t ∷ tests) answer x e =
    let one = one_passes t.0 t.1 (unless tests answer) x e in
    let rest = unless_Ok tests answer x one.1 in
    (and_from _ _ (not_from_false t.0 one.0) rest.0, rest.1)

-- First the tests, and then the answer.
pub unless_tested : {X : Type 0} (tests : List (Bool × Refusal)) (answer : Result X Refusal)
    → unless tests answer ≡ and_then (tested tests) (λ _. answer)
unless_tested [] answer = refl
unless_tested (t ∷ tests) answer =
    elim t.0 as
    (λ b.
    (if b then Err t.1 else unless tests answer)
    ≡ and_then (if b then Err t.1 else tested tests) (λ _. answer))
    [ true ↦ refl | false ↦ unless_tested tests answer ]
