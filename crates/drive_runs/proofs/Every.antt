-- Numbers that are all below a bound.
use Rattle.std.specs.Prelude.{◌≡◌, ◌<◌, [], ◌∷◌, ℕ, Bool, true, false, List, All, ltb}
use Rattle.std.specs.Bool.{OnTrue}
use Rattle.std.specs.List.{AllByRecursion, list_all}
use Rattle.std.proofs.Common.{sym}
use Rattle.std.proofs.lemmas.Bool.{ltb-true}
use Rattle.std.proofs.lemmas.List.Elements.{All-from_recursion}
use Rattle.run_model.proofs.Common.{and_parts}

each_below : {X : Type 0} (number : X → ℕ) (end : ℕ) (xs : List X)
    → list_all (λ x. ltb (number x) end) xs ≡ true → AllByRecursion (λ x. number x < end) xs
each_below number end [] all = tt
each_below number end (x ∷ xs) all =
    let parts = and_parts (ltb (number x) end) (list_all (λ y. ltb (number y) end) xs) all in
    (ltb-true (number x) end parts.0, each_below number end xs parts.1)

-- If the test of all of them returned true, each is below the bound.
pub all_below : {X : Type 0} (number : X → ℕ) (end : ℕ) (xs : List X) (b : Bool)
    → b ≡ list_all (λ x. ltb (number x) end) xs → OnTrue b (All (λ x. number x < end) xs)
all_below number end xs true is =
    All-from_recursion (λ x. number x < end) xs (each_below number end xs (sym is))
all_below number end xs false is = tt
