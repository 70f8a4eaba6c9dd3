-- Searches go on by one number.
use Rattle.std.proofs.Common.{◌≡◌, ◌<◌, ◌∙◌, ◌+◌, ◌-◌, ℕ, zero, suc, Bool, false, cond, max, ap}
use Rattle.std.proofs.Common.{refl, sym}
use Rattle.std.proofs.Common.{arith}
use Rattle.std.proofs.Common.{List, ◌++◌, append_assoc}
use Rattle.std.proofs.Math.Numerals.{add-one}
use Rattle.run_model.specs.declared.commands.Step.{Step}
use Rattle.drive_nights.specs.Searches.{first_from, greatest_below}

pub greatest_more : (number : ℕ → ℕ) (n last new result : ℕ) → last ≡ greatest_below number n
    → new ≡ number n → result ≡ max last new → result ≡ greatest_below number (n + 1)
greatest_more number n last new result before here is =
    is ∙ ap (λ m. max m new) before ∙ ap (max (greatest_below number n)) here
    ∙ ap (greatest_below number) (sym (add-one n))

pub first_more : (test : ℕ → Bool) (k end found : ℕ) → k < end → test k ≡ false
    → found ≡ first_from test k (end - k) → found ≡ first_from test (k + 1) (end - (k + 1))
first_more test k end found less fails is =
    let more : end - k ≡ suc (end - (k + 1)) = omega (arith, less) in
    is ∙ ap (first_from test k) more
    ∙ ap (λ b. cond b k (first_from test (k + 1) (end - (k + 1)))) fails

-- The greatest number is the same, if the numbers agree below the end.
pub greatest_alike : (f g : ℕ → ℕ) (most : ℕ) → ((n : ℕ) → n < most → f n ≡ g n)
    → greatest_below f most ≡ greatest_below g most
greatest_alike f g zero same = refl
greatest_alike f g (suc most) same =
    ap (λ m. max (greatest_below f most) m) (same most (omega arith))
    ∙ ap (λ m. max m (g most))
    (greatest_alike f g most (λ n less. same n (omega (arith, less))))

-- The steps of one more number come after those of the numbers below it.
pub steps_more : (below : ℕ → List Step) (n : ℕ) (old steps new here : List Step)
    → steps ≡ old ++ below n → new ≡ steps ++ here → below (suc n) ≡ below n ++ here
    → new ≡ old ++ below (n + 1)
steps_more below n old steps new here before added is =
    added ∙ ap (λ xs. xs ++ here) before ∙ append_assoc old (below n) here
    ∙ ap (λ xs. old ++ xs) (sym is) ∙ ap (λ m. old ++ below m) (sym (add-one n))
