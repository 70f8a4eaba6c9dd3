-- Searches among numbers, by tests that agree, and by tests that agree but at one number.
use Rattle.std.proofs.Common.{◌≡◌, ◌≢◌, ◌<◌, ◌∙◌, ℕ, zero, suc, ◌+◌, Bool, true, false, cond}
use Rattle.std.proofs.Common.{Some, inl, inr, refl, sym, ap, arith}
use Rattle.std.proofs.lemmas.Bool.{cases_eq}
use Rattle.std.proofs.lemmas.Option.{none-some, same_Some}
use Rattle.night_drive.specs.Searches.{count_below, last_below}

-- ---- tests that agree

-- The last number is the same, if the tests agree below the end.
pub last_alike_below : (f g : ℕ → Bool) (most : ℕ) → ((n : ℕ) → n < most → f n ≡ g n)
    → last_below f most ≡ last_below g most
last_alike_below f g zero same = refl
last_alike_below f g (suc most) same =
    ap (λ b. cond b (Some most) (last_below f most)) (same most (omega arith))
    ∙ ap (λ o. cond (g most) (Some most) o)
    (last_alike_below f g most (λ n less. same n (omega (arith, less))))

-- And so is the count.
pub count_alike_below : (f g : ℕ → Bool) (most : ℕ) → ((n : ℕ) → n < most → f n ≡ g n)
    → count_below f most ≡ count_below g most
count_alike_below f g zero same = refl
count_alike_below f g (suc most) same =
    ap (λ b. count_below f most + cond b 1 0) (same most (omega arith))
    ∙ ap (λ m. m + cond (g most) 1 0)
    (count_alike_below f g most (λ n less. same n (omega (arith, less))))

pub last_alike : (f g : ℕ → Bool) → ((n : ℕ) → f n ≡ g n) → (most : ℕ)
    → last_below f most ≡ last_below g most
last_alike f g same most = last_alike_below f g most (λ n less. same n)

pub count_alike : (f g : ℕ → Bool) → ((n : ℕ) → f n ≡ g n) → (most : ℕ)
    → count_below f most ≡ count_below g most
count_alike f g same most = count_alike_below f g most (λ n less. same n)

-- ---- one number

-- The last number that passes does pass.
pub last_passes : (test : ℕ → Bool) (most n : ℕ) → last_below test most ≡ Some n → test n ≡ true
last_passes test zero n found = absurd (none-some n found)
last_passes test (suc most) n found =
    by_test (test most) refl found (λ earlier. last_passes test most n earlier)
  where
    by_test : (b : Bool) → test most ≡ b
        → cond b (Some most) (last_below test most) ≡ Some n
        → (last_below test most ≡ Some n → test n ≡ true) → test n ≡ true
    by_test true passes it before = ap test (sym (same_Some most n it)) ∙ passes
    by_test false fails it before = before it

-- It is below the end.
pub last_within : (test : ℕ → Bool) (most n : ℕ) → last_below test most ≡ Some n → n < most
last_within test zero n found = absurd (none-some n found)
last_within test (suc most) n found =
    by_test (test most) found (λ earlier. last_within test most n earlier)
  where
    by_test : (b : Bool) → cond b (Some most) (last_below test most) ≡ Some n
        → (last_below test most ≡ Some n → n < most) → n < suc most
    by_test true it before =
        let same : most ≡ n = same_Some most n it in omega arith
    by_test false it before =
        let less : n < most = before it in omega arith

-- A number that passes is the last one, if none after it does.
pub last_is : (test : ℕ → Bool) (most n : ℕ) → n < most → test n ≡ true
    → ((m : ℕ) → n < m → test m ≡ false) → last_below test most ≡ Some n
last_is test zero n below passes none = absurd (omega (arith, below))
last_is test (suc most) n below passes none = elim (cases_eq n most) [
  | inl same ↦
      ap (λ b. cond b (Some most) (last_below test most)) (ap test (sym same) ∙ passes)
      ∙ ap (λ (m : ℕ). Some m) (sym same)
  | inr other ↦
      ap (λ b. cond b (Some most) (last_below test most))
      (none most (omega (arith, below, other)))
      ∙ last_is test most n (omega (arith, below, other)) passes none
]

-- Where one number more passes, there is one more.
pub count_more : (f g : ℕ → Bool) (most n : ℕ) → n < most → f n ≡ false → g n ≡ true
    → ((m : ℕ) → m ≢ n → g m ≡ f m) → count_below g most ≡ count_below f most + 1
count_more f g zero n below fails passes others = absurd (omega (arith, below))
count_more f g (suc most) n below fails passes others = elim (cases_eq n most) [
  | inl same ↦
      let no : f most ≡ false = ap f (sym same) ∙ fails in
      let yes : g most ≡ true = ap g (sym same) ∙ passes in
      let rest : count_below g most ≡ count_below f most =
      count_alike_below g f most (λ m less. others m (λ it. omega (arith, less, it, same))) in
      ap (λ b. count_below g most + cond b 1 0) yes ∙ ap (λ m. m + 1) rest
      ∙ ap (λ m. m + 1) (sym (ap (λ b. count_below f most + cond b 1 0) no ∙ omega arith))
  | inr other ↦
      let rest : count_below g most ≡ count_below f most + 1 =
      count_more f g most n (omega (arith, below, other)) fails passes others in
      let here : g most ≡ f most = others most (λ it. other (sym it)) in
      ap (λ b. count_below g most + cond b 1 0) here
      ∙ ap (λ m. m + cond (f most) 1 0) rest ∙ omega arith
]
