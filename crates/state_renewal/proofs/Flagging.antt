-- Flags that are made one after another, each from its row.
use Rattle.std.proofs.Common.{◌≡◌, ◌⊎◌, ◌<◌, ◌≤◌, ◌+◌, ℕ, Bool, false, List, [], ◌∷◌, ◌++◌, length}
use Rattle.std.proofs.Common.{take, drop, inl, inr, refl, sym, ap, ◌∙◌, arith, length-append}
use Rattle.std.proofs.Math.Seq.{take-append_seam}
use Rattle.std.proofs.lemmas.Bool.{cases_order}
use Rattle.std.proofs.lemmas.List.{get_or_append_left, get_or_push, get_or_past}
use Rattle.state_renewal.specs.Marks.{AreFlags, is_flagged}

pub flags_none : (holds : ℕ → Bool) → AreFlags holds 0 []
flags_none holds = record { each = refl; say = λ n less. absurd (omega (arith, less)) }

pub flags_push : (holds : ℕ → Bool) (k : ℕ) (flags : List Bool) (b : Bool)
    → AreFlags holds k flags → b ≡ holds k → AreFlags holds (k + 1) (flags ++ b ∷ [])
flags_push holds k flags b so is = record {
  each = length-append flags (b ∷ []) ∙ ap (λ n. n + 1) so.each;
  say = λ n less. by_order n less (cases_order n k);
}
  where
    by_order : (n : ℕ) → n < k + 1 → (n ≡ k) ⊎ ((n < k) ⊎ (k < n))
        → is_flagged (flags ++ b ∷ []) n ≡ holds n
    by_order n less (inl same) =
        ap (is_flagged (flags ++ b ∷ [])) same ∙ get_or_push flags b false k so.each ∙ is
        ∙ ap holds (sym same)
    by_order n less (inr (inl below)) =
        let size = so.each in
        get_or_append_left flags (b ∷ []) false n (omega (arith, below, size)) ∙ so.say n below
    by_order n less (inr (inr above)) = absurd (omega (arith, less, above))

-- If the property holds of no number after the last row, the flags say of every number whether it
-- holds.
pub flags_all : (holds : ℕ → Bool) (many : ℕ) (flags : List Bool) → AreFlags holds many flags
    → ((n : ℕ) → many ≤ n → holds n ≡ false) → (n : ℕ) → is_flagged flags n ≡ holds n
flags_all holds many flags so none n = by_order (cases_order n many)
  where
    past : many ≤ n → is_flagged flags n ≡ holds n
    past more =
        let size = so.each in
        get_or_past flags n false (omega (arith, more, size)) ∙ sym (none n more)

    by_order : (n ≡ many) ⊎ ((n < many) ⊎ (many < n)) → is_flagged flags n ≡ holds n
    by_order (inl same) = past (omega (arith, same))
    by_order (inr (inl below)) = so.say n below
    by_order (inr (inr above)) = past (omega (arith, above))

-- Flags that were lent as a whole come back as a whole.
pub lent_back : (n : ℕ) (items new : List Bool) → length new ≡ n
    → take n (new ++ drop (length new) items) ≡ new
lent_back n items new is =
    ap (λ k. take k (new ++ drop (length new) items)) (sym is)
    ∙ take-append_seam new (drop (length new) items)
