-- Distinct names, and searches that find no name.
use Rattle.std.proofs.Common.{◌≡◌, ◌<◌, ◌≤◌, ℕ, Bool, true, false, List, [], ◌∷◌, ◌++◌, length}
use Rattle.std.proofs.Common.{get_or, Some, None, slice_get, inl, inr, refl, sym, ap, ◌∙◌, arith}
use Rattle.std.specs.List.{position_or_len}
use Rattle.std.specs.Prelude.{is_none, position, nat_lt, if◌then◌else◌}
use Rattle.std.specs.Str.{bytes_eq}
use Rattle.std.proofs.lemmas.Bool.{both_ways, ltb-false, ltb-true}
use Rattle.std.proofs.lemmas.List.Sums.{fails_before_first, passes_at_first}
use Rattle.std.proofs.lemmas.Option.{get_or_from_slice_get, slice_get_within, slice_get-get_or}
use Rattle.std.proofs.lemmas.Slice.Eq.{bytes_eq-Decides}
use Rattle.run_model.proofs.RowLemmas.{push_cases}

-- A row keeps names distinct if no row before it has its name.
pub names_pushed : {X : Type 0} (name : X → List ℕ) (rows : List X) (new : X)
    → ((s t : ℕ) (a b : X) → slice_get rows s ≡ Some a → slice_get rows t ≡ Some b
    → name a ≡ name b → s ≡ t)
    → ((s : ℕ) (a : X) → slice_get rows s ≡ Some a → name a ≡ name new → ⊥)
    → (s t : ℕ) (a b : X) → slice_get (rows ++ new ∷ []) s ≡ Some a
    → slice_get (rows ++ new ∷ []) t ≡ Some b → name a ≡ name b → s ≡ t
names_pushed name rows new distinct free s t a b found_a found_b same =
    elim (push_cases rows new s a found_a) [
      | inl x ↦
          elim (push_cases rows new t b found_b) [
            | inl y ↦ distinct s t a b x y same
            | inr y ↦ absurd (free s a x (same ∙ ap name y.1))
          ]
      | inr x ↦
          elim (push_cases rows new t b found_b) [
            | inl y ↦ absurd (free t b y (sym same ∙ ap name x.1))
            | inr y ↦ x.0 ∙ sym y.0
          ]
    ]

none_when : {X : Type 0} (b : Bool) (x : X) → is_none (if b then Some x else None) ≡ true
    → b ≡ false
none_when true x none = sym none
none_when false x none = refl

pub unfound : {X : Type 0} (test : X → Bool) (rows : List X) → is_none (position test rows) ≡ true
    → (s : ℕ) (a : X) → slice_get rows s ≡ Some a → test a ≡ false
unfound test rows none s a found =
    let past : length rows ≤ position_or_len test rows =
    ltb-false (position_or_len test rows) (length rows)
    (none_when (nat_lt (position_or_len test rows) (length rows)) (position_or_len test rows)
    none) in
    let less : s < length rows = slice_get_within rows s a found in
    ap test (sym (get_or_from_slice_get rows s a a found))
    ∙ fails_before_first test rows s a (omega (arith, past, less))

-- If a search for a name finds none, no row has the name.
pub name_is_free : {X : Type 0} (name : X → List ℕ) (new : List ℕ) (rows : List X)
    → is_none (position (λ row. bytes_eq new (name row)) rows) ≡ true
    → (s : ℕ) (a : X) → slice_get rows s ≡ Some a → name a ≡ new → ⊥
name_is_free name new rows none s a found same =
    both_ways (bytes_eq new (name a))
    (unfound (λ row. bytes_eq new (name row)) rows none s a found)
    ((bytes_eq-Decides new (name a)).1 (sym same))

-- If no row passes, a search finds none. `d` stands for a row at places without one.
pub unpassed : {X : Type 0} (d : X) (test : X → Bool) (rows : List X)
    → ((s : ℕ) (a : X) → slice_get rows s ≡ Some a → test a ≡ true → ⊥)
    → is_none (position test rows) ≡ true
unpassed d test rows none = by_first (nat_lt (position_or_len test rows) (length rows)) refl
  where
    by_first : (b : Bool) → nat_lt (position_or_len test rows) (length rows) ≡ b
        → is_none (if b then Some (position_or_len test rows) else None) ≡ true
    by_first false is = refl
    by_first true is =
        let n = position_or_len test rows in
        let less : n < length rows = ltb-true n (length rows) is in
        absurd (none n (get_or rows n d) (slice_get-get_or rows n d less)
        (passes_at_first test rows d less))
