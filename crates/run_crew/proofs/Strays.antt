-- Stray notes.
use Rattle.run_model.proofs.Common.{◌≡◌, ℕ, ◌<◌, ◌≤◌, List, [], ◌∷◌, ◌++◌, length, take, get_or}
use Rattle.run_model.proofs.Common.{Bool, true, false, ◌||◌, refl, ap, sym, ◌∙◌, arith, inl, inr}
use Rattle.run_model.proofs.Common.{subst, slice_index_or, Some, list_any, list_any-append}
use Rattle.run_model.proofs.Common.{get_or_default, get_or_past, get_or_from_slice_get}
use Rattle.run_model.proofs.Common.{slice_get-get_or, slice_get_within}
use Rattle.std.proofs.lemmas.Option.{slice_get_cases}
use Rattle.run_crew.specs.declared.notes.Note.{Note}
use Rattle.run_crew.specs.Audits.{IsFirstStray, IsStray, IsStrayIn, NoStray, is_stray}
use Rattle.run_crew.specs.Notes.{all_notes}
use Rattle.run_crew.specs.Notes.{has, is_same}

pub has-all :
    (lists : List (List Note)) (x : Note)
    → has (all_notes lists) x ≡ list_any (λ notes. has notes x) lists
has-all [] x = refl
has-all (notes ∷ rest) x =
    list_any-append (λ y. is_same x y) notes (all_notes rest)
    ∙ ap (λ b. has notes x || b) (has-all rest x)

-- If the test holds at a place, the note there is stray.
pub stray-of :
    (made earlier notes : List Note) (i : ℕ) (x : Note) (b : Bool) → i < length notes
    → x ≡ get_or notes i x → b ≡ is_stray made (earlier ++ take i notes) x → b ≡ true
    → IsStrayIn made earlier notes i
stray-of made earlier notes i x b inside at f is =
    (x, slice_get-get_or notes i x inside ∙ ap (λ y. Some y) (sym at), sym f ∙ is)

-- If the test doesn't hold at a place, the note there isn't stray.
pub no_stray-of :
    (made earlier notes : List Note) (i : ℕ) (x : Note) (b : Bool) → x ≡ get_or notes i x
    → b ≡ is_stray made (earlier ++ take i notes) x → b ≡ false
    → IsStrayIn made earlier notes i → ⊥
no_stray-of made earlier notes i x b at f is s =
    let e : x ≡ s.0 = at ∙ get_or_from_slice_get notes i s.0 x s.1 in
    let h : is_stray made (earlier ++ take i notes) x ≡ true =
    ap (λ z. is_stray made (earlier ++ take i notes) z) e ∙ s.2 in
    cc

pub stray-inside :
    (made earlier notes : List Note) (i : ℕ) → IsStrayIn made earlier notes i → i < length notes
stray-inside made earlier notes i s = slice_get_within notes i s.0 s.1

-- After the last list there is no stray note.
pub stray-list :
    (made : List Note) (lists : List (List Note)) (w i : ℕ) → length lists ≤ w
    → IsStray made lists w i → ⊥
stray-list made lists w i past s =
    let e : slice_index_or lists w [] ≡ [] = get_or_past lists w [] past in
    let h = stray-inside _ _ _ i s in
    let k : i < length (slice_index_or lists w []) = h in
    let z : i < 0 = rw e at k in
    omega arith

pub first_stray-at :
    (made : List Note) (lists : List (List Note)) (w k : ℕ) (notes list : List Note)
    → notes ≡ list → list ≡ get_or lists w list → w < length lists
    → ((w' i : ℕ) → w' < w → IsStray made lists w' i → ⊥)
    → IsStrayIn made (all_notes (take w lists)) notes k
    × ((i : ℕ) → i < k → IsStrayIn made (all_notes (take w lists)) notes i → ⊥)
    → IsFirstStray made lists (record { worker = w; note = k })
first_stray-at made lists w k notes list a b inside earlier h =
    let e : notes ≡ slice_index_or lists w [] =
    a ∙ b ∙ get_or_default lists w list [] inside in
    let P : List Note → Type 0 = λ ns. IsStrayIn made (all_notes (take w lists)) ns k
    × ((i : ℕ) → i < k → IsStrayIn made (all_notes (take w lists)) ns i → ⊥) in
    let h' : P (slice_index_or lists w []) = subst P e h in
    record {
      stray = h'.0;
      first = λ w' i at. elim at [
        | inl less ↦ earlier w' i less
        | inr here ↦
            (let Q : ℕ → Type 0 = λ v. IsStray made lists v i → ⊥ in
            subst Q (sym here.0) (h'.1 i here.1))
      ];
    }

pub no_stray-in :
    (made : List Note) (lists : List (List Note)) (w : ℕ) (notes list : List Note)
    → notes ≡ list → list ≡ get_or lists w list → w < length lists
    → ((i : ℕ) → IsStrayIn made (all_notes (take w lists)) notes i → ⊥)
    → (i : ℕ) → IsStray made lists w i → ⊥
no_stray-in made lists w notes list a b inside h i =
    let e : notes ≡ slice_index_or lists w [] =
    a ∙ b ∙ get_or_default lists w list [] inside in
    let P : List Note → Type 0 =
    λ ns. IsStrayIn made (all_notes (take w lists)) ns i → ⊥ in
    subst P e (h i)

pub no_stray :
    (made : List Note) (lists : List (List Note)) (n : ℕ) → length lists ≤ n
    → ((w i : ℕ) → w < n → IsStray made lists w i → ⊥) → NoStray made lists
no_stray made lists n past none w i s =
    elim (slice_get_cases lists w).1 [
      | inl h ↦ none w i (omega arith) s
      | inr h ↦ stray-list made lists w i h.0 s
    ]
