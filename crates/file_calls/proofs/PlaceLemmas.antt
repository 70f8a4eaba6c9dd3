-- Lists of places, of which a loop changes one after another, and contents that agree everywhere.
use Rattle.std.proofs.Common.{◌≡◌, ◌<◌, ◌≤◌, ◌∷◌, [], ℕ, List, length, get_or, slice_get, suc, refl}
use Rattle.file_calls.specs.declared.places.Place.{Place}
use Rattle.file_calls.specs.declared.places.Place.TheVariants.{Durable}

-- the places below i were changed by f, and no other one
pub record ChangedUpTo (f : ℕ → Place → Place) (old new : List Place) (i : ℕ) : Type 0 where
  pub size : length new ≡ length old
  pub below : (j : ℕ) → j < i → get_or new j Durable ≡ f j (get_or old j Durable)
  pub rest : (j : ℕ) → i ≤ j → get_or new j Durable ≡ get_or old j Durable

-- two contents with the same byte, or the same end, at each place are the same
pub same_by_places : (xs ys : List ℕ) → ((i : ℕ) → slice_get xs i ≡ slice_get ys i) → xs ≡ ys
same_by_places [] [] same = refl
same_by_places [] (y ∷ ys) same = let first = same 0 in cc
same_by_places (x ∷ xs) [] same = let first = same 0 in cc
same_by_places (x ∷ xs) (y ∷ ys) same =
    let first = same 0 in
    let rest = same_by_places xs ys (λ i. same (suc i)) in
    cc
