-- The deadlines that haven't passed yet: a heap of scope numbers, with the earliest deadline first.
use Rattle.std.specs.Prelude.{◌≡◌, ◌≢◌, ◌⊎◌, ◌+◌, ◌*◌, ◌<◌, ◌≤◌, ℕ, List, length}
use Rattle.std.specs.Prelude.{Option, Some, None, slice_get, slice_index, unwrap_or}
use Rattle.std.specs.Option.{option_and_then, IsSome}
use Rattle.run_model.specs.declared.bounds.TheConstants.{MOST_SCOPES}
use Rattle.run_model.specs.declared.scopes.Hit.{Hit}
use Rattle.run_model.specs.declared.scopes.Scope.{Scope}
use Rattle.run_model.specs.Scopes.{own_deadline, own_hit}
use Rattle.run_model.specs.TreeChanges.{hit_due}

-- The deadline that scope n has by itself.
abbrev pub deadline_at : List Scope → ℕ → Option ℕ
deadline_at rows n = option_and_then (λ row. own_deadline row.kind) (slice_get rows n)

-- The hit that event e gives to scope n if its deadline has come.
abbrev pub due_at : ℕ → ℕ → List Scope → ℕ → Option Hit
due_at e clock rows n = option_and_then (λ row. hit_due e clock row.kind) (slice_get rows n)

-- Deadlines are ordered by moment, and then by the number of the scope. One number stands for both,
-- because the number of a scope is below MOST_SCOPES.
abbrev pub key : List Scope → ℕ → ℕ
key rows n = unwrap_or (deadline_at rows n) 0 * MOST_SCOPES + n

-- The key of the scope at place i.
abbrev pub key_at : List Scope → List ℕ → ℕ → ℕ
key_at rows due i = key rows (slice_index due i)

-- The number is one of these.
abbrev pub Among : ℕ → List ℕ → Type 0
Among n due = (i : ℕ) × (i < length due) × (slice_index due i ≡ n)

-- Each of these is the number of a scope.
abbrev pub AreKnown : List Scope → List ℕ → Type 0
AreKnown rows due = (n : ℕ) → Among n due → n < length rows

-- ---- the heap

-- Place j is one of the two places below place p.
abbrev pub IsParent : ℕ → ℕ → Type 0
IsParent p j = (2 * p < j) × (j ≤ 2 * p + 2)

-- No place has a lower key than the place above it.
abbrev pub IsHeap : (ℕ → ℕ) → ℕ → Type 0
IsHeap k len = (p j : ℕ) → IsParent p j → j < len → k p ≤ k j

-- No place has a lower key than the place above it, except perhaps place i.
pub record UpTo (k : ℕ → ℕ) (len i : ℕ) : Type 0 where
  pub rest : (p j : ℕ) → IsParent p j → j < len → j ≢ i → k p ≤ k j
  pub over : (p j : ℕ) → IsParent p i → IsParent i j → j < len → k p ≤ k j

-- No place has a lower key than the place above it, except perhaps those below place i.
pub record DownFrom (k : ℕ → ℕ) (len i : ℕ) : Type 0 where
  pub rest : (p j : ℕ) → IsParent p j → j < len → p ≢ i → k p ≤ k j
  pub over : (p j : ℕ) → IsParent p i → IsParent i j → j < len → k p ≤ k j

-- Place c is the one below place i that has the lower key, or i if nothing is below it.
pub record IsLesser (k : ℕ → ℕ) (len i c : ℕ) : Type 0 where
  pub child : (c ≡ i) ⊎ (IsParent i c × (c < len))
  pub least : (j : ℕ) → IsParent i j → j < len → (IsParent i c) × (k c ≤ k j)

-- The numbers are those of scopes, in the order of a heap.
pub record IsDueHeap (rows : List Scope) (due : List ℕ) : Type 0 where
  pub known : AreKnown rows due
  pub few : length due ≤ MOST_SCOPES
  pub heap : IsHeap (key_at rows due) (length due)

-- The same numbers, perhaps in another order.
pub record SameNumbers (old new : List ℕ) : Type 0 where
  pub size : length new ≡ length old
  pub there : (n : ℕ) → Among n old → Among n new
  pub back : (n : ℕ) → Among n new → Among n old

-- ---- adding and removing deadlines

-- The first number, which has the lowest key, is removed.
pub record TakesFirst (rows : List Scope) (old : List ℕ) (n : ℕ) (new : List ℕ) : Type 0 where
  pub heap : IsDueHeap rows new
  pub size : length new + 1 ≡ length old
  pub first : n ≡ slice_index old 0
  pub among : Among n old
  pub others : (m : ℕ) → Among m old → (m ≡ n) ⊎ Among m new
  pub back : (m : ℕ) → Among m new → Among m old
  pub least : (m : ℕ) → Among m old → key rows n ≤ key rows m

-- If the earliest deadline has come, it is removed, and its scope's hit is returned. Otherwise no
-- deadline has come.
abbrev pub TakesPassed : ℕ → ℕ → List Scope → List ℕ → Option (ℕ × Hit) → List ℕ → Type 0
TakesPassed e clock rows old None new =
    (new ≡ old) × ((n : ℕ) → Among n old → due_at e clock rows n ≡ None)
TakesPassed e clock rows old (Some a) new =
    TakesFirst rows old a.0 new × (due_at e clock rows a.0 ≡ Some a.1)

-- Scope n is added, if it has a deadline and no hit.
pub record Noted (rows : List Scope) (old : List ℕ) (n : ℕ) (new : List ℕ) : Type 0 where
  pub heap : IsDueHeap rows new
  pub size : length new ≤ length old + 1
  pub kept : (m : ℕ) → Among m old → Among m new
  pub only : (m : ℕ) → Among m new → Among m old ⊎ ((m ≡ n) × IsSome (deadline_at rows n))
  pub waits : IsSome (deadline_at rows n) → own_hit rows n ≡ None → Among n new

-- ---- the deadlines of a tree

-- Each of these scopes has a deadline, and each scope with a deadline and no hit is one of them.
pub record AreWaiting (rows : List Scope) (due : List ℕ) : Type 0 where
  pub heap : IsDueHeap rows due
  pub fits : length due ≤ length rows
  pub dues : (n : ℕ) → Among n due → IsSome (deadline_at rows n)
  pub waits : (n : ℕ) → IsSome (deadline_at rows n) → own_hit rows n ≡ None → Among n due
