-- The line, chain, first hit, deadline and values of a scope, computed from those of its parent.
use Rattle.std.specs.Prelude.{◌≡◌, ℕ, true, false, if◌then◌else◌, List, [], ◌∷◌, Option, Some, None}
use Rattle.std.specs.Prelude.{slice_get}
use Rattle.run_model.specs.declared.scopes.Hit.{Hit}
use Rattle.run_model.specs.declared.scopes.Scope.{Scope}
use Rattle.run_model.specs.Scopes.{is_root, is_detached, line, chain, own_hit}
use Rattle.run_model.specs.Scopes.{comes_before, first_of, first_hit, own_deadline, lesser}
use Rattle.run_model.specs.Scopes.{deadline_of, text_under, value_of, AreOrdered}
use Rattle.model_laws.specs.Hits.{is_on}

-- The fact is true of each scope, if parents have lower numbers than their children.
abbrev pub OfEachScope : (List Scope → ℕ → Scope → Type 0) → Type 0
OfEachScope Fact = (rows : List Scope) (s : ℕ) (row : Scope) → AreOrdered rows
    → slice_get rows s ≡ Some row → Fact rows s row

-- What a row has from above is what its parent has. Root has nothing above it.
abbrev pub above : {X : Type 0} → (ℕ → X) → X → Scope → X
above answer nothing row = if is_root row.kind then nothing else answer row.parent

-- The line of a scope is its row, followed by its parent's line.
abbrev pub line_from : List Scope → ℕ → Scope → List (ℕ × Scope)
line_from rows s row = (s, row) ∷ above (line rows) [] row

-- The chain of a scope is its row, followed by its parent's chain. A detached scope has no chain.
abbrev pub chain_from : List Scope → ℕ → Scope → List (ℕ × Scope)
chain_from rows s row =
    if is_detached row.kind then [] else (s, row) ∷ above (chain rows) [] row

-- The first of two hits: the scope's own and the one from above, each of which may be missing.
abbrev pub joined : Option (ℕ × Hit) → ℕ → Option Hit → Option (ℕ × Hit)
joined up s None = up
joined up s (Some hit) = Some (first_of up (s, hit))

-- The first hit of a scope is the first of its own hit and its parent's first hit. A detached scope
-- has none.
abbrev pub first_hit_from : List Scope → ℕ → Scope → Option (ℕ × Hit)
first_hit_from rows s row =
    if is_detached row.kind then None else joined (above (first_hit rows) None row) s row.hit

-- The earlier of two deadlines: the scope's own and the one from above, each of which may be
-- missing.
abbrev pub earlier : Option ℕ → Option ℕ → Option ℕ
earlier None up = up
earlier (Some own) up = lesser own up

-- The deadline of a scope is the earlier of its own and its parent's. A detached scope has none.
abbrev pub deadline_from : List Scope → Scope → Option ℕ
deadline_from rows row =
    if is_detached row.kind then None
    else earlier (own_deadline row.kind) (above (deadline_of rows) None row)

-- A scope's own text, or else the one from above.
abbrev pub nearest : Option (List ℕ) → Option (List ℕ) → Option (List ℕ)
nearest None up = up
nearest (Some own) up = Some own

-- The value of a key at a scope is the scope's own, or else its parent's, also at a detached scope.
abbrev pub value_from : List Scope → Scope → List ℕ → Option (List ℕ)
value_from rows row key =
    nearest (text_under key row.kind) (above (λ s. value_of rows s key) None row)

-- The value of each key at a scope is the one that its row and its parent's value give.
abbrev pub HasValuesFrom : List Scope → ℕ → Scope → Type 0
HasValuesFrom rows s row = (key : List ℕ) → value_of rows s key ≡ value_from rows row key

-- Of the hits on the chain of scope s, this is the least: it is one of them, and none comes before
-- it.
pub record IsLeastHit (rows : List Scope) (s : ℕ) (a : ℕ × Hit) : Type 0 where
  pub on : is_on a.0 (chain rows s) ≡ true
  pub own : own_hit rows a.0 ≡ Some a.1
  pub least : (n : ℕ) (hit : Hit) → is_on n (chain rows s) ≡ true → own_hit rows n ≡ Some hit
      → comes_before (n, hit) a ≡ false

-- If scope s is done, the hit that made it done is the least one on its chain.
abbrev pub IsFirstTheLeast : List Scope → ℕ → Type 0
IsFirstTheLeast rows s = (a : ℕ × Hit) → first_hit rows s ≡ Some a → IsLeastHit rows s a
