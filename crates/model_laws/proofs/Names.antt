-- The row with a name, and the name of a row.
use Rattle.run_model.proofs.Common.{position, ◌≡◌, ◌<◌, ◌&&◌, not, ℕ, Bool, true, List, length}
use Rattle.run_model.proofs.Common.{Option, Some, None, slice_get, unwrap_or, refl, sym, ap, arith}
use Rattle.run_model.proofs.Common.{ltb-true, bytes_eq-Decides, State, has_row, scope_of, group_of}
use Rattle.run_model.proofs.Common.{AreNumbered, is_first, row_there}
use Rattle.std.proofs.Common.{bytes_eq}
use Rattle.run_model.specs.declared.scopes.Scope.{Scope}
use Rattle.run_model.specs.declared.groups.Group.{Group}
use Rattle.model_laws.proofs.Places.{row_at_place, place_of_row}

-- ---- rows with names

-- The row at which a name is found has this name.
pub named_row : {X : Type 0} (name_of : X → List ℕ) (rows : List X) (name : List ℕ) (n : ℕ)
    → position (λ row. bytes_eq name (name_of row)) rows ≡ Some n
    → (row : X) × (slice_get rows n ≡ Some row) × (name_of row ≡ name)
named_row name_of rows name n at =
    let row = row_at_place (λ row. bytes_eq name (name_of row)) rows n at in
    (row.0, row.1, sym ((bytes_eq-Decides name (name_of row.0)).0 row.2))

-- No two of the rows have one name.
abbrev pub AreDistinct : {X : Type 0} → (X → List ℕ) → List X → Type 0
AreDistinct {X} name_of rows = (m n : ℕ) (a b : X) → slice_get rows m ≡ Some a
    → slice_get rows n ≡ Some b → name_of a ≡ name_of b → m ≡ n

-- The name of a row is found at the number of the row.
pub place_of_name : {X : Type 0} (name_of : X → List ℕ) (rows : List X) (n : ℕ) (row : X)
    → AreDistinct name_of rows → slice_get rows n ≡ Some row
    → position (λ other. bytes_eq (name_of row) (name_of other)) rows ≡ Some n
place_of_name {X} name_of rows n row distinct found =
    place_of_row (λ other. bytes_eq (name_of row) (name_of other)) rows n row found own alone
  where
    own : bytes_eq (name_of row) (name_of row) ≡ true
    own = (bytes_eq-Decides (name_of row) (name_of row)).1 refl

    alone : (m : ℕ) (other : X) → slice_get rows m ≡ Some other
        → bytes_eq (name_of row) (name_of other) ≡ true → m ≡ n
    alone m other there same =
        let alike = (bytes_eq-Decides (name_of row) (name_of other)).0 same in
        sym (distinct n m row other found there alike)

-- The number of the row with this name. If there is none, it is a number that no row has.
abbrev pub named : {X : Type 0} → (X → List ℕ) → List X → List ℕ → ℕ
named name_of rows name =
    unwrap_or (position (λ row. bytes_eq name (name_of row)) rows) (length rows)

found_below : (o : Option ℕ) (len : ℕ) → unwrap_or o len < len → o ≡ Some (unwrap_or o len)
found_below None len less = absurd (omega (arith, less))
found_below (Some n) len less = refl

row_of_name : {X : Type 0} (name_of : X → List ℕ) (rows : List X) (name : List ℕ)
    → named name_of rows name < length rows
    → (row : X) × (slice_get rows (named name_of rows name) ≡ Some row) × (name_of row ≡ name)
row_of_name name_of rows name less =
    named_row name_of rows name (named name_of rows name)
    (found_below (position (λ row. bytes_eq name (name_of row)) rows) (length rows) less)

name_of_row : {X : Type 0} (name_of : X → List ℕ) (rows : List X) (n : ℕ)
    → AreDistinct name_of rows → n < length rows
    → (name : List ℕ) × (named name_of rows name ≡ n)
name_of_row name_of rows n distinct less =
    let row = row_there rows n less in
    let at = place_of_name name_of rows n row.0 distinct row.1 in
    (name_of row.0, ap (λ (o : Option ℕ). unwrap_or o (length rows)) at)

-- ---- scopes and groups

pub named_scope : (p : State) (name : List ℕ) → has_row p.tree.scopes (scope_of p name) ≡ true
    → (row : Scope) × (slice_get p.tree.scopes (scope_of p name) ≡ Some row) × (row.name ≡ name)
named_scope p name there =
    row_of_name (λ row. row.name) p.tree.scopes name (ltb-true _ _ there)

pub named_group : (p : State) (name : List ℕ) → has_row p.work.groups (group_of p name) ≡ true
    → (row : Group) × (slice_get p.work.groups (group_of p name) ≡ Some row) × (row.name ≡ name)
named_group p name there =
    row_of_name (λ row. row.name) p.work.groups name (ltb-true _ _ there)

-- The name of the scope, or of the group, that the first test asks for.
pub name_of_scope : (p : State) (s : ℕ) (rest : Bool) → AreNumbered p
    → (not (not (has_row p.tree.scopes s)) && rest) ≡ true → (name : List ℕ) × (scope_of p name ≡ s)
name_of_scope p s rest numbered may =
    name_of_row (λ row. row.name) p.tree.scopes s numbered.scope_names
    (ltb-true _ _ (is_first (has_row p.tree.scopes s) rest may))

pub name_of_group : (p : State) (g : ℕ) (rest : Bool) → AreNumbered p
    → (not (not (has_row p.work.groups g)) && rest) ≡ true → (name : List ℕ) × (group_of p name ≡ g)
name_of_group p g rest numbered may =
    name_of_row (λ row. row.name) p.work.groups g numbered.group_names
    (ltb-true _ _ (is_first (has_row p.work.groups g) rest may))
