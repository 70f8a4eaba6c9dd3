-- The first hit that a mark names, and the mark that a row has from above.
use Rattle.run_model.proofs.Common.{◌≡◌, ◌<◌, ℕ, Bool, true, false, cond, List, length, Option}
use Rattle.run_model.proofs.Common.{Some, None, slice_get, refl, option_map, IfSome}
use Rattle.run_model.proofs.Common.{none-some, option_and_then_some, slice_get_within, is_root}
use Rattle.run_model.proofs.Common.{ending, subst, sym, ◌∙◌}
use Rattle.run_model.proofs.Common.{own_hit, first_hit}
use Rattle.run_model.specs.declared.scopes.Hit.{Hit}
use Rattle.run_model.specs.declared.scopes.Scope.{Scope}
use Rattle.model_laws.specs.Searches.{above}
use Rattle.model_laws.proofs.Least.{first_hit_least}
use Rattle.scope_tree.specs.Marks.{AreMarked, IsMark, mark_of}

-- A first hit is the own hit of its scope.
own_first : (rows : List Scope) (s : ℕ) (a : ℕ × Hit) → first_hit rows s ≡ Some a
    → own_hit rows a.0 ≡ Some a.1
own_first rows s a found = (first_hit_least rows s a found).own

pub own_hit_within : (rows : List Scope) (n : ℕ) (hit : Hit) → own_hit rows n ≡ Some hit
    → n < length rows
own_hit_within rows n hit own =
    option_and_then_some (λ row. row.hit) (slice_get rows n) hit own
    (λ row found has. slice_get_within rows n row found)

-- The mark of a done scope names the scope whose hit ended it.
pub marked_ending : (rows : List Scope) (marks : List (Option ℕ)) (s n : ℕ)
    → AreMarked rows marks → s < length rows → mark_of marks s ≡ Some n
    → ending rows s ≡ own_hit rows n
marked_ending rows marks s n were known is =
    let named = subst (IsMark rows s) is (were.right s known) in named.1 ∙ sym named.2

pub marked_within : (rows : List Scope) (marks : List (Option ℕ)) (s n : ℕ)
    → AreMarked rows marks → s < length rows → mark_of marks s ≡ Some n → n < length rows
marked_within rows marks s n were known is =
    let named = subst (IsMark rows s) is (were.right s known) in
    own_hit_within rows n named.0 named.2

-- Without a first hit there is no mark. Otherwise it names a scope whose own hit is the same.
abbrev pub IsNamed : List Scope → Option (ℕ × Hit) → Option ℕ → Type 0
IsNamed rows first None = option_map (λ a. a.1) first ≡ None
IsNamed rows first (Some n) =
    (hit : Hit) × (option_map (λ a. a.1) first ≡ Some hit) × (own_hit rows n ≡ Some hit)

-- ---- from above

-- The first hit that a row has from above, and the mark.
abbrev pub hit_above : List Scope → Scope → Option (ℕ × Hit)
hit_above rows row = above (first_hit rows) None row

abbrev pub mark_above : List (Option ℕ) → Scope → Option ℕ
mark_above marks row = above (mark_of marks) None row

pub named_above : (rows : List Scope) (marks : List (Option ℕ)) (row : Scope)
    → AreMarked rows marks → (is_root row.kind ≡ false → row.parent < length rows)
    → IsNamed rows (hit_above rows row) (mark_above marks row)
named_above rows marks row were known = by_root (is_root row.kind) known
  where
    by_root : (b : Bool) → (b ≡ false → row.parent < length rows)
        → IsNamed rows (cond b None (first_hit rows row.parent))
        (cond b None (mark_of marks row.parent))
    by_root true known = refl
    by_root false known = were.right row.parent (known refl)

pub own_above : (rows : List Scope) (row : Scope) (a : ℕ × Hit) → hit_above rows row ≡ Some a
    → own_hit rows a.0 ≡ Some a.1
own_above rows row a = by_root (is_root row.kind)
  where
    by_root : (b : Bool) → cond b None (first_hit rows row.parent) ≡ Some a
        → own_hit rows a.0 ≡ Some a.1
    by_root true is = absurd (none-some a is)
    by_root false is = own_first rows row.parent a is

-- A mark names a scope that is there.
named_within : (rows : List Scope) (first : Option (ℕ × Hit)) (mark : Option ℕ)
    → IsNamed rows first mark → IfSome mark (λ n. n < length rows)
named_within rows first None is = tt
named_within rows first (Some n) is = own_hit_within rows n is.0 is.2

pub above_within : (rows : List Scope) (marks : List (Option ℕ)) (row : Scope)
    → AreMarked rows marks → (is_root row.kind ≡ false → row.parent < length rows)
    → IfSome (mark_above marks row) (λ n. n < length rows)
above_within rows marks row were known =
    named_within rows (hit_above rows row) (mark_above marks row)
    (named_above rows marks row were known)
