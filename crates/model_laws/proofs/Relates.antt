-- The first hits of two lists of rows that differ in hits alone: what relates their own hits, and
-- is kept where own hits join those from above, relates their first hits.
use Rattle.run_model.proofs.Common.{◌≡◌, ◌<◌, ℕ, zero, suc, Bool, true, false, cond, List, length}
use Rattle.run_model.proofs.Common.{get_or, Option, Some, None, slice_get, refl, sym, subst, ap}
use Rattle.run_model.proofs.Common.{◌∙◌, arith, filter_map, ordering_then, is_lt, Less, Greater}
use Rattle.run_model.proofs.Common.{none-some, slice_get-get_or, slice_get_within, is_root}
use Rattle.run_model.proofs.Common.{is_detached, upwards, line_within, before_detached, hit_at}
use Rattle.run_model.proofs.Common.{comes_before, least_hit, first_hit, AreOrdered}
use Rattle.std.specs.Ordering.{nat_cmp}
use Rattle.std.specs.Cmp.{nat_cmp_is}
use Rattle.run_model.specs.declared.scopes.Hit.{Hit}
use Rattle.run_model.specs.declared.scopes.Kind.{Kind}
use Rattle.run_model.specs.declared.scopes.Scope.{Scope}
use Rattle.model_laws.specs.Searches.{above, joined, first_hit_from}
use Rattle.model_laws.proofs.Lines.{first_hit_up}

-- ---- the order of hits

-- The hit of an earlier event comes before, whatever the moments and the scopes.
pub earlier_comes_before : (a b : ℕ × Hit) → a.1.event < b.1.event → comes_before a b ≡ true
earlier_comes_before a b less =
    let rest = ordering_then (nat_cmp a.1.moment b.1.moment) (nat_cmp a.0 b.0) in
    ap (λ o. is_lt (ordering_then o rest)) (sym (nat_cmp_is a.1.event b.1.event Less less))

pub later_comes_after : (a b : ℕ × Hit) → b.1.event < a.1.event → comes_before a b ≡ false
later_comes_after a b less =
    let rest = ordering_then (nat_cmp a.1.moment b.1.moment) (nat_cmp a.0 b.0) in
    ap (λ o. is_lt (ordering_then o rest)) (sym (nat_cmp_is a.1.event b.1.event Greater less))

-- ---- relations of hits

-- The relation of first hits holds of none, and is kept where related own hits join.
pub record IsKept (First : Option (ℕ × Hit) → Option (ℕ × Hit) → Type 0)
    (Own : Option Hit → Option Hit → Type 0) : Type 0 where
  pub none : First None None
  pub join : (s : ℕ) (up up' : Option (ℕ × Hit)) (own own' : Option Hit) → First up up'
      → Own own own' → First (joined up s own) (joined up' s own')

-- Two rows that differ in hits alone, and those are related.
pub record RowRelates (Own : Option Hit → Option Hit → Type 0) (a b : Scope) : Type 0 where
  pub kind : b.kind ≡ a.kind
  pub parent : b.parent ≡ a.parent
  pub hit : Own a.hit b.hit

-- Each of the old rows is there again, related.
abbrev pub RowsRelate : (Option Hit → Option Hit → Type 0) → List Scope → List Scope → Type 0
RowsRelate Own old new = (s : ℕ) (a : Scope) → slice_get old s ≡ Some a
    → (b : Scope) × (slice_get new s ≡ Some b) × RowRelates Own a b

-- ---- the search, row by row

-- The first hit of a row of this kind and parent: the first of its own hit and its parent's.
abbrev found : List Scope → ℕ → Kind → ℕ → Option Hit → Option (ℕ × Hit)
found rows s kind parent own =
    cond (is_detached kind) None (joined (cond (is_root kind) None (first_hit rows parent)) s own)

row_relates : (First : Option (ℕ × Hit) → Option (ℕ × Hit) → Type 0)
    (Own : Option Hit → Option Hit → Type 0) → IsKept First Own → (s : ℕ) (old new : List Scope)
    (a b : Scope) → RowRelates Own a b
    → (is_root a.kind ≡ false → First (first_hit old a.parent) (first_hit new a.parent))
    → First (first_hit_from old s a) (first_hit_from new s b)
row_relates First Own kept s old new a b row parents =
    subst (First (first_hit_from old s a)) (sym same) (by_detached (is_detached a.kind))
  where
    same : first_hit_from new s b ≡ found new s a.kind a.parent b.hit
    same =
        ap (λ kind. found new s kind b.parent b.hit) row.kind
        ∙ ap (λ parent. found new s a.kind parent b.hit) row.parent

    by_root : (r : Bool) → (r ≡ false → First (first_hit old a.parent) (first_hit new a.parent))
        → First (cond r None (first_hit old a.parent)) (cond r None (first_hit new a.parent))
    by_root true up = kept.none
    by_root false up = up refl

    by_detached : (d : Bool) → First
        (cond d None (joined (above (first_hit old) None a) s a.hit))
        (cond d None (joined (above (first_hit new) None a) s b.hit))
    by_detached true = kept.none
    by_detached false = kept.join s _ _ a.hit b.hit (by_root (is_root a.kind) parents) row.hit

first_hits_below : (First : Option (ℕ × Hit) → Option (ℕ × Hit) → Type 0)
    (Own : Option Hit → Option Hit → Type 0) → IsKept First Own → (old new : List Scope)
    → AreOrdered old → AreOrdered new → RowsRelate Own old new → (most s : ℕ) (a : Scope)
    → s < most → slice_get old s ≡ Some a → First (first_hit old s) (first_hit new s)
first_hits_below First Own kept old new ordered ordered' rows zero s a less at =
    absurd (omega arith)
first_hits_below First Own kept old new ordered ordered' rows (suc most) s a less at =
    let b = rows s a at in
    let lesser = first_hits_below First Own kept old new ordered ordered' rows most in
    let here = row_relates First Own kept s old new a b.0 b.2 (parents lesser) in
    subst (λ x. First x (first_hit new s)) (sym (first_hit_up old s a ordered at))
    (subst (First (first_hit_from old s a)) (sym (first_hit_up new s b.0 ordered' b.1)) here)
  where
    parents : ((t : ℕ) (row : Scope) → t < most → slice_get old t ≡ Some row
        → First (first_hit old t) (first_hit new t)) → is_root a.kind ≡ false
        → First (first_hit old a.parent) (first_hit new a.parent)
    parents lesser below_root =
        let up : a.parent < s = ordered s a at below_root in
        let within : s < length old = slice_get_within old s a at in
        lesser a.parent (get_or old a.parent a) (omega arith)
        (slice_get-get_or old a.parent a (omega arith))

-- A scope without a row is not done.
no_row : (rows : List Scope) (s : ℕ) → slice_get rows s ≡ None → first_hit rows s ≡ None
no_row rows s at =
    ap (λ o. least_hit (filter_map hit_at (before_detached (upwards (line_within s rows) s o)))) at

-- The first hit of a scope that was done is related to the new one.
pub first_hits_relate : (First : Option (ℕ × Hit) → Option (ℕ × Hit) → Type 0)
    (Own : Option Hit → Option Hit → Type 0) → IsKept First Own → (old new : List Scope)
    → AreOrdered old → AreOrdered new → RowsRelate Own old new → (s : ℕ) (a : ℕ × Hit)
    → first_hit old s ≡ Some a → First (Some a) (first_hit new s)
first_hits_relate First Own kept old new ordered ordered' rows s a done =
    by_row (slice_get old s) refl
  where
    by_row : (row : Option Scope) → slice_get old s ≡ row → First (Some a) (first_hit new s)
    by_row None at = absurd (none-some a (sym (no_row old s at) ∙ done))
    by_row (Some row) at =
        subst (λ x. First x (first_hit new s)) done
        (first_hits_below First Own kept old new ordered ordered' rows (suc s) s row (omega arith)
        at)
