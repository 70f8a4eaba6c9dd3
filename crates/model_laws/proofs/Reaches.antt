-- How far a hit reaches, over the rows of a line.
use Rattle.run_model.proofs.Common.{◌≡◌, ℕ, zero, suc, Bool, true, false, not, cond, ◌==◌, ◌&&◌}
use Rattle.run_model.proofs.Common.{◌||◌, List, [], ◌∷◌, Option, Some, None, is_some, IsSome}
use Rattle.run_model.proofs.Common.{slice_get, refl, sym, ap, ◌∙◌, filter_map, cons_option}
use Rattle.run_model.proofs.Common.{list_any, AllByRecursion, option_map, option_map_or}
use Rattle.run_model.proofs.Common.{option_and_then, eqb-true, false≢true, State, is_root}
use Rattle.run_model.proofs.Common.{is_detached, upwards, line_within, line, before_detached}
use Rattle.run_model.proofs.Common.{chain, own_hit, hit_at, least_hit, first_hit, is_done}
use Rattle.run_model.proofs.Common.{IsConsistent, can_be_hit, or-true, and-false}
use Rattle.run_model.specs.declared.scopes.Hit.{Hit}
use Rattle.run_model.specs.declared.scopes.Kind.{Kind}
use Rattle.run_model.specs.declared.scopes.Kind.TheVariants as kind
use Rattle.run_model.specs.declared.scopes.Scope.{Scope}
use Rattle.model_laws.specs.Hits.{is_on, below, has_detached, has_hit, is_detached_at, is_cut_off}
use Rattle.model_laws.specs.Hits.{EndsBelow, IsOnChains, EndsAllButCutOff, HitsReachDown}
use Rattle.model_laws.specs.Hits.{IsAttached}

-- ---- the rows of a line

-- This is the row of its number.
abbrev pub IsRow : List Scope → ℕ × Scope → Type 0
IsRow rows r = slice_get rows r.0 ≡ Some r.1

upwards_rows : (rows : List Scope) (walk : ℕ → List (ℕ × Scope)) (s : ℕ) (found : Option Scope)
    → slice_get rows s ≡ found
    → ((t : ℕ) → AllByRecursion (IsRow rows) (walk t))
    → AllByRecursion (IsRow rows) (upwards walk s found)
upwards_rows rows walk s None at all = tt
upwards_rows rows walk s (Some row) at all = (at, by_root (is_root row.kind))
  where
    by_root : (b : Bool)
        → AllByRecursion (IsRow rows) (cond b [] (walk row.parent))
    by_root true = tt
    by_root false = all row.parent

line_rows : (rows : List Scope) (most s : ℕ)
    → AllByRecursion (IsRow rows) (line_within most rows s)
line_rows rows zero s = tt
line_rows rows (suc most) s =
    upwards_rows rows (line_within most rows) s (slice_get rows s) refl (line_rows rows most)

-- What holds of all holds of those before the first detached one.
pub before_all : (P : (ℕ × Scope) → Type 0) (rows : List (ℕ × Scope)) → AllByRecursion P rows
    → AllByRecursion P (before_detached rows)
before_all P [] all = tt
before_all P (r ∷ rows) all = by_detached (is_detached r.1.kind) (before_all P rows all.1)
  where
    by_detached : (b : Bool) → AllByRecursion P (before_detached rows)
        → AllByRecursion P (cond b [] (r ∷ before_detached rows))
    by_detached true rest = tt
    by_detached false rest = (all.0, rest)

pub chain_rows : (rows : List Scope) (s : ℕ) → AllByRecursion (IsRow rows) (chain rows s)
chain_rows rows s = before_all (IsRow rows) (line rows s) (line_rows rows (suc s) s)

-- ---- done

-- If one row passes the first test, and each such row passes the second, one passes the second.
any_more : {X : Type 0} (P : X → Type 0) (p q : X → Bool) (xs : List X) → AllByRecursion P xs
    → ((x : X) → P x → p x ≡ true → q x ≡ true) → list_any p xs ≡ true → list_any q xs ≡ true
any_more P p q [] all more passed = passed
any_more P p q (x ∷ xs) all more passed = here (p x) refl passed (any_more P p q xs all.1 more)
  where
    here : (b : Bool) → p x ≡ b → (b || list_any p xs) ≡ true
        → (list_any p xs ≡ true → list_any q xs ≡ true) → (q x || list_any q xs) ≡ true
    here true e some rest = ap (λ b. b || list_any q xs) (more x all.0 e)
    here false e some rest = ap (λ b. q x || b) (rest some) ∙ or-true (q x)

is_some-map : {X Y : Type 0} (f : X → Y) (o : Option X) → is_some (option_map f o) ≡ is_some o
is_some-map f None = refl
is_some-map f (Some x) = refl

some_least : (own : Option Hit) (s : ℕ) (hits : List (ℕ × Hit)) (b : Bool)
    → is_some (least_hit hits) ≡ b
    → is_some (least_hit (cons_option (option_map (λ hit. (s, hit)) own) hits)) ≡ (is_some own || b)
some_least None s hits b rest = rest
some_least (Some hit) s hits b rest = refl

pub some_hit : (rows : List (ℕ × Scope))
    → is_some (least_hit (filter_map hit_at rows)) ≡ has_hit rows
some_hit [] = refl
some_hit (r ∷ rows) = some_least r.1.hit r.0 (filter_map hit_at rows) (has_hit rows) (some_hit rows)

pub done_exactly : (rows : List Scope) (s : ℕ) → is_done rows s ≡ has_hit (chain rows s)
done_exactly rows s = is_some-map (λ a. a.1) (first_hit rows s) ∙ some_hit (chain rows s)

-- The row of a scope that was hit has a hit.
hit_there : (rows : List Scope) (n : ℕ) → IsSome (own_hit rows n) → (r : ℕ × Scope)
    → IsRow rows r → (r.0 == n) ≡ true → is_some r.1.hit ≡ true
hit_there rows n hit r at same =
    let found : own_hit rows r.0 ≡ r.1.hit = ap (option_and_then (λ row. row.hit)) at in
    ap is_some (sym found ∙ ap (own_hit rows) (eqb-true r.0 n same)) ∙ hit

-- If a scope that was hit is one of these rows, one of them has a hit.
pub hit_among : (all : List Scope) (n : ℕ) (rows : List (ℕ × Scope))
    → AllByRecursion (IsRow all) rows
    → IsSome (own_hit all n) → is_on n rows ≡ true → has_hit rows ≡ true
hit_among all n rows are hit on =
    any_more (IsRow all) (λ r. r.0 == n) (λ r. is_some r.1.hit) rows are (hit_there all n hit) on

pub ends_below : (rows : List Scope) (n : ℕ) → IsSome (own_hit rows n) → EndsBelow rows n
ends_below rows n hit s on =
    done_exactly rows s ∙ hit_among rows n (chain rows s) (chain_rows rows s) hit on

-- ---- cut off

-- If row n is on the line, it is on the chain, unless a detached row is below it.
cut_at : (n : ℕ) (rows : List (ℕ × Scope))
    → AllByRecursion (λ r. (r.0 == n) ≡ true → is_detached r.1.kind ≡ false) rows
    → is_on n (before_detached rows) ≡ (is_on n rows && not (has_detached (below n rows)))
cut_at n [] all = refl
cut_at n (r ∷ rows) all = here (r.0 == n) refl (is_detached r.1.kind) refl (cut_at n rows all.1)
  where
    here : (same : Bool) → (r.0 == n) ≡ same → (detached : Bool) → is_detached r.1.kind ≡ detached
        → is_on n (before_detached rows) ≡ (is_on n rows && not (has_detached (below n rows)))
        → is_on n (before_detached (r ∷ rows))
        ≡ (is_on n (r ∷ rows) && not (has_detached (below n (r ∷ rows))))
    here true e detached f rest = rw (all.0 e, e) refl
    here false e true f rest = rw (e, f) (sym (and-false _))
    here false e false f rest = rw (e, f, e) rest

all_more : {X : Type 0} (P Q : X → Type 0) (xs : List X) → ((x : X) → P x → Q x)
    → AllByRecursion P xs → AllByRecursion Q xs
all_more P Q [] more all = tt
all_more P Q (x ∷ xs) more all = (more x all.0, all_more P Q xs more all.1)

-- The row of a scope that is not detached is not detached.
not_detached : (rows : List Scope) (n : ℕ) → IsAttached rows n → (r : ℕ × Scope)
    → IsRow rows r → (r.0 == n) ≡ true → is_detached r.1.kind ≡ false
not_detached rows n joins r at same =
    let found : is_detached_at rows r.0 ≡ is_detached r.1.kind =
    ap (λ row. option_map_or (λ x. is_detached x.kind) row false) at in
    sym found ∙ ap (is_detached_at rows) (eqb-true r.0 n same) ∙ joins

pub cut_exactly : (rows : List Scope) (n : ℕ) → IsAttached rows n → IsOnChains rows n
cut_exactly rows n joins s =
    cut_at n (line rows s)
    (all_more (IsRow rows) (λ r. (r.0 == n) ≡ true → is_detached r.1.kind ≡ false) (line rows s)
    (not_detached rows n joins) (line_rows rows (suc s) s))

both_but : (on cut : Bool) → on ≡ true → (on && not cut) ≡ false → cut ≡ true
both_but on true e f = refl
both_but true false e f = absurd (false≢true (sym f))
both_but false false e f = absurd (false≢true e)

pub ends_all_but_cut_off : (rows : List Scope) (n : ℕ) → IsAttached rows n
    → EndsAllButCutOff rows n
ends_all_but_cut_off rows n joins s on off =
    both_but (is_on n (line rows s)) (is_cut_off rows n s) on
    (sym (cut_exactly rows n joins s) ∙ off)

-- ---- in a consistent state

pub can_be_hit_joins : (kind : Kind) → can_be_hit kind ≡ true → is_detached kind ≡ false
can_be_hit_joins kind.Root e = refl
can_be_hit_joins kind.Cancel e = refl
can_be_hit_joins kind.Cause e = refl
can_be_hit_joins (kind.Deadline moment cause) e = refl
can_be_hit_joins (kind.Value key text) e = refl
can_be_hit_joins kind.Detached e = absurd (false≢true e)
can_be_hit_joins kind.Group e = refl

-- No detached scope was hit.
hit_joins : (p : State) (n : ℕ) → IsConsistent p → IsSome (own_hit p.tree.scopes n)
    → IsAttached p.tree.scopes n
hit_joins p n consistent hit = by_row (slice_get p.tree.scopes n) refl hit
  where
    by_row : (found : Option Scope) → slice_get p.tree.scopes n ≡ found
        → IsSome (option_and_then (λ row. row.hit) found)
        → option_map_or (λ row. is_detached row.kind) found false ≡ false
    by_row None at has = refl
    by_row (Some row) at has = can_be_hit_joins row.kind (consistent.hits.kinds n row at has)

pub reaches_down : (p : State) → IsConsistent p → HitsReachDown p.tree.scopes
reaches_down p consistent n hit = record {
  ends = ends_below p.tree.scopes n hit;
  cut = ends_all_but_cut_off p.tree.scopes n (hit_joins p n consistent hit);
}
