-- The kept rows: the scopes above a kept scope, the scope of a kept group, and whatever isn't
-- finished.
use Rattle.run_model.proofs.Common.{◌≡◌, ◌⊎◌, ◌<◌, ◌+◌, ◌==◌, ◌&&◌, ◌||◌, ℕ, zero, suc, Bool, true}
use Rattle.run_model.proofs.Common.{false, not, cond, List, [], ◌∷◌, length, Option, Some, None}
use Rattle.run_model.proofs.Common.{slice_get, inl, inr, refl, sym, ap, subst, ◌∙◌, is_some, arith}
use Rattle.run_model.proofs.Common.{range_with_len, filter_map, AllByRecursion, option_map}
use Rattle.run_model.proofs.Common.{option_map_or, and_parts, and_from, or_cases, eq-eqb, eqb-true}
use Rattle.run_model.proofs.Common.{false≢true, same_Some, slice_get_within, none-some, root}
use Rattle.run_model.proofs.Common.{HasRow, is_root, upwards, line_within, line, before_detached}
use Rattle.run_model.proofs.Common.{hit_at, least_hit, is_done, AreOrdered, State, or_left}
use Rattle.run_model.proofs.Common.{or_right, row_there, any_passes_from_place}
use Rattle.run_model.specs.declared.groups.Group.{Group}
use Rattle.run_model.specs.declared.scopes.Scope.{Scope}
use Rattle.run_model.specs.declared.tasks.Task.{Task}
use Rattle.model_laws.specs.Hits.{is_on}
use Rattle.model_laws.specs.Searches.{above}
use Rattle.model_laws.proofs.Lines.{line_up}
use Rattle.model_laws.proofs.FirstErrors.{found_any}
use Rattle.state_renewal.specs.Renewed.{hosts_unwaited, is_needed, scope_numbers, keeps_scope}
use Rattle.state_renewal.specs.Renewed.{keeps_group, keeps_task}

-- ---- rows

pub range_get : (a n i : ℕ) → i < n → slice_get (range_with_len a n) i ≡ Some (a + i)
range_get a zero i less = absurd (omega (arith, less))
range_get a (suc n) zero less = let e : a ≡ a + 0 = omega arith in ap Some e
range_get a (suc n) (suc i) less =
    let e : (a + 1) + i ≡ a + suc i = omega arith in
    range_get (a + 1) n i (omega (arith, less)) ∙ ap Some e

pub number_get : (n i : ℕ) → i < n → slice_get (range_with_len 0 n) i ≡ Some i
number_get n i less = let e : 0 + i ≡ i = omega arith in range_get 0 n i less ∙ ap Some e

pub all_at : {X : Type 0} (P : X → Type 0) (rows : List X) → AllByRecursion P rows → (n : ℕ) (x : X)
    → slice_get rows n ≡ Some x → P x
all_at P [] all n x found = absurd (none-some x found)
all_at P (row ∷ rows) all zero x found = subst P (same_Some row x found) all.0
all_at P (row ∷ rows) all (suc n) x found = all_at P rows all.1 n x found

-- ---- lines

-- Each scope is on its own line.
pub line_self : (rows : List Scope) (s : ℕ) (row : Scope) → slice_get rows s ≡ Some row
    → is_on s (line rows s) ≡ true
line_self rows s row found =
    subst (λ o. is_on s (upwards (line_within s rows) s o) ≡ true) (sym found)
    (or_left (s == s)
    (is_on s (cond (is_root row.kind) [] (line_within s rows row.parent)))
    (eq-eqb s s refl))

-- What passes from a scope to its parent on all lines of scopes below t.
abbrev PassesBelow : List Scope → ℕ → ℕ → Scope → Type 0
PassesBelow rows t s row = (u : ℕ) → u < t → is_on s (line rows u) ≡ true
    → is_on row.parent (line rows u) ≡ true

passes_above : (rows : List Scope) → AreOrdered rows → (t s : ℕ) (row r : Scope)
    → PassesBelow rows t s row → (b : Bool) → is_root r.kind ≡ b → slice_get rows t ≡ Some r
    → is_on s (cond b [] (line rows r.parent)) ≡ true
    → is_on row.parent (cond b [] (line rows r.parent)) ≡ true
passes_above rows ordered t s row r passes true is at on = absurd (false≢true on)
passes_above rows ordered t s row r passes false is at on = passes r.parent (ordered t r at is) on

pub parent_there : (rows : List Scope) → AreOrdered rows → (s : ℕ) (row : Scope)
    → slice_get rows s ≡ Some row → is_root row.kind ≡ false
    → (up : Scope) × (slice_get rows row.parent ≡ Some up)
parent_there rows ordered s row found below =
    let lower = ordered s row found below in
    let within = slice_get_within rows s row found in
    row_there rows row.parent (omega (arith, lower, within))

passes_at : (rows : List Scope) → AreOrdered rows → (t s : ℕ) (row r : Scope)
    → PassesBelow rows t s row → slice_get rows s ≡ Some row → is_root row.kind ≡ false
    → slice_get rows t ≡ Some r
    → ((t == s) ≡ true) ⊎ (is_on s (above (line rows) [] r) ≡ true)
    → ((t == row.parent) || is_on row.parent (above (line rows) [] r)) ≡ true
passes_at rows ordered t s row r passes found below at (inl same) =
    let e : t ≡ s = eqb-true t s same in
    let is : r ≡ row = same_Some r row (sym at ∙ ap (slice_get rows) e ∙ found) in
    let up = parent_there rows ordered s row found below in
    or_right (t == row.parent) (is_on row.parent (above (line rows) [] r))
    (ap (λ x. is_on row.parent (above (line rows) [] x)) is
    ∙ ap (λ b. is_on row.parent (cond b [] (line rows row.parent))) below
    ∙ line_self rows row.parent up.0 up.1)
passes_at rows ordered t s row r passes found below at (inr later) =
    or_right (t == row.parent) (is_on row.parent (above (line rows) [] r))
    (passes_above rows ordered t s row r passes (is_root r.kind) refl at later)

passes_here : (rows : List Scope) → AreOrdered rows → (t s : ℕ) (row : Scope)
    → PassesBelow rows t s row → slice_get rows s ≡ Some row → is_root row.kind ≡ false
    → is_on s (line rows t) ≡ true → (o : Option Scope) → slice_get rows t ≡ o
    → is_on row.parent (line rows t) ≡ true
passes_here rows ordered t s row passes found below on None at =
    absurd (false≢true (subst (λ o. is_on s (upwards (line_within t rows) t o) ≡ true) at on))
passes_here rows ordered t s row passes found below on (Some r) at =
    let up = line_up rows t r ordered at in
    ap (is_on row.parent) up
    ∙ passes_at rows ordered t s row r passes found below at
    (or_cases (t == s) (is_on s (above (line rows) [] r)) (sym (ap (is_on s) up) ∙ on))

passes_below : (rows : List Scope) → AreOrdered rows → (t s : ℕ) (row : Scope)
    → slice_get rows s ≡ Some row → is_root row.kind ≡ false → PassesBelow rows t s row
passes_below rows ordered zero s row found below u less on = absurd (omega (arith, less))
passes_below rows ordered (suc t) s row found below u less on =
    let lower : PassesBelow rows u s row =
    λ v lesser. passes_below rows ordered t s row found below v (omega (arith, less, lesser)) in
    passes_here rows ordered u s row lower found below on (slice_get rows u) refl

-- If a scope is on a line, its parent is on it, too.
pub line_passes : (rows : List Scope) → AreOrdered rows → (t s : ℕ) (row : Scope)
    → slice_get rows s ≡ Some row → is_root row.kind ≡ false → is_on s (line rows t) ≡ true
    → is_on row.parent (line rows t) ≡ true
line_passes rows ordered t s row found below on =
    passes_below rows ordered (suc t) s row found below t (omega arith) on

-- ---- scopes

-- A needed scope is kept.
pub needed_kept : (p : State) (s : ℕ) (row : Scope) → HasRow p.tree.scopes s row
    → is_needed p s ≡ true → keeps_scope p s ≡ true
needed_kept p s row found is =
    any_passes_from_place (λ t. is_needed p t && is_on s (line p.tree.scopes t))
    (scope_numbers p.tree) s s
    (number_get (length p.tree.scopes) s (slice_get_within p.tree.scopes s row found))
    (and_from (is_needed p s) (is_on s (line p.tree.scopes s)) is
    (line_self p.tree.scopes s row found))

-- A scope that isn't done is kept.
pub live_kept : (p : State) (s : ℕ) (row : Scope) → HasRow p.tree.scopes s row
    → is_done p.tree.scopes s ≡ false → keeps_scope p s ≡ true
live_kept p s row found is =
    needed_kept p s row found
    (or_left (not (is_done p.tree.scopes s)) (hosts_unwaited p.work s) (ap not is))

-- The parent of a kept scope is kept.
pub parent_kept : (p : State) (s : ℕ) (row : Scope) → AreOrdered p.tree.scopes
    → HasRow p.tree.scopes s row → is_root row.kind ≡ false → keeps_scope p s ≡ true
    → keeps_scope p row.parent ≡ true
parent_kept p s row ordered found below is =
    let by = found_any (λ t. is_needed p t && is_on s (line p.tree.scopes t))
    (scope_numbers p.tree) is in
    let parts = and_parts (is_needed p by.1) (is_on s (line p.tree.scopes by.1)) by.3 in
    any_passes_from_place (λ t. is_needed p t && is_on row.parent (line p.tree.scopes t))
    (scope_numbers p.tree) by.0 by.1 by.2
    (and_from (is_needed p by.1) (is_on row.parent (line p.tree.scopes by.1)) parts.0
    (line_passes p.tree.scopes ordered by.1 s row found below parts.1))

-- Root is kept.
pub root_kept : (p : State) → slice_get p.tree.scopes 0 ≡ Some root → keeps_scope p 0 ≡ true
root_kept p rooted =
    live_kept p 0 root rooted
    (ap (λ o. is_some (option_map (λ a. a.1) (least_hit (filter_map hit_at (before_detached
    (upwards (line_within 0 p.tree.scopes) 0 o)))))) rooted)

-- ---- groups

-- A group that wasn't waited for is kept.
pub unwaited_kept : (p : State) (g : ℕ) (row : Group) → HasRow p.work.groups g row
    → row.waited ≡ false → keeps_group p g ≡ true
unwaited_kept p g row found is =
    ap (λ o. option_map_or
    (λ group. not group.waited || not group.bare && keeps_scope p group.scope) o false) found
    ∙ or_left (not row.waited) (not row.bare && keeps_scope p row.scope) (ap not is)

-- A group is kept with its own scope.
pub owner_kept : (p : State) (g : ℕ) (row : Group) → HasRow p.work.groups g row → row.bare ≡ false
    → keeps_scope p row.scope ≡ true → keeps_group p g ≡ true
owner_kept p g row found own is =
    ap (λ o. option_map_or
    (λ group. not group.waited || not group.bare && keeps_scope p group.scope) o false) found
    ∙ or_right (not row.waited) (not row.bare && keeps_scope p row.scope)
    (and_from (not row.bare) (keeps_scope p row.scope) (ap not own) is)

-- The scope of a kept group is kept.
pub scope_kept : (p : State) (g : ℕ) (row : Group) → HasRow p.work.groups g row
    → row.scope < length p.tree.scopes → keeps_group p g ≡ true → keeps_scope p row.scope ≡ true
scope_kept p g row found within is =
    by_cause (or_cases (not row.waited) (not row.bare && keeps_scope p row.scope)
    (sym (ap (λ o. option_map_or
    (λ group. not group.waited || not group.bare && keeps_scope p group.scope) o false) found)
    ∙ is))
  where
    by_cause : (not row.waited ≡ true) ⊎ ((not row.bare && keeps_scope p row.scope) ≡ true)
        → keeps_scope p row.scope ≡ true
    by_cause (inl unwaited) =
        let scope = row_there p.tree.scopes row.scope within in
        needed_kept p row.scope scope.0 scope.1
        (or_right (not (is_done p.tree.scopes row.scope)) (hosts_unwaited p.work row.scope)
        (any_passes_from_place (λ group. not group.waited && group.scope == row.scope)
        p.work.groups g row
        found
        (and_from (not row.waited) (row.scope == row.scope) unwaited
        (eq-eqb row.scope row.scope refl))))
    by_cause (inr own) = (and_parts (not row.bare) (keeps_scope p row.scope) own).1

-- ---- tasks

-- A task is kept exactly if its group is.
pub task_is_kept : (p : State) (n : ℕ) (row : Task) → HasRow p.work.tasks n row
    → keeps_task p n ≡ keeps_group p row.group
task_is_kept p n row found =
    ap (λ o. option_map_or (λ task. keeps_group p task.group) o false) found
