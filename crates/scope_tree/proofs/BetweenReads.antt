-- The test of both lists of rows returns whether the rules between them hold.
use Rattle.run_model.proofs.Common.{◌≡◌, ◌⊎◌, ℕ, ◌||◌, Bool, true, false, List, Option, Some, None}
use Rattle.run_model.proofs.Common.{slice_get, inl, inr, refl, sym, ap, ◌∙◌, ◌↔◌, IsTrue, IsSome}
use Rattle.run_model.proofs.Common.{is_some, list_any, option_map_or, eqb-true, eq-eqb, false≢true}
use Rattle.run_model.proofs.Common.{same_Some, slice_get_within, bytes_eq-Decides, has_kind, Owns}
use Rattle.run_model.proofs.Common.{is_group_kind, State, row_there, and_from, not_from_false}
use Rattle.run_model.proofs.Common.{any_passes_from_place}
use Rattle.run_model.specs.declared.scopes.Scope.{Scope}
use Rattle.run_model.specs.declared.groups.Group.{Group}
use Rattle.run_model.specs.RuleParts.{AreWorkRules, AreCrossRules}
use Rattle.row_view.proofs.Codecs.{first_true, second_true}
use Rattle.row_view.specs.Between.{belongs, fits_scope, lives_in, has_group, fits_between}
use Rattle.row_view.proofs.Checked.{all_pass, pass_all}
use Rattle.row_view.proofs.Linked.{or_right, or_from, not_so, some_at}
use Rattle.model_laws.proofs.RightHits.{own_hit_of}

-- ---- one group and its scope

-- What the test of a group asks: its scope exists, and belongs to it unless it is bare.
record HasScopeRow (scopes : List Scope) (group : Group) : Type 0 where
  pub scope : Scope
  pub found : slice_get scopes group.scope ≡ Some scope
  pub own : group.bare ≡ false → belongs group scope ≡ true

or_left : (a b : Bool) → (a || b) ≡ true → a ≡ false → b ≡ true
or_left true b ok not_a = absurd (false≢true (sym not_a))
or_left false b ok not_a = ok

scope_row_of : (scopes : List Scope) (group : Group) → fits_scope scopes group ≡ true
    → HasScopeRow scopes group
scope_row_of scopes group ok = by_row (slice_get scopes group.scope) refl ok
  where
    by_row : (found : Option Scope) → slice_get scopes group.scope ≡ found
        → option_map_or (λ scope. group.bare || belongs group scope) found false ≡ true
        → HasScopeRow scopes group
    by_row None at ok = absurd (false≢true ok)
    by_row (Some scope) at ok = record {
      scope = scope;
      found = at;
      own = λ not_bare. or_left group.bare (belongs group scope) ok not_bare;
    }

-- The test by its facts.
scope_fits : (scopes : List Scope) (group : Group) (scope : Scope)
    → slice_get scopes group.scope ≡ Some scope
    → (group.bare ≡ false → belongs group scope ≡ true) → fits_scope scopes group ≡ true
scope_fits scopes group scope found own =
    ap (λ o. option_map_or (λ scope. group.bare || belongs group scope) o false) found
    ∙ by_bare group.bare own
  where
    by_bare : (b : Bool) → (b ≡ false → belongs group scope ≡ true)
        → (b || belongs group scope) ≡ true
    by_bare true own = refl
    by_bare false own = own refl

lives : (s : ℕ) (group : Group) → group.bare ≡ false → group.scope ≡ s
    → lives_in s group ≡ true
lives s group not_bare same =
    and_from _ _ (not_from_false group.bare not_bare) (eq-eqb group.scope s same)

-- The group has an error or was waited for.
ended : (group : Group) → IsSome group.error ⊎ (group.waited ≡ true)
    → (is_some group.error || group.waited) ≡ true
ended group (inl error) = ap (λ b. b || group.waited) error
ended group (inr waited) = by_error (is_some group.error)
  where
    by_error : (b : Bool) → (b || group.waited) ≡ true
    by_error true = refl
    by_error false = waited

has_ended : (group : Group) → (is_some group.error || group.waited) ≡ true
    → IsSome group.error ⊎ (group.waited ≡ true)
has_ended group ok = by_error (is_some group.error) refl ok
  where
    by_error : (b : Bool) → is_some group.error ≡ b → (b || group.waited) ≡ true
        → IsSome group.error ⊎ (group.waited ≡ true)
    by_error true is ok = inl is
    by_error false is ok = inr ok

-- ---- from the test to the rules

module _ (p : State) (work : AreWorkRules p.work)
    (ok : IsTrue (fits_between p.tree.scopes p.work.groups)) where
  scope_of_group : (g : ℕ) (group : Group) → slice_get p.work.groups g ≡ Some group
      → HasScopeRow p.tree.scopes group
  scope_of_group g group found =
      scope_row_of p.tree.scopes group
      (all_pass (λ g group. fits_scope p.tree.scopes group) p.work.groups (first_true _ _ ok) g
      group found)

  -- The scope of a group that isn't bare.
  owned_scope : (g s : ℕ) (group : Group) → Owns p.work g group s
      → (scope : Scope) × (slice_get p.tree.scopes s ≡ Some scope)
      × (belongs group scope ≡ true)
  owned_scope g s group owns =
      let it = scope_of_group g group owns.found in
      (it.scope, ap (slice_get p.tree.scopes) (sym owns.scope) ∙ it.found, it.own owns.not_bare)

  same_name : (group : Group) (scope : Scope) → belongs group scope ≡ true
      → group.name ≡ scope.name
  same_name group scope fits =
      (bytes_eq-Decides group.name scope.name).0 (second_true _ _ (first_true _ _ fits))

  owned_by : (s : ℕ) (row : Scope) → slice_get p.tree.scopes s ≡ Some row
      → is_group_kind row.kind ≡ true
      → (g : ℕ) × (group : Group) × Owns p.work g group s × (group.name ≡ row.name)
  owned_by s row found kind =
      let passed = all_pass (has_group p.work.groups) p.tree.scopes (second_true _ _ ok) s row found
      in
      let it = some_at (lives_in s) p.work.groups
      (or_right (is_group_kind row.kind) (list_any (lives_in s) p.work.groups) passed kind) in
      let owns : Owns p.work it.0 it.1 s = record {
        found = it.2;
        not_bare = not_so it.1.bare (first_true _ _ it.3);
        scope = eqb-true it.1.scope s (second_true _ _ it.3);
      } in
      let there = owned_scope it.0 s it.1 owns in
      let same : there.0 ≡ row = same_Some there.0 row (sym there.1 ∙ found) in
      (it.0, it.1, owns, same_name it.1 there.0 there.2 ∙ ap (λ r. r.name) same)

  owned_once : (s g h : ℕ) (a b : Group) → Owns p.work g a s → Owns p.work h b s → g ≡ h
  owned_once s g h a b first second =
      let x = owned_scope g s a first in
      let y = owned_scope h s b second in
      let same : x.0 ≡ y.0 = same_Some x.0 y.0 (sym x.1 ∙ y.1) in
      work.names g h a b first.found second.found
      (same_name a x.0 x.2 ∙ ap (λ r. r.name) same ∙ sym (same_name b y.0 y.2))

  owned_kind : (g s : ℕ) (group : Group) → Owns p.work g group s
      → IsTrue (has_kind is_group_kind p.tree s)
  owned_kind g s group owns =
      let it = owned_scope g s group owns in
      ap (λ o. option_map_or (λ row. is_group_kind row.kind) o false) it.1
      ∙ first_true _ _ (first_true _ _ it.2)

  pub between_from : AreCrossRules p
  between_from = record {
    known = λ g group found.
        let it = scope_of_group g group found in
        slice_get_within p.tree.scopes group.scope it.scope it.found;
    owned = record { owned = owned_by; once = owned_once; own = owned_kind };
    ended = λ g s group owns end.
        let it = owned_scope g s group owns in
        ap is_some (own_hit_of p.tree.scopes s it.0 it.1)
        ∙ or_right (is_some group.error || group.waited) (is_some it.0.hit)
        (second_true _ _ it.2) (ended group end);
  }

-- ---- from the rules to the test

module _ (p : State) (rules : AreCrossRules p) where
  belongs_to : (g : ℕ) (group : Group) (scope : Scope) → slice_get p.work.groups g ≡ Some group
      → slice_get p.tree.scopes group.scope ≡ Some scope → group.bare ≡ false
      → belongs group scope ≡ true
  belongs_to g group scope found at not_bare =
      let owns : Owns p.work g group group.scope =
      record { found = found; not_bare = not_bare; scope = refl } in
      let kind : is_group_kind scope.kind ≡ true =
      ap (λ o. option_map_or (λ row. is_group_kind row.kind) o false) (sym at)
      ∙ rules.owned.own g group.scope group owns in
      let it = rules.owned.owned group.scope scope at kind in
      let place : it.0 ≡ g = rules.owned.once group.scope it.0 g it.1 group it.2 owns in
      let same : it.1 ≡ group = same_Some it.1 group
      (sym it.2.found ∙ ap (slice_get p.work.groups) place ∙ found) in
      and_from _ _
      (and_from _ _ kind
      ((bytes_eq-Decides group.name scope.name).1 (ap (λ r. r.name) (sym same) ∙ it.3)))
      (or_from (is_some group.error || group.waited) (is_some scope.hit)
      (λ end. ap is_some (sym (own_hit_of p.tree.scopes group.scope scope at))
      ∙ rules.ended g group.scope group owns (has_ended group end)))

  pub between_test : IsTrue (fits_between p.tree.scopes p.work.groups)
  between_test =
      and_from _ _
      (pass_all (λ g group. fits_scope p.tree.scopes group) p.work.groups
      (λ g group found.
      let there = row_there p.tree.scopes group.scope (rules.known g group found) in
      scope_fits p.tree.scopes group there.0 there.1
      (λ not_bare. belongs_to g group there.0 found there.1 not_bare)))
      (pass_all (has_group p.work.groups) p.tree.scopes
      (λ s row found.
      or_from (is_group_kind row.kind) (list_any (lives_in s) p.work.groups)
      (λ kind.
      let it = rules.owned.owned s row found kind in
      any_passes_from_place (lives_in s) p.work.groups it.0 it.1 it.2.found
      (lives s it.1 it.2.not_bare it.2.scope))))

pub between_tested : (p : State) → AreWorkRules p.work
    → IsTrue (fits_between p.tree.scopes p.work.groups) ↔ AreCrossRules p
between_tested p work = (λ ok. between_from p work ok, λ rules. between_test p rules)
