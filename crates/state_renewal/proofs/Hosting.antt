-- Flags of the scopes of groups, group by group.
use Rattle.run_model.proofs.Common.{◌≡◌, ◌⊎◌, ◌<◌, ◌+◌, ◌==◌, ◌&&◌, ◌||◌, ℕ, Bool, true, false}
use Rattle.run_model.proofs.Common.{not, List, length, take, Some, slice_get, inl, inr, refl, sym}
use Rattle.run_model.proofs.Common.{ap, ◌∙◌, arith, list_any, slice_set, cases_eq, eq-eqb, ne_eqb}
use Rattle.run_model.proofs.Common.{get_or-set_same, get_or-set_other, length-set}
use Rattle.run_model.proofs.Common.{get_or_from_slice_get, slice_get_within, or-false, or-true}
use Rattle.std.proofs.lemmas.List.Folds.{list_any_more}
use Rattle.run_model.specs.declared.groups.Group.{Group}
use Rattle.state_renewal.specs.Marks.{is_flagged}

-- The group wasn't waited for, and this is its scope.
abbrev pub lives_in : ℕ → Group → Bool
lives_in s group = not group.waited && group.scope == s

-- The flagged scopes are those that were flagged, and those of the first k groups.
pub record AreHosts (groups : List Group) (before : List Bool) (k : ℕ) (flags : List Bool)
    : Type 0 where
  pub size : length flags ≡ length before
  pub say : (s : ℕ)
      → is_flagged flags s ≡ (is_flagged before s || list_any (lives_in s) (take k groups))

-- Some group up to the next one passes the test if that one does, or one before it.
one_more : (groups : List Group) (k s : ℕ) (row : Group) (b : Bool)
    → slice_get groups k ≡ Some row → lives_in s row ≡ b
    → list_any (lives_in s) (take (k + 1) groups)
    ≡ (list_any (lives_in s) (take k groups) || b)
one_more groups k s row b found is =
    list_any_more (lives_in s) groups k row (slice_get_within groups k row found)
    ∙ ap (λ r. list_any (lives_in s) (take k groups) || lives_in s r)
    (get_or_from_slice_get groups k row row found)
    ∙ ap (λ c. list_any (lives_in s) (take k groups) || c) is

-- A group that doesn't live in a scope doesn't flag it.
not_there : (groups : List Group) (before : List Bool) (k s : ℕ) (row : Group)
    → slice_get groups k ≡ Some row → lives_in s row ≡ false
    → (is_flagged before s || list_any (lives_in s) (take k groups))
    ≡ (is_flagged before s || list_any (lives_in s) (take (k + 1) groups))
not_there groups before k s row found is =
    ap (λ c. is_flagged before s || c)
    (sym (one_more groups k s row false found is
    ∙ or-false (list_any (lives_in s) (take k groups))))

waited_none : (w b : Bool) → w ≡ true → (not w && b) ≡ false
waited_none true b is = refl
waited_none false b is = absurd cc

other_none : (w b : Bool) → b ≡ false → (not w && b) ≡ false
other_none true b is = refl
other_none false b is = is

lives_here : (w b : Bool) → w ≡ false → b ≡ true → (not w && b) ≡ true
lives_here true b is here = absurd cc
lives_here false b is here = here

-- A group that was waited for flags no scope.
pub hosts_same : (groups : List Group) (before : List Bool) (k : ℕ) (flags : List Bool)
    (row : Group) → AreHosts groups before k flags → slice_get groups k ≡ Some row
    → row.waited ≡ true → AreHosts groups before (k + 1) flags
hosts_same groups before k flags row so found is = record {
  size = so.size;
  say = λ s.
      so.say s
      ∙ not_there groups before k s row found (waited_none row.waited (row.scope == s) is);
}

-- Every other group flags its scope.
pub hosts_more : (groups : List Group) (before : List Bool) (k : ℕ) (flags : List Bool)
    (row : Group) → AreHosts groups before k flags → slice_get groups k ≡ Some row
    → row.waited ≡ false → row.scope < length before
    → AreHosts groups before (k + 1) (slice_set flags row.scope true)
hosts_more groups before k flags row so found is known = record {
  size = length-set flags row.scope true ∙ so.size;
  say = λ s. by_scope s (cases_eq s row.scope);
}
  where
    by_scope : (s : ℕ) → (s ≡ row.scope) ⊎ (s ≡ row.scope → ⊥)
        → is_flagged (slice_set flags row.scope true) s
        ≡ (is_flagged before s || list_any (lives_in s) (take (k + 1) groups))
    by_scope s (inl same) =
        let size = so.size in
        ap (is_flagged (slice_set flags row.scope true)) same
        ∙ get_or-set_same flags row.scope true false (omega (arith, known, size))
        ∙ sym (or-true (is_flagged before s))
        ∙ ap (λ c. is_flagged before s || c)
        (sym (one_more groups k s row true found
        (lives_here row.waited (row.scope == s) is (eq-eqb row.scope s (sym same)))
        ∙ or-true (list_any (lives_in s) (take k groups))))
    by_scope s (inr apart) =
        get_or-set_other flags row.scope s true false apart
        ∙ so.say s
        ∙ not_there groups before k s row found
        (other_none row.waited (row.scope == s)
        (ne_eqb row.scope s (λ same. apart (sym same))))
