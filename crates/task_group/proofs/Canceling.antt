-- The scope that is returned when a task ends in its group's first error.
use Rattle.run_model.proofs.Common.{◌≡◌, ℕ, Bool, true, false, cond, not, ◌&&◌, List, Option, Some}
use Rattle.run_model.proofs.Common.{None, slice_get, refl, sym, ap, ◌∙◌, is_none, option_and_then}
use Rattle.run_model.proofs.Common.{own_scope, WorkState}
use Rattle.std.specs.Bool.{then_some}
use Rattle.run_model.specs.declared.groups.Group.{Group}
use Rattle.task_group.proofs.Words.{brings_first_error, cancels_by_end, group_of}

abbrev scope_of_row : Option Group → Option ℕ
scope_of_row o = option_and_then (λ group. cond group.bare None (Some group.scope)) o

-- The scope that a wait returns.
pub cancels_alone : (w : WorkState) (g : ℕ) (row : Group) → slice_get w.groups g ≡ Some row
    → then_some (not row.bare) row.scope ≡ own_scope w g
cancels_alone w g row found = by row.bare ∙ sym (ap scope_of_row found)
  where
    by : (b : Bool) → then_some (not b) row.scope ≡ cond b None (Some row.scope)
    by true = refl
    by false = refl

by_bare : (bare no_error : Bool) (scope : ℕ) (own : Option ℕ)
    → own ≡ cond bare None (Some scope)
    → then_some (not bare && no_error) scope ≡ cond (not bare && no_error) own None
by_bare true no_error scope own is = refl
by_bare false true scope own is = sym is
by_bare false false scope own is = refl

cancels_row : (error : Option (List ℕ)) (row : Group) (own : Option ℕ)
    → own ≡ cond row.bare None (Some row.scope)
    → then_some (brings_first_error error (Some row)) row.scope ≡ cond
    (brings_first_error error (Some row)) own None
cancels_row None row own is = refl
cancels_row (Some text) row own is = by_bare row.bare (is_none row.error) row.scope own is

pub cancels_scope : (w : WorkState) (n : ℕ) (error : Option (List ℕ)) (g : ℕ) (row : Group)
    → group_of w n ≡ g → slice_get w.groups g ≡ Some row
    → then_some (brings_first_error error (slice_get w.groups g)) row.scope
    ≡ cancels_by_end n error w
cancels_scope w n error g row at found =
    let there : slice_get w.groups (group_of w n) ≡ Some row =
    ap (slice_get w.groups) at ∙ found in
    ap (λ o. then_some (brings_first_error error o) row.scope) found
    ∙ cancels_row error row (own_scope w (group_of w n)) (ap scope_of_row there)
    ∙ ap (λ o. cond (brings_first_error error o) (own_scope w (group_of w n)) None) (sym there)
