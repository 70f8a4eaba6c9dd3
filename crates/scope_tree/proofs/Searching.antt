-- The step of a search upwards.
use Rattle.std.proofs.Common.{◌≡◌, ℕ, false, cond, List, Some, None, slice_get, sym, ap, ◌∙◌}
use Rattle.run_model.specs.declared.scopes.Scope.{Scope}
use Rattle.run_model.specs.Scopes.{is_root, text_under, value_of, AreOrdered}
use Rattle.model_laws.specs.Searches.{above, nearest}
use Rattle.model_laws.proofs.Lines.{value_up}

pub value_above : (rows : List Scope) (s : ℕ) (row : Scope) (key : List ℕ) → AreOrdered rows
    → slice_get rows s ≡ Some row → text_under key row.kind ≡ None → is_root row.kind ≡ false
    → value_of rows row.parent key ≡ value_of rows s key
value_above rows s row key ordered found own below_root =
    sym (value_up key rows s row ordered found
    ∙ ap (λ o. nearest o (above (λ t. value_of rows t key) None row)) own
    ∙ ap (λ b. cond b None (value_of rows row.parent key)) below_root)
