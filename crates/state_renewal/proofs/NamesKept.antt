-- The names and places that are taken are those of the kept rows.
use Rattle.run_model.proofs.Common.{◌≡◌, ◌≢◌, ℕ, List, Option, Some, None, slice_get, refl, sym}
use Rattle.run_model.proofs.Common.{ap, ◌∙◌, position, bytes_eq, length-map, IsConsistent, State}
use Rattle.model_laws.proofs.Names.{named_row, place_of_name}
use Rattle.state_renewal.specs.Kept.{AreNamesKept, IsRoomKept}
use Rattle.state_renewal.specs.Renewed.{new_number, keeps_scope, keeps_group, keeps_task, kept}
use Rattle.state_renewal.specs.Renewed.{scope_renewed, group_renewed, task_renewed, renewed}
use Rattle.state_renewal.proofs.Numbers.{length-kept}
use Rattle.state_renewal.proofs.RulesKept.{scope_from, group_from, scope_stays, rules_kept}
use Rattle.state_renewal.proofs.Works.{group_stays}

-- If each row has another name, none is found.
none_of : {X : Type 0} (name : X → List ℕ) (rows : List X) (wanted : List ℕ)
    → ((j : ℕ) (row : X) → slice_get rows j ≡ Some row → name row ≢ wanted)
    → position (λ r. bytes_eq wanted (name r)) rows ≡ None
none_of name rows wanted other = by_place (position (λ r. bytes_eq wanted (name r)) rows) refl
  where
    by_place : (o : Option ℕ) → position (λ r. bytes_eq wanted (name r)) rows ≡ o → o ≡ None
    by_place None at = refl
    by_place (Some j) at =
        let row = named_row name rows wanted j at in absurd (other j row.0 row.1 row.2)

pub names_kept : (p : State) → IsConsistent p → AreNamesKept p
names_kept p consistent = record {
  scopes =
      λ s row found is.
      place_of_name (λ r. r.name) (renewed p).tree.scopes (new_number (keeps_scope p) s)
      (scope_renewed p row) rules.numbered.scope_names (scope_stays p s row found is);
  groups =
      λ g row found is.
      place_of_name (λ r. r.name) (renewed p).work.groups (new_number (keeps_group p) g)
      (group_renewed p row) rules.numbered.group_names (group_stays p g row found is);
  other_scopes =
      λ name other.
      none_of (λ r. r.name) (renewed p).tree.scopes name
      (λ m row found same.
      let of = scope_from p m row found in
      other of.n of.old of.found of.is_kept (ap (λ r. r.name) (sym of.restated) ∙ same));
  other_groups =
      λ name other.
      none_of (λ r. r.name) (renewed p).work.groups name
      (λ m row found same.
      let of = group_from p m row found in
      other of.n of.old of.found of.is_kept (ap (λ r. r.name) (sym of.restated) ∙ same));
}
  where
    rules : IsConsistent (renewed p)
    rules = rules_kept p consistent

pub room_kept : (p : State) → IsRoomKept p
room_kept p = record {
  scopes =
      length-map (kept (keeps_scope p) p.tree.scopes) (scope_renewed p)
      ∙ length-kept (keeps_scope p) p.tree.scopes;
  groups =
      length-map (kept (keeps_group p) p.work.groups) (group_renewed p)
      ∙ length-kept (keeps_group p) p.work.groups;
  tasks =
      length-map (kept (keeps_task p) p.work.tasks) (task_renewed p)
      ∙ length-kept (keeps_task p) p.work.tasks;
}
