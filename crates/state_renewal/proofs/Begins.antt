-- At the renewal, the part of a state that goes on is the renewed state.
use Rattle.run_model.proofs.Common.{◌≡◌, ◌<◌, ◌≤◌, ℕ, Bool, List, length, map, Option, Some, None}
use Rattle.run_model.proofs.Common.{slice_get, false, true, refl, sym, ap, ◌∙◌, arith, option_map}
use Rattle.run_model.proofs.Common.{slice_get_within, same_Some, root, IsConsistent, HasRow}
use Rattle.run_model.proofs.Common.{is_root, State}
use Rattle.run_model.specs.declared.scopes.Scope.{Scope}
use Rattle.state_renewal.specs.Renewed.{group_renewed, keeps_group, keeps_scope, keeps_task, kept}
use Rattle.state_renewal.specs.Renewed.{
  new_number,
  renewed,
  scope_renewed,
  task_renewed,
  group_renumbered,
}
use Rattle.state_renewal.specs.Renewed.{
  rows_renumbered,
  scope_renumbered,
  state_renumbered,
  task_renumbered,
}
use Rattle.state_renewal.specs.GoingOn.{going_on, goes_on}
use Rattle.state_renewal.proofs.Goes.{goes_before}
use Rattle.state_renewal.proofs.Twice.{same_rows}
use Rattle.state_renewal.proofs.RowsRenumbered.{kept_same, number_agrees, restated_same}

-- A row before the end, or the end, has the number that the renewal gives it.
number_first : (many : ℕ) (keeps : ℕ → Bool) (n : ℕ) → n ≤ many
    → new_number (goes_on many keeps) n ≡ new_number keeps n
number_first many keeps n less =
    number_agrees (goes_on many keeps) keeps n
    (λ k before. goes_before many keeps k (omega (arith, before, less)))

rows_first : {X : Type 0} (keeps : ℕ → Bool) (renumber restated : X → X) (rows : List X)
    → ((n : ℕ) (row : X) → slice_get rows n ≡ Some row → renumber row ≡ restated row)
    → rows_renumbered (goes_on (length rows) keeps) renumber rows ≡ map restated (kept keeps rows)
rows_first keeps renumber restated rows same =
    ap (map renumber)
    (kept_same (goes_on (length rows) keeps) keeps rows (goes_before (length rows) keeps))
    ∙ restated_same keeps renumber restated rows same

parent_within : (p : State) → IsConsistent p → (s : ℕ) (row : Scope) → HasRow p.tree.scopes s row
    → row.parent < length p.tree.scopes
parent_within p consistent s row found = by_root (is_root row.kind) refl
  where
    within : s < length p.tree.scopes
    within = slice_get_within p.tree.scopes s row found

    by_root : (b : Bool) → is_root row.kind ≡ b → row.parent < length p.tree.scopes
    by_root false below =
        let less = consistent.numbered.ordered s row found below in
        omega (arith, less, within)
    by_root true is =
        let first = consistent.numbered.one_root s row found is in
        let same : root ≡ row =
        same_Some root row
        (sym consistent.numbered.rooted ∙ ap (slice_get p.tree.scopes) (sym first) ∙ found) in
        let parent : 0 ≡ row.parent = ap (λ r. r.parent) same in
        omega (arith, parent, first, within)

link_first : (many : ℕ) (keeps : ℕ → Bool) (o : Option ℕ) → ((m : ℕ) → o ≡ Some m → m < many)
    → option_map (new_number (goes_on many keeps)) o ≡ option_map (new_number keeps) o
link_first many keeps None within = refl
link_first many keeps (Some m) within =
    let less = within m refl in
    ap Some (number_first many keeps m (omega (arith, less)))

pub begins : (p : State) → IsConsistent p → state_renumbered (going_on p) p ≡ renewed p
begins p consistent =
    same_rows p (rows_renumbered (going_on p).scopes (scope_renumbered (going_on p)) p.tree.scopes)
    (map (scope_renewed p) (kept (keeps_scope p) p.tree.scopes))
    (rows_renumbered (going_on p).groups (group_renumbered (going_on p)) p.work.groups)
    (map (group_renewed p) (kept (keeps_group p) p.work.groups))
    (rows_renumbered (going_on p).tasks (task_renumbered (going_on p)) p.work.tasks)
    (map (task_renewed p) (kept (keeps_task p) p.work.tasks))
    (rows_first (keeps_scope p) (scope_renumbered (going_on p)) (scope_renewed p) p.tree.scopes
    (λ s row found.
    let less = parent_within p consistent s row found in
    ap (λ n. record row { parent = n })
    (number_first (length p.tree.scopes) (keeps_scope p) row.parent (omega (arith, less)))))
    (rows_first (keeps_group p) (group_renumbered (going_on p)) (group_renewed p) p.work.groups
    (λ g row found.
    let less = consistent.numbered.scopes g row found in
    ap (λ n. record row { scope = n })
    (number_first (length p.tree.scopes) (keeps_scope p) row.scope (omega (arith, less)))))
    (rows_first (keeps_task p) (task_renumbered (going_on p)) (task_renewed p) p.work.tasks
    (λ n row found.
    let less = consistent.numbered.groups n row found in
    ap (λ k. record row {
      group = k;
      retry_of = option_map (new_number (going_on p).tasks) row.retry_of;
    })
    (number_first (length p.work.groups) (keeps_group p) row.group (omega (arith, less)))
    ∙ ap (λ o. record row { group = new_number (keeps_group p) row.group; retry_of = o })
    (link_first (length p.work.tasks) (keeps_task p) row.retry_of
    (λ m link.
    let before = (consistent.links.linked n m row found link).2.before in
    let within = slice_get_within p.work.tasks n row found in
    omega (arith, before, within)))))
