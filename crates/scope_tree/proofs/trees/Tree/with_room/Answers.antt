use Rattle.run_model.proofs.Common.{◌≡◌, ◌∷◌, length, [], true, is_none, refl, sym, subst, ap}
use Rattle.run_model.proofs.Common.{◌∙◌, arith, bytes_eq, is_root, false≢true, root}
use Rattle.std.specs.List.{position}
use Rattle.run_model.specs.declared.scopes.Scope.{Scope}
use Rattle.scope_tree.specs.IndexedRows.{Numbered}
use Rattle.scope_tree.proofs.Rooting.{root_pushed, root_sound, one_fits}
use Rattle.scope_tree.proofs.Sounding.{tree_of, sound_fields, rows_are, capacity_is}
use Rattle.scope_tree.proofs.trees.Tree.with_room.Goals as goal

pub push-requires-clause-room : goal.push-requires-clause-room
push-requires-clause-room g c =
    omega (
      arith,
      ap (λ (r : Numbered). length r.rows) c.in-Ok.ensures,
      ap (λ (r : Numbered). r.capacity) c.in-Ok.ensures,
      c.most_scopes-capacity.ensures.value,
      one_fits c.args.layout,
    )

pub push-requires-clause-free : goal.push-requires-clause-free
push-requires-clause-free g c =
    subst (λ (r : Numbered). is_none (position (λ r. bytes_eq c.new-root.result.name r.name) r.rows)
    ≡ true)
    (sym c.in-Ok.ensures) refl

pub push-requires-clause-parent : goal.push-requires-clause-parent
push-requires-clause-parent g c below =
    absurd (false≢true (sym below ∙ ap (λ (r : Scope). is_root r.kind) c.new-root.ensures))

pub invariant_of-result : goal.invariant_of-result
invariant_of-result g c =
    let rows = root_pushed _ _ _ _ (rows_are _ _ c.push.ensures)
    (ap (λ (r : Numbered). r.rows) c.in-Ok.ensures) c.new-root.ensures c.name_copy.ensures in
    sound_fields (tree_of c.args.layout c.moment_of.result (root ∷ [])) _ _ rows
    (root_sound c.args.layout c.moment_of.result)
    (capacity_is _ _ c.push.ensures ∙ ap (λ (r : Numbered). r.capacity) c.in-Ok.ensures
    ∙ c.most_scopes-capacity.ensures.value)
