use Rattle.run_model.proofs.Common.{length, sym, ap, ◌∙◌, arith, option_map, slice_get}
use Rattle.run_model.proofs.Common.{slice_get-get_or}
use Rattle.run_model.specs.declared.scopes.Scope.{Scope}
use Rattle.scope_tree.proofs.trees.Tree.name.Goals as goal

pub returns : goal.returns
returns g c =
    let known = rw (← c.self.view_is) at c.requires in
    rw (← c.self.view_is)
    (ap (λ rows. option_map (λ (row : Scope). row.name) (slice_get rows c.args.s))
    (sym c.as_slice.ensures)
    ∙ ap (option_map (λ (row : Scope). row.name))
    (slice_get-get_or c.as_slice.result.now c.args.s c.index-as_slice-s.result
    (omega (arith, known, ap length c.as_slice.ensures))))
