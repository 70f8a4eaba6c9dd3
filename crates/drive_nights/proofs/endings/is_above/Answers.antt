use Rattle.std.proofs.Common.{ap, sym, Some, slice_get, List, ◌∙◌, ◌≡◌}
use Rattle.run_model.specs.declared.scopes.Scope.{Scope}
use Rattle.run_model.proofs.Common.{ltb-true}
use Rattle.night_plan.proofs.Rows.{read}
use Rattle.drive_nights.proofs.Leaving.{line_goes_up}
use Rattle.drive_nights.proofs.endings.is_above.Goals as goal

pub loop-most-preserved : goal.loop-most-preserved
loop-most-preserved g c =
    let rows = c.scopes.result.now in
    let row = c.in-Some.row.now in
    let there : slice_get rows c.loop-most.at ≡ Some row =
    read rows c.loop-most.at row (ltb-true _ _ (sym c.in-Some.ensures.lookup.0))
    c.in-Some.ensures.lookup.1 in
    line_goes_up c.args.state.now.tree.scopes c.loop-most.most c.loop-most.at c.args.top row _
    c.loop-most-test.true
    (ap (λ (all : List Scope). slice_get all c.loop-most.at) (sym c.scopes.ensures) ∙ there)
    c.if-at-top.false (sym c.is_root.ensures ∙ c.if-is_root.false) c.loop-most.invariant
