use Rattle.run_model.proofs.Common.{ℕ, Some, sym, ap, ◌∙◌, slice_get-get_or}
use Rattle.run_model.specs.declared.groups.Group.{Group}
use Rattle.row_view.specs.Between.{fits_scope}
use Rattle.task_group.proofs.Settling.{passes_on, fails_at, passes_end}
use Rattle.task_group.proofs.between.fit_scopes.Goals as goal

pub loop-group-preserved : goal.loop-group-preserved
loop-group-preserved c =
    let groups = c.args.groups.now in
    let group = c.group-item.result in
    passes_on (λ (g : ℕ) (row : Group). fits_scope c.args.scopes.now row) c.loop-group.group-index
    groups group
    (slice_get-get_or groups c.loop-group.group-index group c.loop-group-test.true
    ∙ ap Some (sym c.group-item.is))
    (sym c.fits_scope.ensures ∙ c.if-not-fits_scope.false) ∙ c.loop-group.invariant

pub returns-then-not-fits_scope : goal.returns-then-not-fits_scope
returns-then-not-fits_scope c =
    let groups = c.args.groups.now in
    let group = c.group-item.result in
    sym
    (fails_at (λ (g : ℕ) (row : Group). fits_scope c.args.scopes.now row) c.loop-group.group-index
    groups group
    (slice_get-get_or groups c.loop-group.group-index group c.loop-group-test.true
    ∙ ap Some (sym c.group-item.is))
    (sym c.fits_scope.ensures ∙ c.if-not-fits_scope.true)) ∙ c.loop-group.invariant

pub returns : goal.returns
returns c =
    sym
    (passes_end (λ (g : ℕ) (row : Group). fits_scope c.args.scopes.now row)
    c.loop-group.group-index c.args.groups.now c.loop-group-test.false) ∙ c.loop-group.invariant
