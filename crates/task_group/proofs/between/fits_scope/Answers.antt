use Rattle.run_model.proofs.Common.{◌||◌, refl}
use Rattle.run_model.specs.declared.scopes.Scope.{Scope}
use Rattle.row_view.specs.Between.{belongs}
use Rattle.task_group.proofs.RowReads.{test_found, test_missed}
use Rattle.task_group.proofs.between.fits_scope.Goals as goal

pub returns-then-group : goal.returns-then-group
returns-then-group c =
    let group = c.args.group.now in
    test_found (λ (scope : Scope). group.bare || belongs group scope) c.args.scopes.now
    c.args.scopes.now group.scope c.in-Some.scope.now group.bare refl
    c.in-Some.ensures.lookup.0 c.in-Some.ensures.lookup.1 (rw c.if-group.true refl)

pub returns-else-group : goal.returns-else-group
returns-else-group c =
    let group = c.args.group.now in
    test_found (λ (scope : Scope). group.bare || belongs group scope) c.args.scopes.now
    c.args.scopes.now group.scope c.in-Some.scope.now c.belongs.result refl
    c.in-Some.ensures.lookup.0 c.in-Some.ensures.lookup.1
    (rw c.if-group.false c.belongs.ensures)

pub returns-in-None : goal.returns-in-None
returns-in-None c =
    let group = c.args.group.now in
    test_missed (λ (scope : Scope). group.bare || belongs group scope) c.args.scopes.now
    c.args.scopes.now group.scope refl c.in-None.ensures.lookup.0
