use Rattle.run_model.proofs.Common.{not, true, false, ap, arith, le-ltb, lt-ltb}
use Rattle.scope_tree.proofs.Refusing.{one_reported}
use Rattle.scope_tree.proofs.trees.Tree.check_capacity.Goals as goal

pub returns-then-most_scopes-len : goal.returns-then-most_scopes-len
returns-then-most_scopes-len g c =
    rw (← c.self.view_is)
    (one_reported true _ _ (ap not (le-ltb _ _
    (omega (arith, c.if-most_scopes-len.true, c.most_scopes.ensures.value, c.len.ensures)))))

pub returns : goal.returns
returns g c =
    rw (← c.self.view_is)
    (one_reported false _ _ (ap not (lt-ltb _ _
    (omega (arith, c.if-most_scopes-len.false, c.most_scopes.ensures.value, c.len.ensures)))))
