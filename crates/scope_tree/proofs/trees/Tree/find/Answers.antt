use Rattle.scope_tree.proofs.trees.Tree.find.Goals as goal

pub returns : goal.returns
returns g c = rw (← c.self.view_is) c.find.ensures
