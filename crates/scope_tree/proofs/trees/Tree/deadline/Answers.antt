use Rattle.scope_tree.proofs.trees.Tree.deadline.Goals as goal

pub deadline-requires : goal.deadline-requires
deadline-requires g c = rw (← c.self.view_is) at c.requires

pub returns : goal.returns
returns g c = rw (← c.self.view_is) c.deadline.ensures
