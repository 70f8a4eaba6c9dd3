use Rattle.run_model.proofs.Common.{Bool, List, drop, sym, ap, subst, ◌∙◌}
use Rattle.run_model.proofs.Common.{slice_set}
use Rattle.task_group.specs.Trees.{IsTree}
use Rattle.task_group.proofs.Trees.{leaf_count, tree_written}
use Rattle.task_group.proofs.queue.Queue.set.Goals as goal

pub set_leaf-requires-clause-tree : goal.set_leaf-requires-clause-tree
set_leaf-requires-clause-tree g c =
    subst (IsTree c.self.inside.leaves) (sym c.deref_mut.ensures.value) c.self.invariant.0

pub set_leaf-requires-clause-known : goal.set_leaf-requires-clause-known
set_leaf-requires-clause-known g c =
    let s = c.self.inside in
    let known = rw (← c.self.view_is) at c.requires in
    rw (leaf_count s.leaves s.nodes.items c.self.invariant.0) at known

pub invariant_of-self : goal.invariant_of-self
invariant_of-self g c =
    let s = c.self.inside in (
      subst (IsTree s.leaves)
          (sym (tree_written s.leaves s.nodes.len s.nodes.items c.set_leaf.new.nodes
          s.nodes.ok.0 c.self.invariant.0 c.set_leaf.ensures.tree))
          c.set_leaf.ensures.tree,
      c.self.invariant.1,
    )

pub returns : goal.returns
returns g c =
    let s = c.self.inside in
    ap (drop s.leaves)
    (tree_written s.leaves s.nodes.len s.nodes.items c.set_leaf.new.nodes s.nodes.ok.0
    c.self.invariant.0 c.set_leaf.ensures.tree)
    ∙ c.set_leaf.ensures.leaf
    ∙ ap (λ (l : List Bool). slice_set (drop s.leaves l) c.args.n c.args.wanted)
    c.deref_mut.ensures.value
    ∙ ap (λ (l : List Bool). slice_set l c.args.n c.args.wanted) c.self.view_is
