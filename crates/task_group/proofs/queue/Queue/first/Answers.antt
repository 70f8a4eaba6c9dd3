use Rattle.run_model.proofs.Common.{ap, subst, sym, ◌∙◌, drop, Some, List, Bool, arith}
use Rattle.task_group.specs.Kept.{IsNext}
use Rattle.task_group.specs.Trees.{IsTree, is_up}
use Rattle.task_group.proofs.Trees.{leaf_count}
use Rattle.task_group.proofs.queue.Queue.first.Goals as goal

pub least-requires : goal.least-requires
least-requires g c =
    subst (IsTree c.self.inside.leaves) (sym c.deref.ensures.value) c.self.invariant.0

pub overflow_cast-result : goal.overflow_cast-result
overflow_cast-result g c = let few = c.in_ok-n.ensures.few in omega (arith, few)

pub returns-clause-least : goal.returns-clause-least
returns-clause-least g c =
    let same = ap (drop c.self.inside.leaves) c.deref.ensures.value ∙ c.self.view_is in
    subst (λ (l : List Bool). IsNext (is_up l) 0 (Some c.in_ok-n.n)) same
    c.in_ok-n.ensures.least

pub returns-clause-known : goal.returns-clause-known
returns-clause-known g c =
    rw (← c.self.view_is)
    (rw (leaf_count c.self.inside.leaves c.self.inside.nodes.items c.self.invariant.0)
    c.in_ok-n.ensures.known)
