use Rattle.run_model.proofs.Common.{◌≡◌, ◌+◌, ◌*◌, ◌∙◌, drop, false, sym, ap, subst, arith}
use Rattle.run_model.proofs.Common.{replicate, most_tasks}
use Rattle.task_group.specs.Trees.{IsTree}
use Rattle.task_group.proofs.Trees.{new_flags, new_tree}
use Rattle.task_group.proofs.queue.Queue.new.Goals as goal
use Rattle.task_group.proofs.queue.Queue.new.Given.{Over}

-- Every flag is down.
all_down : (g : Over) (c : goal.In_ok-nodes g)
    → c.in_ok-nodes.nodes.items
    ≡ replicate (most_tasks c.args.layout + most_tasks c.args.layout) false
all_down g c =
    let twice : 2 * c.most_tasks-leaves.result
    ≡ most_tasks c.args.layout + most_tasks c.args.layout =
    omega (arith, c.most_tasks-leaves.ensures.value) in
    c.in_ok-nodes.ensures.down ∙ ap (λ n. replicate n false) twice

pub invariant_of-result : goal.invariant_of-result
invariant_of-result g c = (
  subst (λ n. IsTree n c.in_ok-nodes.nodes.items) (sym c.most_tasks-leaves.ensures.value)
      (subst (IsTree (most_tasks c.args.layout)) (sym (all_down g c)) (new_tree c.args.layout)),
  omega (arith, c.in_ok-nodes.ensures.room),
)

pub returns : goal.returns
returns g c =
    ap (λ n. drop n c.in_ok-nodes.nodes.items) c.most_tasks-leaves.ensures.value
    ∙ ap (drop (most_tasks c.args.layout)) (all_down g c)
    ∙ new_flags (most_tasks c.args.layout)
