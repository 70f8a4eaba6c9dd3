use Rattle.std.proofs.Common.{◌∷◌, ap, sym, ◌∙◌}
use Rattle.state_views.specs.Trees.{children}
use Rattle.state_views.proofs.WalkLemmas.{child_next, empty, found, none_next}
use Rattle.state_views.proofs.tree_walks.next_node.Goals as goal

pub returns-in-Some-clause-next : goal.returns-in-Some-clause-next
returns-in-Some-clause-next c =
    child_next c.args.parents.now c.args.node c.in-Some.child c.requires.rising
    c.requires.at.within
    (found c.args.parents.now c.args.node c.args.node c.in-Some.child c.requires.at.within
    (sym c.first_after.ensures ∙ c.in-Some.is))

pub returns-in-None-clause-next : goal.returns-in-None-clause-next
returns-in-None-clause-next c =
    none_next c.args.parents.now c.args.node c.requires.at.within
    (empty (children c.args.parents.now c.args.node) (sym c.first_after.ensures ∙ c.in-None.is))
    ∙ ap (λ ns. c.args.node ∷ ns) c.next_beside.ensures.next
