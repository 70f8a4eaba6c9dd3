use Rattle.std.proofs.Common.{refl}
use Rattle.state_views.proofs.Adding.{adds_line}
use Rattle.state_views.proofs.Drawing.{node_added, root_added}
use Rattle.state_views.proofs.trees.add_node.Goals as goal

pub returns-then-node-eq0 : goal.returns-then-node-eq0
returns-then-node-eq0 g c =
    root_added c.args.no_tasks c.args.state.now c.args.node c.if-node-eq0.true
    (adds_line c.make_room.ensures.none refl c.append_own.ensures)

pub returns : goal.returns
returns g c =
    node_added c.args.no_tasks c.args.state.now c.args.parents.now c.args.node
    c.requires.parents c.if-node-eq0.false c.requires.at c.mark.ensures
    c.add.ensures c.add-2.ensures
    (adds_line c.make_room-2.ensures.none refl c.append_own-2.ensures)
