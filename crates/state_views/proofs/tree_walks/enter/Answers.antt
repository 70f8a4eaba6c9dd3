use Rattle.std.proofs.Common.{◌<◌, arith}
use Rattle.state_views.proofs.WalkLemmas.{entered_room, enters, enters_top}
use Rattle.state_views.proofs.tree_walks.enter.Goals as goal

pub push-requires : goal.push-requires
push-requires c =
    let some : 0 < c.args.node = omega arith in (
      omega arith,
      entered_room c.args.parents.now c.args.node c.args.above.now.items c.passing.result.now
          c.requires.rising some c.requires.at c.requires.few c.passing.ensures,
    )

pub returns-then-node-ne0 : goal.returns-then-node-ne0
returns-then-node-ne0 c =
    let some : 0 < c.args.node = omega arith in
    enters c.args.parents.now c.args.node c.args.child c.args.above.now.items c.passing.result.now
    c.push.new.out.items c.requires.rising some c.requires.at c.requires.child c.passing.ensures
    c.push.ensures.items

pub returns-else-node-ne0 : goal.returns-else-node-ne0
returns-else-node-ne0 c =
    enters_top c.args.parents.now c.args.node c.args.child c.args.above.now.items
    c.if-node-ne0.false c.requires.at c.requires.child
