use Rattle.std.proofs.Common.{ap, arith, length}
use Rattle.state_views.proofs.StateTrees.{within_nodes}
use Rattle.state_views.specs.declared.row_kinds.RowKind.TheVariants.{Scopes, Groups}
use Rattle.state_views.proofs.Drawing.{branches_are, grown, parents_are}
use Rattle.state_views.proofs.trees.push_parents.Goals as goal

pub push_rows-requires : goal.push_rows-requires
push_rows-requires g c =
    let nodes = within_nodes c.args.state.now c.count-rules.ensures.rules in
    omega (arith, nodes.few, ap length c.requires)

pub push_rows-requires-2 : goal.push_rows-requires-2
push_rows-requires-2 g c =
    let p = c.args.state.now in
    let nodes = within_nodes p c.count-rules.ensures.rules in
    let one = grown Scopes p _ _ c.push_rows.ensures in
    omega (arith, nodes.few, ap length c.requires, one)

pub push_rows-requires-3 : goal.push_rows-requires-3
push_rows-requires-3 g c =
    let p = c.args.state.now in
    let nodes = within_nodes p c.count-rules.ensures.rules in
    let one = grown Scopes p _ _ c.push_rows.ensures in
    let two = grown Groups p _ _ c.push_rows-2.ensures in
    omega (arith, nodes.few, ap length c.requires, one, two)

pub returns-then-no_tasks : goal.returns-then-no_tasks
returns-then-no_tasks g c =
    rw c.if-no_tasks.true (
    branches_are c.args.state.now c.args.parents.now.items c.push_rows.new.parents.items
    c.push_rows-2.new.parents.items c.requires c.push_rows.ensures c.push_rows-2.ensures)

pub returns : goal.returns
returns g c =
    rw c.if-no_tasks.false (
    parents_are c.args.state.now c.push_rows-2.new.parents.items c.push_rows-3.new.parents.items
    (branches_are c.args.state.now c.args.parents.now.items c.push_rows.new.parents.items
    c.push_rows-2.new.parents.items c.requires c.push_rows.ensures c.push_rows-2.ensures)
    c.push_rows-3.ensures)
