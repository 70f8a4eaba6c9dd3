use Rattle.std.proofs.Common.{◌≡◌, ◌<◌, ◌-◌, arith, length}
use Rattle.state_views.proofs.WalkLemmas.{leaves}
use Rattle.state_views.proofs.tree_walks.leave.Goals as goal

pub returns-then-parent-ne0 : goal.returns-then-parent-ne0
returns-then-parent-ne0 c =
    let some : 0 < c.args.parent = omega arith in
    let short : c.len.result - length c.passing-drawn.result.now
    ≡ length c.args.above.now.items - length c.passing-drawn.result.now =
    omega (arith, c.len.ensures.value) in
    leaves c.args.parents.now c.args.node c.args.parent
    (c.len.result - length c.passing-drawn.result.now) c.args.above.now.items
    c.passing-drawn.result.now c.truncate.new.self.items c.requires.rising c.requires.below some
    c.requires.parent c.requires.at c.passing-drawn.ensures short c.truncate.ensures.items
