use Rattle.std.proofs.Common.{◌<◌, arith, sym, ◌∙◌}
use Rattle.state_views.proofs.WalkLemmas.{beside_at, beside_next, climbs}
use Rattle.state_views.proofs.tree_walks.next_beside.Goals as goal

pub returns-in-Some-clause-next : goal.returns-in-Some-clause-next
returns-in-Some-clause-next c =
    let some : 0 < c.loop-place.place = omega (arith, c.loop-place-test.true) in
    beside_next c.args.parents.now c.args.node c.loop-place.place c.parent_of-parent.result
    c.in-Some.next c.loop-place.above.items c.requires.rising some c.loop-place.invariant.1
    c.parent_of-parent.ensures (sym c.in-Some.is ∙ c.first_after.ensures)
    c.loop-place.invariant.0

pub returns-in-Some-clause-at : goal.returns-in-Some-clause-at
returns-in-Some-clause-at c =
    let some : 0 < c.loop-place.place = omega (arith, c.loop-place-test.true) in
    beside_at c.args.parents.now c.loop-place.place c.parent_of-parent.result c.in-Some.next
    c.loop-place.above.items c.requires.rising some c.loop-place.invariant.1
    c.parent_of-parent.ensures (sym c.in-Some.is ∙ c.first_after.ensures)

pub loop-place-preserved : goal.loop-place-preserved
loop-place-preserved c =
    let some : 0 < c.loop-place.place = omega (arith, c.loop-place-test.true) in (
      climbs c.args.parents.now c.args.node c.loop-place.place c.parent_of-parent.result
          c.requires.rising some c.parent_of-parent.ensures
          (sym c.in_default.is ∙ c.first_after.ensures) c.loop-place.invariant.0,
      c.leave.ensures,
    )
