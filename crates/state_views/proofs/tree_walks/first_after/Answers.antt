use Rattle.std.proofs.Common.{ap, ◌∙◌, sym, slice_get, add-one, drop}
use Rattle.state_views.specs.Trees.{places_of}
use Rattle.state_views.proofs.WalkLemmas.{places_end, places_here, places_past}
use Rattle.state_views.proofs.tree_walks.first_after.Goals as goal

pub loop-place-init : goal.loop-place-init
loop-place-init c =
    ap (λ k. places_of c.args.parent k (drop k c.args.parents.now)) (sym (add-one c.args.node))

pub loop-place-preserved : goal.loop-place-preserved
loop-place-preserved c =
    let place = c.loop-place.place in
    c.loop-place.invariant
    ∙ places_past c.args.parent place c.args.parents.now c.loop-place-test.true
    c.if-parents-place.false
    ∙ ap (λ k. places_of c.args.parent k (drop k c.args.parents.now)) (sym (add-one place))

pub returns-then-parents-place : goal.returns-then-parents-place
returns-then-parents-place c =
    sym
    (ap (λ ns. slice_get ns 0) c.loop-place.invariant
    ∙ places_here c.args.parent c.loop-place.place c.args.parents.now c.loop-place-test.true
    c.if-parents-place.true)

pub returns : goal.returns
returns c =
    sym
    (ap (λ ns. slice_get ns 0) c.loop-place.invariant
    ∙ places_end c.args.parent c.loop-place.place c.args.parents.now c.loop-place-test.false)
