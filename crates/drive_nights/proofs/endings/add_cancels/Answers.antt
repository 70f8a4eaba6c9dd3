use Rattle.std.proofs.Common.{refl}
use Rattle.drive_nights.specs.Endings.{cancels_at, cancels_below}
use Rattle.drive_nights.proofs.Searching.{steps_more}
use Rattle.drive_nights.proofs.endings.add_cancels.Goals as goal

pub loop-s-preserved : goal.loop-s-preserved
loop-s-preserved g c =
    let p = c.args.state.now in
    let n = c.args.night in
    steps_more (cancels_below p n) c.loop-s.s c.args.steps.now.items c.loop-s.steps.items
    c.add_cancels_at.new.steps.items (cancels_at p n c.loop-s.s) c.loop-s.invariant
    c.in_ok-add_cancels_at.ensures refl
