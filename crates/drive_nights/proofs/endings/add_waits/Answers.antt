use Rattle.std.proofs.Common.{refl}
use Rattle.drive_nights.specs.Endings.{wait_at, waits_below}
use Rattle.drive_nights.proofs.Searching.{steps_more}
use Rattle.drive_nights.proofs.endings.add_waits.Goals as goal

pub loop-g-preserved : goal.loop-g-preserved
loop-g-preserved g c =
    let p = c.args.state.now in
    let n = c.args.night in
    steps_more (waits_below p n) c.loop-g.g c.args.steps.now.items c.loop-g.steps.items
    c.add_wait.new.steps.items (wait_at p n c.loop-g.g) c.loop-g.invariant
    c.in_ok-add_wait.ensures refl
