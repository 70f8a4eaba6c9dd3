use Rattle.std.proofs.Common.{refl}
use Rattle.run_model.specs.Tasks.{has_stage, is_fresh}
use Rattle.drive_nights.specs.Openings.{withdrawals_below, withdrawn_if}
use Rattle.drive_nights.proofs.Searching.{steps_more}
use Rattle.drive_nights.proofs.openings.add_withdrawals.Goals as goal

pub loop-n-preserved : goal.loop-n-preserved
loop-n-preserved g c =
    let p = c.args.state.now in
    let n = c.loop-n.n in
    steps_more (withdrawals_below p) n c.args.steps.now.items c.loop-n.steps.items
    c.add_withdrawal.new.steps.items (withdrawn_if (has_stage is_fresh p.work n) n)
    c.loop-n.invariant c.in_ok-add_withdrawal.ensures refl
