use Rattle.std.proofs.Common.{◌<◌, ◌+◌, ◌∙◌, ap, arith, drop, length, sym}
use Rattle.drive_steps.specs.Cancels.{are_started}
use Rattle.drive_steps.proofs.Canceling.{started_next, started_none}
use Rattle.drive_steps.proofs.reported.were_canceled.Goals as goal

pub returns-in_default : goal.returns-in_default
returns-in_default c =
    let less : c.loop-cancel.cancel-index < length c.args.taken.now = omega arith in
    sym (c.loop-cancel.invariant
    ∙ started_none c.args.taken.now c.loop-cancel.rest.now c.loop-cancel.cancel-index less
    (sym c.first_started.ensures ∙ c.in_default.is))

pub loop-cancel-preserved : goal.loop-cancel-preserved
loop-cancel-preserved c =
    let less : c.loop-cancel.cancel-index < length c.args.taken.now = omega arith in
    c.loop-cancel.invariant
    ∙ started_next c.args.taken.now c.loop-cancel.rest.now c.loop-cancel.cancel-index
    _ less (sym c.first_started.ensures ∙ c.in-Some.is)
    ∙ ap (are_started (drop (c.loop-cancel.cancel-index + 1) c.args.taken.now))
    (sym c.from-rest-in-loop-cancel.ensures)
