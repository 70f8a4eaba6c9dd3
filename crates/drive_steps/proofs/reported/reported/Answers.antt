use Rattle.std.proofs.Common.{◌<◌, ◌∙◌, arith, length, sym}
use Rattle.drive_steps.proofs.Reporting.{nothing_reported}
use Rattle.drive_steps.proofs.reported.reported.Goals as goal

pub returns-in_default : goal.returns-in_default
returns-in_default c =
    let less : c.loop-c.c-index < length c.args.chosen.now = omega arith in
    sym (nothing_reported c.args.chosen.now c.args.replies.now c.loop-c.rest.now c.loop-c.all.items
    c.loop-c.c-index less (sym c.first_started.ensures ∙ c.in_default.is) c.loop-c.invariant)
