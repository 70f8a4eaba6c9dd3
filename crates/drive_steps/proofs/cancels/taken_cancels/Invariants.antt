use Rattle.std.specs.Prelude.{take}
use Rattle.drive_steps.specs.Cancels.{AreTaken}
use Rattle.drive_steps.proofs.cancels.taken_cancels.Given as goal

-- Those of the first cancels that can be recorded.
abbrev pub invariant-loop-cancel : goal.invariant-loop-cancel
invariant-loop-cancel g l =
    AreTaken l.state l.names l.plan.commands.items l.heard (take l.cancel-index l.cancels)
    l.taken.items
