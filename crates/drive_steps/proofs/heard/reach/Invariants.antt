use Rattle.std.specs.Prelude.{◌+◌, ◌-◌, length}
use Rattle.drive_steps.specs.Heard.{AreSame}
use Rattle.drive_steps.proofs.heard.reach.Given as goal

-- Of each task the same is known as at first.
abbrev pub invariant-rows : goal.invariant-rows
invariant-rows l = AreSame l.fn.ends l.ends

abbrev pub decreases-rows : goal.decreases-rows
decreases-rows l = l.task + 1 - length l.ends.moments.items
