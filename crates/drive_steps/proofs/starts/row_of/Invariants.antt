use Rattle.std.specs.Prelude.{◌≡◌, ◌++◌, drop}
use Rattle.drive_steps.specs.Starts.{row_of}
use Rattle.drive_steps.proofs.starts.row_of.Given as goal

-- The steps so far, and then those of the other commands.
abbrev pub invariant-loop-c : goal.invariant-loop-c
invariant-loop-c g l =
    row_of l.state l.names l.plan.commands.items l.chosen
    ≡ l.steps.items ++ row_of l.state l.names l.plan.commands.items (drop l.c-index l.chosen)
