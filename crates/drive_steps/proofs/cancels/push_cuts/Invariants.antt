use Rattle.std.specs.Prelude.{◌≡◌, ◌+◌, ◌++◌, drop, length}
use Rattle.drive_steps.specs.Cancels.{cuts_of}
use Rattle.drive_steps.proofs.cancels.push_cuts.Given as goal

-- The steps so far, and then those of the other cancels.
abbrev pub invariant-loop-i : goal.invariant-loop-i
invariant-loop-i g l =
    l.initial.steps.items
    ++ cuts_of l.state l.names l.plan.commands.items (length l.state.work.tasks) l.taken
    ≡ l.steps.items
    ++ cuts_of l.state l.names l.plan.commands.items (length l.state.work.tasks + l.i)
    (drop l.i l.taken)
