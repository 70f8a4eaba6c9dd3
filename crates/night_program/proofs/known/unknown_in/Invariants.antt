use Rattle.std.proofs.Common.{◌≡◌, ◌≤◌, IfSome, take}
use Rattle.night_program.specs.Known.{unknown_in}
use Rattle.night_program.proofs.known.unknown_in.Given as goal

-- The first tasks were looked at, and no more than these were found.
abbrev pub invariant-loop-task : goal.invariant-loop-task
invariant-loop-task g l =
    (l.found ≡ unknown_in (take l.task l.state.work.tasks))
    × IfSome l.found (λ unknown. unknown.tasks ≤ l.task)
