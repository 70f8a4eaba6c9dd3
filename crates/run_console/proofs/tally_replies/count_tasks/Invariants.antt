use Rattle.std.proofs.Common.{◌≡◌, take}
use Rattle.console_lines.specs.Tallies.{tallies_of}
use Rattle.run_console.proofs.tally_replies.count_tasks.Given as goal

-- The first tasks were counted.
abbrev pub invariant-loop-task : goal.invariant-loop-task
invariant-loop-task g l = l.tallies ≡ tallies_of (take l.task l.state.work.tasks)
