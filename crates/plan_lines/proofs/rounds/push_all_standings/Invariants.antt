use Rattle.std.proofs.Common.{◌≡◌, ◌++◌, take}
use Rattle.plan_lines.specs.Rounds.{standing_lines}
use Rattle.plan_lines.proofs.rounds.push_all_standings.Given as goal

abbrev pub invariant-loop-command : goal.invariant-loop-command
invariant-loop-command l =
    l.lines.items ≡ l.fn.lines.items ++ standing_lines 0 (take l.command l.all)
