use Rattle.std.proofs.Common.{◌≡◌, ◌++◌, map, take}
use Rattle.plan_lines.specs.LineKinds.{line_of_kind}
use Rattle.plan_lines.proofs.rounds.push_each.Given as goal

abbrev pub invariant-loop-command : goal.invariant-loop-command
invariant-loop-command l =
    l.lines.items ≡ l.fn.lines.items
    ++ map (line_of_kind l.kind) (take l.command-index l.commands)
