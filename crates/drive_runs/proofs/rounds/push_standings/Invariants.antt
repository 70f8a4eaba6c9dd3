use Rattle.std.specs.Prelude.{◌≡◌, ◌++◌, map, take}
use Rattle.plan_lines.specs.Rounds.{standing_lines}
use Rattle.drive_lines.specs.declared.orders.Order.TheVariants as order
use Rattle.drive_runs.proofs.rounds.push_standings.Given as goal

abbrev pub invariant-loop-command : goal.invariant-loop-command
invariant-loop-command l =
    l.orders.items
    ≡ l.fn.orders.items ++ map order.Answer (standing_lines 0 (take l.command l.all))
