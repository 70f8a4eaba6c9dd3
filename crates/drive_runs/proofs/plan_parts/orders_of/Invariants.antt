use Rattle.std.specs.Prelude.{◌≡◌, map, take}
use Rattle.drive_lines.specs.declared.orders.Order.TheVariants as order
use Rattle.drive_runs.proofs.plan_parts.orders_of.Given as goal

abbrev pub invariant-loop-line : goal.invariant-loop-line
invariant-loop-line l = l.orders.items ≡ map order.Answer (take l.line-index l.lines)
