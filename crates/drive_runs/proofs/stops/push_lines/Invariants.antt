use Rattle.std.specs.Prelude.{◌≡◌, ◌++◌, map, take}
use Rattle.drive_runs.specs.Stops.{stop_line}
use Rattle.drive_runs.proofs.stops.push_lines.Given as goal

abbrev pub invariant-loop-stop : goal.invariant-loop-stop
invariant-loop-stop l =
    l.orders.items ≡ l.fn.orders.items ++ map stop_line (take l.stop-index l.stops)
