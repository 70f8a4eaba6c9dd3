use Rattle.std.specs.Prelude.{◌≡◌, take}
use Rattle.std.specs.List.{filter_map}
use Rattle.drive_runs.specs.Asks.{error_line}
use Rattle.drive_runs.proofs.asks.errors_in.Given as goal

abbrev pub invariant-loop-command : goal.invariant-loop-command
invariant-loop-command g l =
    l.lines.items ≡ filter_map (error_line l.state l.sitting.plan l.sitting.names)
    (take l.command-index l.asks)
