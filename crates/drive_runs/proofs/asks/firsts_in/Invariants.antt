use Rattle.std.specs.Prelude.{◌≡◌, take}
use Rattle.std.specs.List.{filter_map}
use Rattle.drive_runs.specs.Asks.{first_line}
use Rattle.drive_runs.proofs.asks.firsts_in.Given as goal

abbrev pub invariant-loop-group : goal.invariant-loop-group
invariant-loop-group g l =
    l.lines.items ≡ filter_map (first_line l.state l.sitting.names) (take l.group-index l.firsts)
