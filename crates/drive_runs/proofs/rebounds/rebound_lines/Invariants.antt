use Rattle.std.specs.Prelude.{◌≡◌, take}
use Rattle.drive_runs.specs.Rebounds.{rebound_lines}
use Rattle.drive_runs.proofs.rebounds.rebound_lines.Given as goal

abbrev pub invariant-loop-begin : goal.invariant-loop-begin
invariant-loop-begin g l = l.lines.items ≡ rebound_lines l.state (take l.begin-index l.begun)
