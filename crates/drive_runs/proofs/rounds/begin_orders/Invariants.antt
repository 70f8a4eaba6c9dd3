use Rattle.std.specs.Prelude.{take}
use Rattle.drive_runs.specs.Rounds.{AreBegins}
use Rattle.drive_runs.proofs.rounds.begin_orders.Given as goal

abbrev pub invariant-loop-begin : goal.invariant-loop-begin
invariant-loop-begin g l = AreBegins l.state (take l.begin-index l.begun) l.orders.items
