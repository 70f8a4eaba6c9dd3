use Rattle.std.specs.Prelude.{◌≡◌, take}
use Rattle.drive_runs.specs.Living.{with_begun}
use Rattle.drive_runs.proofs.living.add_begun.Given as goal

abbrev pub invariant-loop-begin : goal.invariant-loop-begin
invariant-loop-begin l =
    l.living.items ≡ with_begun l.fn.living.items (take l.begin-index l.begun)
