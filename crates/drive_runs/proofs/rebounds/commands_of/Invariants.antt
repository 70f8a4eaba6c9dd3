use Rattle.std.specs.Prelude.{◌≡◌, take}
use Rattle.drive_runs.specs.Rebounds.{commands_of}
use Rattle.drive_runs.proofs.rebounds.commands_of.Given as goal

abbrev pub invariant-loop-one : goal.invariant-loop-one
invariant-loop-one l = l.commands.items ≡ commands_of (take l.one-index l.living)
