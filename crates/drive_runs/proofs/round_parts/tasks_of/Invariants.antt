use Rattle.std.specs.Prelude.{◌≡◌, map, take}
use Rattle.drive_runs.specs.declared.living.Living.{Living}
use Rattle.drive_runs.proofs.round_parts.tasks_of.Given as goal

abbrev pub invariant-loop-one : goal.invariant-loop-one
invariant-loop-one l =
    l.tasks.items ≡ map (λ (one : Living). one.task) (take l.one-index l.living)
