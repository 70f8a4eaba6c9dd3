use Rattle.std.proofs.Common.{◌≡◌, ◌++◌, map, take, drop}
use Rattle.file_calls.specs.Names.{settled_step}
use Rattle.file_calls.proofs.memory_names.settle.Given as goal

abbrev pub invariant-loop-i : goal.invariant-loop-i
invariant-loop-i l =
    l.steps ≡ map (settled_step l.to) (take l.i l.initial.steps) ++ drop l.i l.initial.steps
