use Rattle.file_calls.specs.OpenFiles.{settled}
use Rattle.file_calls.proofs.PlaceLemmas.{ChangedUpTo}
use Rattle.file_calls.proofs.memory_files.settle.Given as goal

abbrev pub invariant-loop-i : goal.invariant-loop-i
invariant-loop-i l = ChangedUpTo (λ j. settled l.to) l.initial.places l.places l.i
