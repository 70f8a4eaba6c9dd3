use Rattle.file_calls.specs.OpenFiles.{written}
use Rattle.file_calls.proofs.PlaceLemmas.{ChangedUpTo}
use Rattle.file_calls.proofs.memory_files.make_dirty.Given as goal

abbrev pub invariant-loop-i : goal.invariant-loop-i
invariant-loop-i l = ChangedUpTo (written l.at l.n) l.initial.places l.places l.i
