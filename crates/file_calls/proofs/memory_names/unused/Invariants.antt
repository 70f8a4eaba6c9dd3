use Rattle.std.proofs.Common.{take}
use Rattle.file_calls.proofs.NameLemmas.{AreBelow}
use Rattle.file_calls.proofs.memory_names.unused.Given as goal

abbrev pub invariant-loop-step : goal.invariant-loop-step
invariant-loop-step l = AreBelow (take l.step-index l.steps) l.next
