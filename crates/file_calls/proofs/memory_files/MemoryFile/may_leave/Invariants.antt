use Rattle.std.proofs.Common.{◌≡◌, ◌<◌, ℕ, get_or, slice_get}
use Rattle.file_calls.specs.declared.places.Place.TheVariants.{Durable}
use Rattle.file_calls.proofs.memory_files.MemoryFile.may_leave.Given as goal

abbrev pub invariant-loop-i : goal.invariant-loop-i
invariant-loop-i l =
    (j : ℕ) → j < l.i → get_or l.self.places.items j Durable ≡ Durable
    → slice_get l.left j ≡ slice_get l.self.bytes.items j
