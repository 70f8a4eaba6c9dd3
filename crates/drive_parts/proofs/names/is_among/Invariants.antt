use Rattle.std.proofs.Common.{◌≡◌, ◌<◌, ℕ, Some, slice_get}
use Rattle.drive_parts.proofs.names.is_among.Given as goal

-- None of the first names is this one.
abbrev pub invariant-loop-g : goal.invariant-loop-g
invariant-loop-g l = (k : ℕ) → k < l.g → slice_get l.names k ≡ Some l.name → ⊥
