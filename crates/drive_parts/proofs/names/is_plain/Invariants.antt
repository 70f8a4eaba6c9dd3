use Rattle.std.proofs.Common.{◌≡◌, ◌<◌, ◌+◌, ℕ}
use Rattle.std.specs.Prelude.{slice_index}
use Rattle.drive_parts.proofs.names.is_plain.Given as goal

-- None of the first bytes is a hyphen before another one.
abbrev pub invariant-loop-i : goal.invariant-loop-i
invariant-loop-i l =
    (k : ℕ) → k + 1 < l.i → slice_index l.bytes k ≡ 45 → slice_index l.bytes (k + 1) ≡ 45 → ⊥
