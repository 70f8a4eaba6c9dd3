use Rattle.std.proofs.Common.{◌≡◌, ◌-◌, ℕ, length, take}
use Rattle.std.specs.Prelude.{slice_index}
use Rattle.night_plan.specs.Choices.{takes_of}
use Rattle.night_plan.proofs.pools.take_from.Given as goal

abbrev pub invariant-loop-row : goal.invariant-loop-row
invariant-loop-row l = record {
  sized : length l.left.items ≡ length l.initial.left.items;
  taken : (p : ℕ) → slice_index l.left.items p
      ≡ slice_index l.initial.left.items p - takes_of (take l.row-index l.takes) p;
}
