use Rattle.std.proofs.Common.{◌≡◌, ◌<◌, ◌+◌, ℕ, length}
use Rattle.std.specs.Prelude.{slice_index}
use Rattle.night_plan.proofs.ranks.places_of.Given as goal

abbrev pub invariant-loop-rank : goal.invariant-loop-rank
invariant-loop-rank l = record {
  sized : length l.places.items ≡ l.rank-index;
  before : (c : ℕ) → c < l.rank-index
      → slice_index l.places.items c + 1 ≡ slice_index l.ranks c;
}
