use Rattle.std.proofs.Common.{◌≡◌, true}
use Rattle.std.specs.List.{AllWithin}
use Rattle.std.specs.Prelude.{nat_le, slice_index}
use Rattle.night_plan.specs.Choices.{takes_of}
use Rattle.night_plan.proofs.pools.fits.Given as goal

abbrev pub invariant-loop-row : goal.invariant-loop-row
invariant-loop-row l =
    AllWithin (λ row. nat_le (takes_of l.takes row.pool) (slice_index l.left row.pool) ≡ true)
    l.takes 0 l.row-index
