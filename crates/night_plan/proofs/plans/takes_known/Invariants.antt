use Rattle.std.proofs.Common.{◌<◌}
use Rattle.std.specs.List.{AllWithin}
use Rattle.night_plan.proofs.plans.takes_known.Given as goal

abbrev pub invariant-loop-row : goal.invariant-loop-row
invariant-loop-row l =
    AllWithin (λ row. row.pool < l.pools) l.takes 0 l.row-index
