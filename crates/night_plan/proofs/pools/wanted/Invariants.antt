use Rattle.std.proofs.Common.{◌≡◌, ◌-◌, ◌^◌, take}
use Rattle.std.specs.Prelude.{min}
use Rattle.night_plan.specs.Choices.{takes_of}
use Rattle.night_plan.proofs.pools.wanted.Given as goal

abbrev pub invariant-loop-row : goal.invariant-loop-row
invariant-loop-row l =
    l.sum ≡ min (takes_of (take l.row-index l.takes) l.pool) (2 ^ 64 - 1)
