use Rattle.std.proofs.Common.{length}
use Rattle.std.specs.List.{AllWithin}
use Rattle.night_plan.specs.Ranks.{IsKnown}
use Rattle.night_plan.proofs.plans.first_unknown.Given as goal

abbrev pub invariant-loop-c : goal.invariant-loop-c
invariant-loop-c l =
    AllWithin (IsKnown l.groups (length l.commands) l.pools) l.commands 0 l.c
