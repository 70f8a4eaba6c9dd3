use Rattle.std.proofs.Common.{◌≡◌, true}
use Rattle.std.specs.List.{AllWithin}
use Rattle.night_plan.specs.Plans.{is_within}
use Rattle.night_plan.proofs.plans.needs_known.Given as goal

abbrev pub invariant-loop-need : goal.invariant-loop-need
invariant-loop-need l =
    AllWithin (λ need. is_within l.groups l.commands need.of ≡ true) l.needs 0 l.need-index
