use Rattle.std.proofs.Common.{◌≡◌, true}
use Rattle.std.specs.List.{AllWithin}
use Rattle.night_plan.specs.Nights.{is_ended}
use Rattle.night_plan.proofs.questions.all_ends.Given as goal

abbrev pub invariant-loop-need : goal.invariant-loop-need
invariant-loop-need l = AllWithin (λ need. is_ended need.when ≡ true) l.needs 0 l.need-index
