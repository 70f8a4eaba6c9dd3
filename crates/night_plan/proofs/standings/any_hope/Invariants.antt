use Rattle.std.proofs.Common.{◌≡◌, true}
use Rattle.std.specs.List.{AllWithin}
use Rattle.night_plan.specs.Hopes.{has_hope, hope_of, summary_for}
use Rattle.night_plan.proofs.standings.any_hope.Given as goal

abbrev pub invariant-loop-need : goal.invariant-loop-need
invariant-loop-need l =
    AllWithin (λ need. has_hope l.which (hope_of need.when (summary_for l.all l.tallies need.of))
    ≡ true → ⊥) l.needs 0 l.need-index
