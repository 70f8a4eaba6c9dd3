use Rattle.night_plan.specs.Links.{IsRankedFrom}
use Rattle.night_plan.proofs.links.last_unranked.Given as goal

abbrev pub invariant-loop-next : goal.invariant-loop-next
invariant-loop-next l = IsRankedFrom l.commands l.ranks l.g l.next

abbrev pub decreases-loop-next : goal.decreases-loop-next
decreases-loop-next l = l.next
