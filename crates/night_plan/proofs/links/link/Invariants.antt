use Rattle.night_plan.specs.Links.{AreLinks}
use Rattle.night_plan.proofs.links.link.Given as goal

abbrev pub invariant-loop-c : goal.invariant-loop-c
invariant-loop-c l = AreLinks l.commands l.groups l.c l.before.items l.last.items
