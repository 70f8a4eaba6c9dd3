use Rattle.std.proofs.Common.{◌≡◌, length}
use Rattle.night_plan.specs.Nights.{night}
use Rattle.night_plan.specs.Queues.{IsUnderway}
use Rattle.night_plan.proofs.choices.choose.Given as goal

abbrev pub invariant-loop-i : goal.invariant-loop-i
invariant-loop-i l = record {
  sized : length l.left.items ≡ length l.facts.sizes.items;
  under : IsUnderway (night l.plan l.facts) l.facts.sizes.items l.queue.items l.i l.commands.items
      l.left.items;
}
