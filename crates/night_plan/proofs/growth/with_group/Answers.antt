use Rattle.std.proofs.Common.{List, length, subst, sym}
use Rattle.night_plan.specs.declared.commands.Group.{Group as GroupLine}
use Rattle.night_plan.specs.Plans.{IsSound}
use Rattle.night_plan.proofs.Growing.{sound_grouped}
use Rattle.night_plan.proofs.growth.with_group.Goals as goal

pub invariant_of-result : goal.invariant_of-result
invariant_of-result c =
    let plan = c.args.plan in
    let pools = length plan.pools.items in
    record {
      sound = subst (λ (xs : List GroupLine). IsSound plan.first xs pools plan.commands.items
          plan.order.items plan.places.items) (sym c.in_ok-push.ensures.items)
          (sound_grouped plan.first plan.groups.items pools plan.commands.items plan.order.items
          plan.places.items c.args.group plan.sound);
    }
