use Rattle.drive_parts.proofs.Growing.{sound_pooled}
use Rattle.drive_parts.proofs.grown.with_new_pool.Goals as goal

pub invariant_of-result : goal.invariant_of-result
invariant_of-result c =
    let plan = c.args.plan in
    record {
      sound =
          sound_pooled plan.first plan.groups.items plan.pools.items c.push.new.self.items
          plan.commands.items plan.order.items plan.places.items c.args.size
          c.in_ok-push.ensures.items plan.sound;
    }
