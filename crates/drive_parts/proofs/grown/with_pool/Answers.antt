use Rattle.std.proofs.Common.{◌∙◌, ap, length, refl, sym}
use Rattle.drive_parts.specs.Names.{groups_of}
use Rattle.drive_parts.proofs.Naming.{keys_at}
use Rattle.drive_parts.proofs.grown.with_pool.Goals as goal

pub invariant_of-result : goal.invariant_of-result
invariant_of-result c =
    let old = c.args.plan in
    let new = c.in_ok-with_new_pool.field-0 in
    record {
      named = old.named ∙ ap length (sym c.in_ok-with_new_pool.ensures.groups);
      keyed = old.keyed ∙ ap length (sym c.in_ok-with_new_pool.ensures.commands);
      dated = old.dated ∙ ap length (sym c.in_ok-with_new_pool.ensures.groups);
      names = old.names;
      own_keys =
          keys_at (groups_of old.plan.commands.items) (groups_of new.commands.items)
          old.keys.items old.keys.items
          (ap groups_of (sym c.in_ok-with_new_pool.ensures.commands)) refl old.own_keys;
    }
