use Rattle.std.proofs.Common.{◌∙◌, None, ap, length, refl, subst, sym}
use Rattle.drive_parts.specs.Names.{AreGroupNames, groups_of}
use Rattle.drive_parts.proofs.Growing.{names_push, same_length_push}
use Rattle.drive_parts.proofs.Naming.{keys_at}
use Rattle.drive_parts.proofs.grown.with_named_group.Goals as goal

pub invariant_of-result : goal.invariant_of-result
invariant_of-result c =
    let old = c.args.plan in
    let new = c.in_ok-with_group.field-0 in
    record {
      named =
          same_length_push old.groups.items c.push.new.self.items old.plan.groups.items
          new.groups.items c.args.name c.args.group c.in_ok-push.ensures.items
          c.in_ok-with_group.ensures.groups old.named;
      keyed = old.keyed ∙ ap length (sym c.in_ok-with_group.ensures.commands);
      dated =
          same_length_push old.untils.items c.push-2.new.self.items old.plan.groups.items
          new.groups.items None c.args.group c.in_ok-push-2.ensures.items
          c.in_ok-with_group.ensures.groups old.dated;
      names =
          subst AreGroupNames (sym c.in_ok-push.ensures.items)
          (names_push old.groups.items c.args.name old.names c.requires.allowed c.requires.free);
      own_keys =
          keys_at (groups_of old.plan.commands.items) (groups_of new.commands.items)
          old.keys.items old.keys.items
          (ap groups_of (sym c.in_ok-with_group.ensures.commands)) refl old.own_keys;
    }
