use Rattle.std.proofs.Common.{◌++◌, ◌∷◌, ◌∙◌, [], ap, length, sym}
use Rattle.drive_parts.specs.Names.{groups_of}
use Rattle.drive_parts.proofs.Growing.{command_keys_push, same_length_push}
use Rattle.drive_parts.proofs.Naming.{keys_at}
use Rattle.drive_parts.proofs.grown.with_pending.Goals as goal

pub invariant_of-result : goal.invariant_of-result
invariant_of-result c =
    let old = c.args.plan in
    let new = c.in_ok-with_command.field-0 in
    let command = c.args.pending.command in
    let key = c.args.pending.key in
    record {
      named = old.named ∙ ap length (sym c.in_ok-with_command.ensures.groups);
      keyed =
          same_length_push old.keys.items c.push.new.self.items old.plan.commands.items
          new.commands.items key command c.in_ok-push.ensures.items
          c.in_ok-with_command.ensures.commands old.keyed;
      dated = old.dated ∙ ap length (sym c.in_ok-with_command.ensures.groups);
      names = old.names;
      own_keys =
          keys_at (groups_of (old.plan.commands.items ++ command ∷ []))
          (groups_of new.commands.items) (old.keys.items ++ key ∷ []) c.push.new.self.items
          (ap groups_of (sym c.in_ok-with_command.ensures.commands))
          (sym c.in_ok-push.ensures.items)
          (command_keys_push old.plan.commands.items old.keys.items command key old.keyed
          old.own_keys c.requires.own);
    }
