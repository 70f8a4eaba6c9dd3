use Rattle.std.proofs.Common.{◌∙◌, ap, length, map, subst, sym}
use Rattle.std.specs.List.{filter_map}
use Rattle.drive_parts.specs.Additions.{Listed, groups_in, key_of}
use Rattle.drive_parts.specs.Names.{AreGroupNames, groups_of}
use Rattle.drive_parts.proofs.Naming.{groups_listed, keys_at, twice_at}
use Rattle.drive_parts.proofs.plans.PlanDraft.finish.Goals as goal

pub returns-in-Some-first_twice : goal.returns-in-Some-first_twice
returns-in-Some-first_twice c = λ xs is.
    twice_at (groups_of c.deref-2.result.now) (groups_in xs) c.deref-3.result.now
    (filter_map key_of xs) c.in-Some-first_twice.command
    (ap groups_of c.deref-2.ensures.value
    ∙ sym (groups_listed c.args.self.commands.commands.items)
    ∙ ap (map (λ (command : Listed). command.outline.group)) is.commands.commands)
    (c.deref-3.ensures.value ∙ is.commands.keys) c.in-Some-first_twice.ensures

pub invariant_of-result : goal.invariant_of-result
invariant_of-result c = record {
  named = c.args.self.groups.named ∙ ap length (sym c.in-Ok.ensures.groups);
  keyed = c.args.self.commands.keyed ∙ ap length (sym c.in-Ok.ensures.commands);
  dated = c.args.self.groups.dated ∙ ap length (sym c.in-Ok.ensures.groups);
  names = subst AreGroupNames c.deref.ensures.value c.in_default.ensures;
  own_keys =
      keys_at (groups_of c.deref-2.result.now) (groups_of c.in-Ok.plan.commands.items)
      c.deref-3.result.now c.args.self.commands.keys.items
      (ap groups_of (c.deref-2.ensures.value ∙ sym c.in-Ok.ensures.commands))
      c.deref-3.ensures.value c.in_default-first_twice.ensures;
}
