use Rattle.std.proofs.Common.{◌<◌, ap, arith, length, refl, subst, sym, ℕ}
use Rattle.std.proofs.lemmas.Bool.{both_ways}
use Rattle.std.proofs.lemmas.Option.{slice_get_within}
use Rattle.drive_parts.specs.Names.{groups_of}
use Rattle.drive_parts.proofs.Growing.{can_add, key_same}
use Rattle.drive_parts.proofs.growth.Growth.with_command.Goals as goal

pub returns : goal.returns
returns c =
    let n = c.args.self.plan in
    let command = c.command_of-command.result in
    record {
      own =
          subst (λ (g : ℕ). g < length n.plan.groups.items) c.command_of-command.ensures.group
          (can_add n command c.may_grow.result c.may_grow.ensures c.if-not-may_grow.false).own;
      free = λ some.
          let less = slice_get_within n.keys.items some.0 c.args.key some.1.has in
          both_ways c.has_key.result c.if-has_key.false (c.has_key.ensures.1 (
            some.0,
            omega (arith, less, c.len.ensures),
            key_same (groups_of n.plan.commands.items) (groups_of c.deref.result.now)
                n.keys.items c.deref-2.result.now c.args.outline.group c.args.key some.0
                (ap groups_of (sym c.deref.ensures.value)) (sym c.deref-2.ensures.value) some.1,
          ));
      new = record { command = command; key = c.args.key };
      is = refl;
      outlined = c.command_of-command.ensures;
      called = refl;
      plan = refl;
      first = refl;
    }
