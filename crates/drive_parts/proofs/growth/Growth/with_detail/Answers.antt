use Rattle.std.proofs.Common.{refl}
use Rattle.drive_parts.proofs.Growing.{can_add}
use Rattle.drive_parts.proofs.growth.Growth.with_detail.Goals as goal

pub returns : goal.returns
returns c =
    let command = c.in_ok-command.command in
    record {
      old = c.in-Some.pending;
      new = record { command = command; key = c.in-Some.pending.key };
      was = c.in-Some.is;
      is = refl;
      extends = c.in_ok-command.ensures;
      key = refl;
      can =
          can_add c.args.self.plan command c.may_grow.result c.may_grow.ensures
          c.if-not-may_grow.false;
      plan = refl;
      first = refl;
    }
