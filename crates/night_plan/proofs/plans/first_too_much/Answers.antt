use Rattle.std.proofs.Common.{◌≡◌, ◌<◌, ◌∙◌, inl, inr, ap, arith, length, slice_get, subst, sym}
use Rattle.std.proofs.lemmas.Bool.{cases_eq}
use Rattle.std.proofs.lemmas.Option.{same_Some, slice_get_within}
use Rattle.night_plan.specs.Ranks.{TakesWithin}
use Rattle.night_plan.proofs.Rows.{read}
use Rattle.night_plan.proofs.plans.first_too_much.Goals as goal

pub loop-c-preserved : goal.loop-c-preserved
loop-c-preserved c d other less is = elim (cases_eq d c.loop-c.c) [
  | inl same ↦
      let commands = c.args.commands.now in
      let command = c.index-commands-c.result in
      let below : c.loop-c.c < length commands = omega arith in
      let here = read commands c.loop-c.c command below c.index-commands-c.is in
      let equal : command ≡ other = same_Some command other
      (sym here ∙ ap (slice_get commands) (sym same) ∙ is) in
      subst (TakesWithin c.args.pools.now) equal c.if-not-has_enough.ensures
  | inr before ↦ c.loop-c.invariant d other (omega (arith, less, before)) is
]

pub returns : goal.returns
returns c d command is =
    let below = slice_get_within c.args.commands.now d command is in
    c.loop-c.invariant d command (omega (arith, below, c.loop-c-test.false)) is

pub returns-then-not-has_enough : goal.returns-then-not-has_enough
returns-then-not-has_enough c =
    let below : c.loop-c.c < length c.args.commands.now = omega arith in (
      c.index-commands-c.result,
      read c.args.commands.now c.loop-c.c c.index-commands-c.result below c.index-commands-c.is,
      c.if-not-has_enough.ensures,
    )
