use Rattle.std.proofs.Common.{◌<◌, arith, length}
use Rattle.std.proofs.lemmas.Bool.{both_ways}
use Rattle.night_plan.proofs.Rows.{read}
use Rattle.night_plan.proofs.plans.first_unknown.Goals as goal

pub returns-then-not-line_known : goal.returns-then-not-line_known
returns-then-not-line_known c =
    let commands = c.args.commands.now in
    let command = c.index-commands-c.result in
    let below : c.loop-c.c < length commands = omega arith in (
      command,
      read commands c.loop-c.c command below c.index-commands-c.is,
      λ known. both_ways c.line_known.result c.if-not-line_known.true
          (c.line_known.ensures.1 known),
    )
