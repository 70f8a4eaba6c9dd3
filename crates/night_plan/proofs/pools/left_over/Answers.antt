use Rattle.std.proofs.Common.{◌≡◌, ◌<◌, ◌-◌, ◌∙◌, List, Some, ap, arith, get_or, length, slice_get}
use Rattle.std.proofs.Common.{sym}
use Rattle.std.specs.Prelude.{slice_index}
use Rattle.night_plan.specs.declared.commands.Command.{Command}
use Rattle.night_plan.specs.declared.commands.Take.{Take}
use Rattle.night_plan.specs.Choices.{takes_of}
use Rattle.night_plan.specs.Nights.{night}
use Rattle.night_plan.proofs.Rows.{read}
use Rattle.night_plan.proofs.Choosing.{takes_inside, used_more}
use Rattle.night_plan.proofs.pools.left_over.Goals as goal

pub take_from-requires : goal.take_from-requires
take_from-requires c =
    let plan = c.args.plan.now in
    let n = night plan c.args.facts.now in
    let command = c.command-item.result in
    let below : c.loop-c.c < length n.commands = omega arith in
    let is : slice_get n.commands c.loop-c.c ≡ Some command =
    read n.commands c.loop-c.c command below (c.command-item.is
    ∙ ap (λ (xs : List Command). get_or xs c.loop-c.c command) c.deref-command-items.ensures.value)
    in
    rw c.as_slice-in-loop-c.ensures.value
    (takes_inside n (length plan.pools.items) plan.order.items
    plan.places.items plan.sound c.loop-c.c command is (length c.loop-c.left.items)
    (c.loop-c.invariant.sized ∙ c.requires.sizes))

pub loop-c-preserved : goal.loop-c-preserved
loop-c-preserved c =
    let plan = c.args.plan.now in
    let n = night plan c.args.facts.now in
    let command = c.command-item.result in
    let fact = c.index-known.result.now in
    let below : c.loop-c.c < length n.commands = omega arith in
    let is : slice_get n.commands c.loop-c.c ≡ Some command =
    read n.commands c.loop-c.c command below (c.command-item.is
    ∙ ap (λ (xs : List Command). get_or xs c.loop-c.c command) c.deref-command-items.ensures.value)
    in
    let sized = c.requires.known in
    let known = read n.known c.loop-c.c fact (omega (arith, below, sized)) c.index-known.ensures in
    record {
      sized = c.take_from.ensures.sized ∙ c.loop-c.invariant.sized;
      left = λ p. used_more n p c.loop-c.c (slice_index c.args.facts.now.sizes.items p)
          (slice_index c.loop-c.left.items p) (slice_index c.take_from.new.left.items p) command
          fact
          is known (sym c.busy.ensures ∙ c.if-not-busy.false)
          (c.take_from.ensures.taken p
          ∙ ap (λ (xs : List Take). slice_index c.loop-c.left.items p - takes_of xs p)
          c.as_slice-in-loop-c.ensures.value)
          (c.loop-c.invariant.left p);
    }
