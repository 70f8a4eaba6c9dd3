use Rattle.std.proofs.Common.{◌≡◌, ◌∙◌, ◌&&◌, ◌||◌, ◌+◌, Bool, List, ap, length, subst}
use Rattle.std.proofs.Common.{arith, sym, get_or, slice_set}
use Rattle.night_plan.specs.declared.commands.Command.{Command}
use Rattle.night_plan.specs.Nights.{night, is_spent, stops}
use Rattle.night_plan.specs.Hopes.{AreStopped}
use Rattle.night_plan.proofs.Reading.{row_of}
use Rattle.night_plan.proofs.Rows.{read}
use Rattle.night_plan.proofs.Passing.{stopped_more}
use Rattle.night_plan.proofs.standings.stopped_groups.Goals as goal

pub loop-c-preserved : goal.loop-c-preserved
loop-c-preserved c =
    let plan = c.args.plan.now in
    let n = night plan c.args.facts.now in
    let i = c.loop-c.c in
    let command = c.command-item.result in
    let fact = c.index-known.result.now in
    let group = c.index-group.result.now in
    let before = c.index-before.result.now in
    let stopped = c.loop-c.stopped.items in
    let it = row_of plan c.args.facts.now i command fact c.requires (omega arith)
    (c.command-item.is
    ∙ ap (λ (xs : List Command). get_or xs i command) c.deref-command-items.ensures.value)
    c.index-known.ensures in
    let own = it.own in
    let group_at = read n.groups command.group group own c.index-group.ensures in
    let marks = c.loop-c.invariant.sized in
    let at_b = read stopped command.group before (omega (arith, own, marks))
    c.index-before.ensures in
    let spent : c.spent-failed.result ≡ is_spent n.done command fact =
    c.spent-failed.ensures
    ∙ ap (λ (xs : List Bool). is_spent xs command fact) c.as_slice.ensures.value in
    let new : c.is_stopped.result ≡ (before || (stops group.way && is_spent n.done command fact)) =
    c.is_stopped.ensures ∙ ap (λ b. before || (stops group.way && b)) spent in
    subst (λ b. AreStopped n (i + 1) (slice_set stopped command.group b)) (sym new)
    (stopped_more n i stopped command fact group before c.loop-c.invariant it.is it.known own
    group_at at_b)

pub returns : goal.returns
returns c =
    let n = night c.args.plan.now c.args.facts.now in
    let whole : c.loop-c.c ≡ length n.commands = omega arith in
    subst (λ i. AreStopped n i c.loop-c.stopped.items) whole c.loop-c.invariant
