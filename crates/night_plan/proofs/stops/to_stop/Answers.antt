use Rattle.std.proofs.Common.{◌≡◌, ◌&&◌, ◌∙◌, Bool, List, ap, arith, get_or}
use Rattle.std.proofs.Common.{sym}
use Rattle.std.proofs.lemmas.Bool.{both_ways}
use Rattle.std.proofs.lemmas.List.Elements.{All-contains}
use Rattle.std.proofs.lemmas.Option.{slice_get_within}
use Rattle.night_plan.specs.declared.commands.Command.{Command}
use Rattle.night_plan.specs.Nights.{cancels, night, is_busy}
use Rattle.night_plan.specs.Stops.{MustStop, must_stop}
use Rattle.night_plan.proofs.Reading.{row_of}
use Rattle.night_plan.proofs.Rows.{at_there, read}
use Rattle.night_plan.proofs.Stopping.{stop_all, stop_right, stops_more, stops_same}
use Rattle.night_plan.proofs.stops.to_stop.Goals as goal

pub loop-c-preserved-then-not-is_to_stop : goal.loop-c-preserved-then-not-is_to_stop
loop-c-preserved-then-not-is_to_stop c =
    let plan = c.args.plan.now in
    let n = night plan c.args.facts.now in
    let i = c.loop-c.c in
    let command = c.command-item.result in
    let fact = c.index-known.result.now in
    let group = c.index-group.result.now in
    let stopped = c.in_ok-stopped.stopped.items in
    let b = c.index-mark.result.now in
    let it = row_of plan c.args.facts.now i command fact c.requires (omega arith)
    (c.command-item.is
    ∙ ap (λ (xs : List Command). get_or xs i command) c.deref-command-items.ensures.value)
    c.index-known.ensures in
    let own = it.own in
    let row = read n.groups command.group group own c.index-group.ensures in
    let marks = c.in_ok-stopped.ensures.sized in
    let at_b = read stopped command.group b (omega (arith, own, marks)) c.index-mark.ensures in
    let cut : c.is_cut_off-cut.result ≡ (b && cancels group.way) =
    c.is_cut_off-cut.ensures ∙ ap (λ t. b && t) c.does_cancel.ensures in
    let says : c.is_to_stop.result ≡ must_stop n.done command fact (b && cancels group.way) =
    c.is_to_stop.ensures
    ∙ ap (λ (xs : List Bool). must_stop xs command fact c.is_cut_off-cut.result)
    c.as_slice.ensures.value
    ∙ ap (must_stop n.done command fact) cut in
    stops_same n i c.loop-c.all.items c.loop-c.invariant (λ must.
    both_ways c.is_to_stop.result c.if-not-is_to_stop.true
    (says ∙ stop_all n i command fact group it.is it.known row stopped c.in_ok-stopped.ensures b
    at_b must))

pub loop-c-preserved : goal.loop-c-preserved
loop-c-preserved c =
    let plan = c.args.plan.now in
    let n = night plan c.args.facts.now in
    let i = c.loop-c.c in
    let command = c.command-item.result in
    let fact = c.index-known.result.now in
    let group = c.index-group.result.now in
    let stopped = c.in_ok-stopped.stopped.items in
    let b = c.index-mark.result.now in
    let it = row_of plan c.args.facts.now i command fact c.requires (omega arith)
    (c.command-item.is
    ∙ ap (λ (xs : List Command). get_or xs i command) c.deref-command-items.ensures.value)
    c.index-known.ensures in
    let own = it.own in
    let row = read n.groups command.group group own c.index-group.ensures in
    let marks = c.in_ok-stopped.ensures.sized in
    let at_b = read stopped command.group b (omega (arith, own, marks)) c.index-mark.ensures in
    let cut : c.is_cut_off-cut.result ≡ (b && cancels group.way) =
    c.is_cut_off-cut.ensures ∙ ap (λ t. b && t) c.does_cancel.ensures in
    let says : c.is_to_stop.result ≡ must_stop n.done command fact (b && cancels group.way) =
    c.is_to_stop.ensures
    ∙ ap (λ (xs : List Bool). must_stop xs command fact c.is_cut_off-cut.result)
    c.as_slice.ensures.value
    ∙ ap (must_stop n.done command fact) cut in
    rw c.in_ok-push.ensures.items (stops_more n i c.loop-c.all.items c.loop-c.invariant
    (stop_right n i command fact group it.is it.known row stopped c.in_ok-stopped.ensures b at_b
    (sym says ∙ c.if-not-is_to_stop.false)))

pub returns-clause-exact : goal.returns-clause-exact
returns-clause-exact c d =
    let n = night c.args.plan.now c.args.facts.now in
    let inv = c.loop-c.invariant in (
      λ listed. All-contains (MustStop n) c.loop-c.all.items d inv.right listed,
      λ must.
          let it = at_there n d (λ x f. is_busy f.phase) must.runs in
          let below = slice_get_within n.commands d it.0 it.2 in
          inv.every d (omega (arith, below, c.loop-c-test.false)) must,
    )
