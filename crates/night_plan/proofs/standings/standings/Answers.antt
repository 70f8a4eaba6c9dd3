use Rattle.std.proofs.Common.{◌≡◌, ◌∙◌, ◌+◌, List, ap, arith, length}
use Rattle.std.proofs.Common.{slice_get, slice_index, slice_set, subst, sym}
use Rattle.std.proofs.lemmas.Option.{same_Some, slice_get_within}
use Rattle.night_plan.specs.declared.standings.Summary.{Summary}
use Rattle.night_plan.specs.Nights.{night}
use Rattle.night_plan.specs.Standings.{Stands}
use Rattle.night_plan.specs.Hopes.{AreStanding, IsPlaced, no_summary, summary_of, with_both}
use Rattle.night_plan.proofs.Rows.{get_replicate, read}
use Rattle.night_plan.proofs.Hoping.{summary_none}
use Rattle.night_plan.proofs.Passing.{standing_more}
use Rattle.night_plan.proofs.standings.standings.Goals as goal

pub index-requires : goal.index-requires
index-requires c =
    let plan = c.args.plan.now in
    let i = c.index-c.result.now in
    let at_i = read plan.order.items c.loop-p.p i (omega arith) c.index-c.ensures in
    let below = plan.sound.inside c.loop-p.p i at_i in
    omega (arith, below)

pub index-before-requires : goal.index-before-requires
index-before-requires c =
    let plan = c.args.plan.now in
    let i = c.index-c.result.now in
    let at_i = read plan.order.items c.loop-p.p i (omega arith) c.index-c.ensures in
    let below = plan.sound.inside c.loop-p.p i at_i in
    let is = read plan.commands.items i c.index.result.now below c.index.ensures in
    let own = plan.sound.own i c.index.result.now is in
    let sized = c.loop-p.invariant.grouped in
    omega (arith, own, sized)

pub index_mut-requires : goal.index_mut-requires
index_mut-requires c =
    let plan = c.args.plan.now in
    let i = c.index-c.result.now in
    let at_i = read plan.order.items c.loop-p.p i (omega arith) c.index-c.ensures in
    let below = plan.sound.inside c.loop-p.p i at_i in
    let sized = c.loop-p.invariant.sized in
    omega (arith, below, sized)

pub index_mut-requires-in-loop-p : goal.index_mut-requires-in-loop-p
index_mut-requires-in-loop-p c =
    let plan = c.args.plan.now in
    let i = c.index-c.result.now in
    let at_i = read plan.order.items c.loop-p.p i (omega arith) c.index-c.ensures in
    let below = plan.sound.inside c.loop-p.p i at_i in
    let is = read plan.commands.items i c.index.result.now below c.index.ensures in
    let own = plan.sound.own i c.index.result.now is in
    let sized = c.loop-p.invariant.grouped in
    omega (arith, own, sized)

pub loop-p-preserved : goal.loop-p-preserved
loop-p-preserved c =
    let plan = c.args.plan.now in
    let n = night plan c.args.facts.now in
    let p = c.loop-p.p in
    let i = c.index-c.result.now in
    let command = c.index.result.now in
    let s = c.standing_at-standing.result in
    let all = c.loop-p.all.items in
    let tallies = c.loop-p.tallies.items in
    let before = c.index-before.result.now in
    let at_i = read plan.order.items p i (omega arith) c.index-c.ensures in
    let below = plan.sound.inside p i at_i in
    let is = read plan.commands.items i command below c.index.ensures in
    let own = plan.sound.own i command is in
    let sized = c.loop-p.invariant.grouped in
    let at_t = read tallies command.group before (omega (arith, own, sized))
    c.index-before.ensures in
    let new : c.both.result ≡ with_both before (summary_of s) =
    c.both.ensures ∙ ap (with_both before) c.summary_one.ensures in
    subst (λ (t : Summary). AreStanding n c.args.now plan.order.items (p + 1) (slice_set all i s)
    (slice_set tallies command.group t)) (sym new)
    (standing_more n c.args.now (length plan.pools.items) p i plan.order.items plan.places.items
    all
    tallies s before command plan.sound c.loop-p.invariant at_i is at_t
    (c.standing_at-standing.ensures i at_i))

pub loop-p-init : goal.loop-p-init
loop-p-init c =
    let plan = c.args.plan.now in
    let n = night plan c.args.facts.now in
    record {
      sized = omega (arith, c.in_ok-all.ensures.len, c.len.ensures);
      grouped = omega (arith, c.in_ok-tallies.ensures.len, c.len-2.ensures);
      stood = λ q d never. absurd (omega (arith, never));
      counted = λ g within. (
        no_summary,
        ap (λ (ts : List Summary). slice_get ts g)
            (c.in_ok-tallies.ensures.items_if_clones_equal (λ y same. same))
            ∙ get_replicate c.len-2.result g no_summary (omega (arith, within, c.len-2.ensures)),
        summary_none n (IsPlaced n plan.order.items g 0)
            (λ d it. let never = it.below in omega (arith, never)),
      );
    }

pub returns-clause-each : goal.returns-clause-each
returns-clause-each c d standing at_d =
    let plan = c.args.plan.now in
    let inv = c.loop-p.invariant in
    let sized = inv.sized in
    let inside = slice_get_within c.loop-p.all.items d standing at_d in
    let placed = plan.sound.placed d (omega (arith, inside, sized)) in
    let before = slice_get_within plan.order.items (slice_index plan.places.items d) d placed in
    let whole : c.loop-p.p ≡ length plan.order.items = omega arith in
    let stood = inv.stood (slice_index plan.places.items d) d (omega (arith, before, whole))
    placed in
    subst (Stands (night plan c.args.facts.now) c.args.now d)
    (same_Some stood.0 standing (sym stood.1 ∙ at_d)) stood.2
