use Rattle.std.proofs.Common.{◌≡◌, ◌∙◌, Bool, List, ap, length, subst, sym}
use Rattle.std.proofs.lemmas.Option.{same_Some}
use Rattle.night_plan.specs.declared.standings.Hope.TheVariants as hope
use Rattle.night_plan.specs.Nights.{night, is_failed, is_canceled}
use Rattle.night_plan.specs.Nights.{IsReady, IsWaiting}
use Rattle.night_plan.specs.Standings.{Stands, IsGivenUp, IsPending}
use Rattle.night_plan.specs.Hopes.{lost_stands}
use Rattle.night_plan.proofs.Rows.{waits_at}
use Rattle.night_plan.proofs.Reading.{free_from, lost_from, no_hope, placed_row, some_hope}
use Rattle.night_plan.proofs.Passing.{idle_from, lost_standing, given_up}
use Rattle.night_plan.proofs.Passing.{pending, may_begin, within_all}
use Rattle.night_plan.proofs.standings.standing_at.Goals as goal

pub returns-then-lost : goal.returns-then-lost
returns-then-lost c c' at_c =
    let plan = c.args.plan.now in
    let facts = c.args.facts.now in
    let n = night plan facts in
    let i = c.index-c.result.now in
    let command = c.index-command.result.now in
    let fact = c.index-known.result.now in
    let it = placed_row plan facts c.args.p i command fact c.requires.facts c.requires.is
    c.index-c.ensures c.index-command.ensures c.index-known.ensures in
    let row = it.row in
    let idle = idle_from n c.args.now i command fact row.is row.known
    (sym c.busy.ensures ∙ c.if-busy.false) (sym c.ended_ok.ensures ∙ c.if-ended_ok.false) in
    let lost = lost_from plan facts c.args.now i command fact row c.args.stopped.now
    c.requires.stopped c.as_slice-done.result.now c.as_slice-done.ensures.value _ c.lost.result
    c.lost.ensures idle c.if-lost.true in
    let canceled : c.canceled.result ≡ is_canceled n.done command fact =
    c.canceled.ensures ∙ ap (λ (xs : List Bool). is_canceled xs command fact)
    c.as_slice-done.ensures.value in
    let stands : Stands n c.args.now i c.lost_standing.result =
    subst (Stands n c.args.now i)
    (sym (c.lost_standing.ensures ∙ ap (λ (b : Bool). lost_stands b c.canceled.result)
    c.failed_last.ensures ∙ ap (lost_stands (is_failed fact.phase)) canceled))
    (lost_standing n c.args.now i command fact row.is row.known lost) in
    subst (λ k. Stands n c.args.now k c.lost_standing.result)
    (same_Some i c' (sym it.placed ∙ at_c)) stands

pub any_hope-requires : goal.any_hope-requires
any_hope-requires c =
    let plan = c.args.plan.now in
    let facts = c.args.facts.now in
    let n = night plan facts in
    let i = c.index-c.result.now in
    let command = c.index-command.result.now in
    let fact = c.index-known.result.now in
    let it = placed_row plan facts c.args.p i command fact c.requires.facts c.requires.is
    c.index-c.ensures c.index-command.ensures c.index-known.ensures in
    let row = it.row in
    rw c.as_slice-needs.ensures.value (within_all n i command row.is (length plan.pools.items)
    plan.order.items plan.places.items plan.sound (length c.args.all.now)
    (length c.args.tallies.now) c.requires.standing.sized c.requires.standing.grouped row.below)

pub any_hope-requires-2 : goal.any_hope-requires-2
any_hope-requires-2 c =
    let plan = c.args.plan.now in
    let facts = c.args.facts.now in
    let n = night plan facts in
    let i = c.index-c.result.now in
    let command = c.index-command.result.now in
    let fact = c.index-known.result.now in
    let it = placed_row plan facts c.args.p i command fact c.requires.facts c.requires.is
    c.index-c.ensures c.index-command.ensures c.index-known.ensures in
    let row = it.row in
    rw c.as_slice-needs.ensures.value (within_all n i command row.is (length plan.pools.items)
    plan.order.items plan.places.items plan.sound (length c.args.all.now)
    (length c.args.tallies.now) c.requires.standing.sized c.requires.standing.grouped row.below)

pub returns-then-any_hope : goal.returns-then-any_hope
returns-then-any_hope c c' at_c =
    let plan = c.args.plan.now in
    let facts = c.args.facts.now in
    let n = night plan facts in
    let i = c.index-c.result.now in
    let command = c.index-command.result.now in
    let fact = c.index-known.result.now in
    let it = placed_row plan facts c.args.p i command fact c.requires.facts c.requires.is
    c.index-c.ensures c.index-command.ensures c.index-known.ensures in
    let row = it.row in
    let idle = idle_from n c.args.now i command fact row.is row.known
    (sym c.busy.ensures ∙ c.if-busy.false) (sym c.ended_ok.ensures ∙ c.if-ended_ok.false) in
    let free = free_from plan facts c.args.now i command fact row c.args.stopped.now
    c.requires.stopped c.as_slice-done.result.now c.as_slice-done.ensures.value _ c.lost.result
    c.lost.ensures c.if-lost.false in
    let some = some_hope c.args.all.now c.args.tallies.now hope.Vain
    c.as_slice-needs.result.now command.needs.items c.any_hope.result
    c.as_slice-needs.ensures.value c.any_hope.ensures.0 c.if-any_hope.true in
    subst (IsGivenUp n) (same_Some i c' (sym it.placed ∙ at_c))
    (given_up n c.args.now i command fact row.is row.known (length plan.pools.items) c.args.p
    plan.order.items plan.places.items plan.sound it.placed c.args.all.now c.args.tallies.now
    c.requires.standing idle free some)

pub returns-then-any_hope-2 : goal.returns-then-any_hope-2
returns-then-any_hope-2 c c' at_c =
    let plan = c.args.plan.now in
    let facts = c.args.facts.now in
    let n = night plan facts in
    let i = c.index-c.result.now in
    let command = c.index-command.result.now in
    let fact = c.index-known.result.now in
    let it = placed_row plan facts c.args.p i command fact c.requires.facts c.requires.is
    c.index-c.ensures c.index-command.ensures c.index-known.ensures in
    let row = it.row in
    let idle = idle_from n c.args.now i command fact row.is row.known
    (sym c.busy.ensures ∙ c.if-busy.false) (sym c.ended_ok.ensures ∙ c.if-ended_ok.false) in
    let free = free_from plan facts c.args.now i command fact row c.args.stopped.now
    c.requires.stopped c.as_slice-done.result.now c.as_slice-done.ensures.value _ c.lost.result
    c.lost.ensures c.if-lost.false in
    let hopeful = no_hope c.args.all.now c.args.tallies.now hope.Vain
    c.as_slice-needs.result.now command.needs.items c.any_hope.result
    c.as_slice-needs.ensures.value c.any_hope.ensures.1 c.if-any_hope.false in
    let some = some_hope c.args.all.now c.args.tallies.now hope.Open
    c.as_slice-needs.result.now command.needs.items c.any_hope-2.result
    c.as_slice-needs.ensures.value c.any_hope-2.ensures.0 c.if-any_hope-2.true in
    subst (IsPending n) (same_Some i c' (sym it.placed ∙ at_c))
    (pending n c.args.now i command fact row.is row.known (length plan.pools.items) c.args.p
    plan.order.items plan.places.items plan.sound it.placed c.args.all.now c.args.tallies.now
    c.requires.standing idle free hopeful some)

pub returns-in-Some : goal.returns-in-Some
returns-in-Some c c' at_c =
    let plan = c.args.plan.now in
    let facts = c.args.facts.now in
    let n = night plan facts in
    let i = c.index-c.result.now in
    let command = c.index-command.result.now in
    let fact = c.index-known.result.now in
    let it = placed_row plan facts c.args.p i command fact c.requires.facts c.requires.is
    c.index-c.ensures c.index-command.ensures c.index-known.ensures in
    let row = it.row in
    let idle = idle_from n c.args.now i command fact row.is row.known
    (sym c.busy.ensures ∙ c.if-busy.false) (sym c.ended_ok.ensures ∙ c.if-ended_ok.false) in
    let free = free_from plan facts c.args.now i command fact row c.args.stopped.now
    c.requires.stopped c.as_slice-done.result.now c.as_slice-done.ensures.value _ c.lost.result
    c.lost.ensures c.if-lost.false in
    let hopeful = no_hope c.args.all.now c.args.tallies.now hope.Vain
    c.as_slice-needs.result.now command.needs.items c.any_hope.result
    c.as_slice-needs.ensures.value c.any_hope.ensures.1 c.if-any_hope.false in
    let closed = no_hope c.args.all.now c.args.tallies.now hope.Open
    c.as_slice-needs.result.now command.needs.items c.any_hope-2.result
    c.as_slice-needs.ensures.value c.any_hope-2.ensures.1 c.if-any_hope-2.false in
    let may = may_begin n c.args.now i command fact row.is row.known (length plan.pools.items)
    c.args.p plan.order.items plan.places.items plan.sound it.placed c.args.all.now
    c.args.tallies.now c.requires.standing idle free hopeful closed in
    subst (λ k. IsWaiting n c.args.now k c.in-Some.moment)
    (same_Some i c' (sym it.placed ∙ at_c)) (record {
      may = may;
      due = waits_at n c.args.now i command fact row.is row.known ∙ sym c.wait_until.ensures
          ∙ c.in-Some.is;
    })

pub returns-in-None : goal.returns-in-None
returns-in-None c c' at_c =
    let plan = c.args.plan.now in
    let facts = c.args.facts.now in
    let n = night plan facts in
    let i = c.index-c.result.now in
    let command = c.index-command.result.now in
    let fact = c.index-known.result.now in
    let it = placed_row plan facts c.args.p i command fact c.requires.facts c.requires.is
    c.index-c.ensures c.index-command.ensures c.index-known.ensures in
    let row = it.row in
    let idle = idle_from n c.args.now i command fact row.is row.known
    (sym c.busy.ensures ∙ c.if-busy.false) (sym c.ended_ok.ensures ∙ c.if-ended_ok.false) in
    let free = free_from plan facts c.args.now i command fact row c.args.stopped.now
    c.requires.stopped c.as_slice-done.result.now c.as_slice-done.ensures.value _ c.lost.result
    c.lost.ensures c.if-lost.false in
    let hopeful = no_hope c.args.all.now c.args.tallies.now hope.Vain
    c.as_slice-needs.result.now command.needs.items c.any_hope.result
    c.as_slice-needs.ensures.value c.any_hope.ensures.1 c.if-any_hope.false in
    let closed = no_hope c.args.all.now c.args.tallies.now hope.Open
    c.as_slice-needs.result.now command.needs.items c.any_hope-2.result
    c.as_slice-needs.ensures.value c.any_hope-2.ensures.1 c.if-any_hope-2.false in
    let may = may_begin n c.args.now i command fact row.is row.known (length plan.pools.items)
    c.args.p plan.order.items plan.places.items plan.sound it.placed c.args.all.now
    c.args.tallies.now c.requires.standing idle free hopeful closed in
    subst (IsReady n c.args.now) (same_Some i c' (sym it.placed ∙ at_c)) (record {
      may = may;
      due = waits_at n c.args.now i command fact row.is row.known ∙ sym c.wait_until.ensures
          ∙ c.in-None.is;
    })
