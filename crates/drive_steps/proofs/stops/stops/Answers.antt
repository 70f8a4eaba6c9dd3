use Rattle.std.proofs.Common.{◌<◌, ◌∙◌, ◌==◌, ◌++◌, ◌∷◌, List, [], ap, arith, map, subst, sym, ℕ}
use Rattle.std.proofs.lemmas.List.{take_all}
use Rattle.std.specs.List.{All, list_any}
use Rattle.night_plan.specs.Turns.{is_among}
use Rattle.drive_steps.specs.declared.cancels.CommandCancel.{CommandCancel}
use Rattle.drive_steps.specs.declared.reported.Begun.{Begun}
use Rattle.drive_steps.specs.declared.stops.Stop.{Stop}
use Rattle.night_plan.specs.Nights.{Night}
use Rattle.drive_steps.specs.Stops.{stop_of, tries_of}
use Rattle.drive_steps.proofs.Halting.{facts_marked, marked_size, night_with, passes_more}
use Rattle.drive_steps.proofs.Halting.{passes_same, those_stop, try_at, try_read}
use Rattle.drive_steps.proofs.Unstopped.{no_stops}
use Rattle.drive_steps.proofs.stops.stops.Goals as goal

pub mark-requires : goal.mark-requires
mark-requires g c =
    subst (λ (m : ℕ). All (λ (x : CommandCancel). x.command < m) c.args.canceled.now)
    (sym c.in_ok-facts.ensures.sized.known) c.requires.within

pub to_stop-requires : goal.to_stop-requires
to_stop-requires g c = record {
  known = marked_size c.args.canceled.now c.in_ok-facts.facts.known.items c.mark.new.known.items
      c.mark.ensures ∙ c.in_ok-facts.ensures.sized.known;
  done = c.in_ok-facts.ensures.sized.done;
  sizes = c.in_ok-facts.ensures.sized.sizes;
}

pub loop-begun-preserved-then-not-is_listed : goal.loop-begun-preserved-then-not-is_listed
loop-begun-preserved-then-not-is_listed g c =
    let i : ℕ = c.loop-begun.begun-index in
    let try : Begun = try_at c.args.living.now i in
    let commands : List ℕ = c.in_ok-commands.commands.items in
    let f : Begun → Stop = stop_of c.args.state.now c.args.names.now
    (night_with c.args.plan.now c.mark.new.known.items c.in_ok-facts.facts.done.items)
    c.args.canceled.now in
    c.loop-begun.invariant
    ∙ sym (passes_same f (λ (x : Begun). is_among x.command commands) c.args.living.now i try
    (omega arith) (try_read c.args.living.now i)
    (sym (c.is_listed.ensures
    ∙ ap (λ (xs : List ℕ). list_any (λ d. d == try.command) xs) c.as_slice.ensures.value)
    ∙ c.if-not-is_listed.true))

pub loop-begun-preserved : goal.loop-begun-preserved
loop-begun-preserved g c =
    let i : ℕ = c.loop-begun.begun-index in
    let try : Begun = try_at c.args.living.now i in
    let commands : List ℕ = c.in_ok-commands.commands.items in
    let old : List Stop = c.loop-begun.stops.items in
    let f : Begun → Stop = stop_of c.args.state.now c.args.names.now
    (night_with c.args.plan.now c.mark.new.known.items c.in_ok-facts.facts.done.items)
    c.args.canceled.now in
    c.in_ok-push.ensures.items
    ∙ ap (λ (why : List ℕ). old ++ record { task = try.task; why = why } ∷ []) c.why_of-why.ensures
    ∙ ap (λ (xs : List Stop). xs ++ f try ∷ []) c.loop-begun.invariant
    ∙ sym (passes_more f (λ (x : Begun). is_among x.command commands) c.args.living.now i try
    (omega arith) (try_read c.args.living.now i)
    (sym (c.is_listed.ensures
    ∙ ap (λ (xs : List ℕ). list_any (λ d. d == try.command) xs) c.as_slice.ensures.value)
    ∙ c.if-not-is_listed.false))

pub why_of-why-requires-clause-facts : goal.why_of-why-requires-clause-facts
why_of-why-requires-clause-facts g c = record {
  known = marked_size c.args.canceled.now c.in_ok-facts.facts.known.items c.mark.new.known.items
      c.mark.ensures ∙ c.in_ok-facts.ensures.sized.known;
  done = c.in_ok-facts.ensures.sized.done;
  sizes = c.in_ok-facts.ensures.sized.sizes;
}

pub returns : goal.returns
returns g c =
    let commands : List ℕ = c.in_ok-commands.commands.items in
    let p = c.args.state.now in
    let names = c.args.names.now in
    let canceled : List CommandCancel = c.args.canceled.now in
    let f : Night → Begun → Stop = λ n. stop_of p names n canceled in
    let n : Night = night_with c.args.plan.now c.mark.new.known.items
    c.in_ok-facts.facts.done.items in
    record {
      commands = commands;
      must = those_stop p c.args.ends.now c.args.plan.now names canceled c.in_ok-facts.facts
          c.mark.new.known.items commands c.requires.named c.in_ok-facts.ensures c.mark.ensures
          c.in_ok-commands.ensures.exact;
      those = c.loop-begun.invariant
          ∙ ap (λ (xs : List Begun). map (f n) (tries_of commands xs))
          (take_all c.loop-begun.begun-index c.args.living.now (omega arith))
          ∙ ap (λ (m : Night). map (f m) (tries_of commands c.args.living.now))
          (facts_marked p c.args.ends.now c.args.plan.now names canceled c.in_ok-facts.facts
          c.mark.new.known.items c.requires.named c.in_ok-facts.ensures c.mark.ensures);
    }

pub returns-then-not-can_stop : goal.returns-then-not-can_stop
returns-then-not-can_stop g c =
    no_stops c.args.state.now c.args.ends.now c.args.plan.now c.args.names.now
    c.args.canceled.now c.args.living.now c.new.result.items c.new.ensures.items
    (sym c.can_stop.ensures ∙ c.if-not-can_stop.true)
