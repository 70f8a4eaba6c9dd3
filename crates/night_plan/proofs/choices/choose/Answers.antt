use Rattle.std.proofs.Common.{◌≡◌, ◌+◌, ◌-◌, ◌∙◌, ◌++◌, ◌∷◌, [], ℕ, List, ap}
use Rattle.std.proofs.Common.{arith}
use Rattle.std.proofs.Common.{length, slice_index, subst, sym}
use Rattle.std.proofs.Common.{true}
use Rattle.std.proofs.lemmas.Bool.{both_ways}
use Rattle.std.specs.Prelude.{All, nat_le}
use Rattle.night_plan.specs.declared.commands.Take.{Take}
use Rattle.night_plan.specs.declared.standings.Standing.{Standing}
use Rattle.night_plan.specs.Nights.{night}
use Rattle.night_plan.specs.Choices.{takes_at, takes_of}
use Rattle.night_plan.specs.Queues.{IsQueue, IsSoonestOf, IsUnderway}
use Rattle.night_plan.proofs.Reading.{queued_inside, queued_row}
use Rattle.night_plan.proofs.Choosing.{chosen_from, enough_or, goes_on, later_from, short_of}
use Rattle.night_plan.proofs.Choosing.{takes_at_is, takes_inside}
use Rattle.night_plan.proofs.Ordering.{passed_over, taken_on}
use Rattle.night_plan.proofs.choices.choose.Goals as goal

pub index-requires : goal.index-requires
index-requires c =
    let inside = queued_inside (night c.args.plan.now c.args.facts.now) c.as_slice.result.now
    c.in_ok-queue.queue.items c.loop-i.i c.index-c.result.now c.in_ok-queue.ensures
    (ap length c.as_slice.ensures.value ∙ c.in_ok-all.ensures.sized) (omega arith)
    c.index-c.ensures in
    omega (arith, inside)

pub fits-requires : goal.fits-requires
fits-requires c =
    let plan = c.args.plan.now in
    let n = night plan c.args.facts.now in
    let queue = c.in_ok-queue.queue.items in
    let i = c.index-c.result.now in
    let command = c.index.result.now in
    let row = queued_row n c.as_slice.result.now queue c.loop-i.i i command c.in_ok-queue.ensures
    (ap length c.as_slice.ensures.value ∙ c.in_ok-all.ensures.sized) (omega arith)
    c.index-c.ensures c.index.ensures in
    let count : length c.as_slice-in-loop-i.result.now ≡ length plan.pools.items =
    ap length c.as_slice-in-loop-i.ensures.value ∙ c.loop-i.invariant.sized
    ∙ c.requires.facts.sizes in
    rw c.as_slice-takes.ensures.value (takes_inside n (length plan.pools.items) plan.order.items
    plan.places.items plan.sound i command row.is (length c.as_slice-in-loop-i.result.now) count)

pub take_from-requires : goal.take_from-requires
take_from-requires c =
    let plan = c.args.plan.now in
    let n = night plan c.args.facts.now in
    let queue = c.in_ok-queue.queue.items in
    let i = c.index-c.result.now in
    let command = c.index.result.now in
    let row = queued_row n c.as_slice.result.now queue c.loop-i.i i command c.in_ok-queue.ensures
    (ap length c.as_slice.ensures.value ∙ c.in_ok-all.ensures.sized) (omega arith)
    c.index-c.ensures c.index.ensures in
    rw c.as_slice-takes.ensures.value (takes_inside n (length plan.pools.items) plan.order.items
    plan.places.items plan.sound i command row.is (length c.loop-i.left.items)
    (c.loop-i.invariant.sized ∙ c.requires.facts.sizes))

pub loop-i-preserved-then-not-fits : goal.loop-i-preserved-then-not-fits
loop-i-preserved-then-not-fits c =
    let plan = c.args.plan.now in
    let n = night plan c.args.facts.now in
    let queue = c.in_ok-queue.queue.items in
    let i = c.index-c.result.now in
    let command = c.index.result.now in
    let row = queued_row n c.as_slice.result.now queue c.loop-i.i i command c.in_ok-queue.ensures
    (ap length c.as_slice.ensures.value ∙ c.in_ok-all.ensures.sized) (omega arith)
    c.index-c.ensures c.index.ensures in
    let takes = c.as_slice-takes.result.now in
    let left = c.loop-i.left.items in
    let value = c.as_slice-in-loop-i.ensures.value in
    let short = short_of takes left (λ all. both_ways c.fits.result c.if-not-fits.true
    (c.fits.ensures.1 (subst (λ (xs : List ℕ). All (λ (row : Take).
    nat_le (takes_of takes row.pool) (slice_index xs row.pool) ≡ true) takes) (sym value) all))) in
    let amount : takes_of takes short.0 ≡ takes_at n short.0 (slice_index queue c.loop-i.i) =
    ap (λ (xs : List Take). takes_of xs short.0) c.as_slice-takes.ensures.value
    ∙ sym (takes_at_is n short.0 i command row.is) ∙ sym (ap (takes_at n short.0) row.there) in
    let less = short.1 in
    record {
      sized = c.loop-i.invariant.sized;
      under = passed_over n c.args.facts.now.sizes.items queue c.in_ok-queue.ensures.order
          c.loop-i.i
          (omega arith) c.loop-i.commands.items left c.loop-i.invariant.under short.0
          (omega (arith, less, amount));
    }

pub loop-i-preserved : goal.loop-i-preserved
loop-i-preserved c =
    let plan = c.args.plan.now in
    let n = night plan c.args.facts.now in
    let queue = c.in_ok-queue.queue.items in
    let i = c.index-c.result.now in
    let command = c.index.result.now in
    let row = queued_row n c.as_slice.result.now queue c.loop-i.i i command c.in_ok-queue.ensures
    (ap length c.as_slice.ensures.value ∙ c.in_ok-all.ensures.sized) (omega arith)
    c.index-c.ensures c.index.ensures in
    let takes = c.as_slice-takes.result.now in
    let left = c.loop-i.left.items in
    let value = c.as_slice-in-loop-i.ensures.value in
    let enough = enough_or takes left (subst (λ (xs : List ℕ). All (λ (row : Take).
    nat_le (takes_of takes row.pool) (slice_index xs row.pool) ≡ true) takes) value
    (c.fits.ensures.0 c.if-not-fits.false)) in
    let amount = λ (p : ℕ).
    ap (λ (xs : List Take). takes_of xs p) c.as_slice-takes.ensures.value
    ∙ sym (takes_at_is n p i command row.is) ∙ sym (ap (takes_at n p) row.there) in
    record {
      sized = c.take_from.ensures.sized ∙ c.loop-i.invariant.sized;
      under = subst (λ (xs : List ℕ). IsUnderway n c.args.facts.now.sizes.items queue
          (c.loop-i.i + 1)
          xs c.take_from.new.left.items)
          (ap (λ k. c.loop-i.commands.items ++ k ∷ []) row.there ∙ sym c.in_ok-push.ensures.items)
          (taken_on n c.args.facts.now.sizes.items queue c.in_ok-queue.ensures.order c.loop-i.i
          (omega arith) c.loop-i.commands.items left c.loop-i.invariant.under
          c.take_from.new.left.items
          (λ p. let fits = enough p in let same = amount p in omega (arith, fits, same))
          (λ p. c.take_from.ensures.taken p ∙ ap (λ k. slice_index left p - k) (amount p)));
    }

pub returns-clause-chosen : goal.returns-clause-chosen
returns-clause-chosen c =
    let n = night c.args.plan.now c.args.facts.now in
    let all = c.in_ok-all.all.items in
    let queue = c.in_ok-queue.queue.items in
    let whole : c.loop-i.i ≡ length queue = omega arith in
    record {
      chosen = chosen_from n c.args.now all c.in_ok-all.ensures.sized c.in_ok-all.ensures.each
          c.args.facts.now.sizes.items queue c.loop-i.commands.items c.loop-i.left.items
          (subst (λ (xs : List Standing). IsQueue n xs queue) c.as_slice.ensures.value
          c.in_ok-queue.ensures)
          (subst (λ k. IsUnderway n c.args.facts.now.sizes.items queue k c.loop-i.commands.items
          c.loop-i.left.items) whole c.loop-i.invariant.under);
      later = later_from n c.args.now all c.in_ok-all.ensures.sized c.in_ok-all.ensures.each
          c.soonest-later.result
          (subst (λ (xs : List Standing). IsSoonestOf xs (length xs) c.soonest-later.result)
          c.as_slice-2.ensures.value c.soonest-later.ensures);
    }

pub returns-clause-moving : goal.returns-clause-moving
returns-clause-moving c capacity quiet =
    let plan = c.args.plan.now in
    goes_on (night plan c.args.facts.now) c.args.now c.in_ok-all.all.items
    c.in_ok-all.ensures.sized
    c.in_ok-all.ensures.each (length plan.pools.items) plan.order.items plan.places.items
    c.args.facts.now.sizes.items plan.sound quiet capacity _ (returns-clause-chosen c)
