use Rattle.std.proofs.Common.{◌≡◌, ◌<◌, ◌+◌, ◌∙◌, ℕ, List, ap, arith, length}
use Rattle.std.proofs.Common.{slice_get, subst, sym}
use Rattle.std.specs.Prelude.{slice_index}
use Rattle.night_plan.specs.declared.commands.Command.{Command}
use Rattle.night_plan.specs.Plans.{IsSound}
use Rattle.night_plan.specs.declared.ranks.Ranking.TheVariants as ranking
use Rattle.night_plan.specs.Ranks.{AreRanks, IsRanking, IsTooMuch}
use Rattle.night_plan.proofs.Planning.{known_from, sound_known, takes_from}
use Rattle.night_plan.proofs.Planning.{needs_from, own_from, unknown_from}
use Rattle.night_plan.proofs.plans.make_plan.Goals as goal

pub first_too_much-requires : goal.first_too_much-requires
first_too_much-requires c =
    takes_from (length c.args.groups.items) (length c.args.pools.items) _ c.args.commands.items _
    (known_from (length c.args.groups.items) (length c.args.pools.items) c.len.result
    c.len-2.result
    c.args.commands.items c.as_slice.result.now c.in_default.ensures c.as_slice.ensures.value
    (omega arith) (omega arith))
    c.as_slice-3.ensures.value (ap length c.as_slice-2.ensures.value)

pub returns-in-Some-clause-refused : goal.returns-in-Some-clause-refused
returns-in-Some-clause-refused c =
    unknown_from c.args.groups.items c.args.pools.items c.args.commands.items c.as_slice.result.now
    c.len.result c.len-2.result c.in-Some.c c.in-Some.ensures c.as_slice.ensures.value
    (omega arith)
    (omega arith)

pub returns-in-Some-first_too_much-clause-refused :
    goal.returns-in-Some-first_too_much-clause-refused
returns-in-Some-first_too_much-clause-refused c =
    let it = c.in-Some-first_too_much.ensures in (
      it.0,
      sym (ap (λ (xs : List Command). slice_get xs c.in-Some-first_too_much.c)
          c.as_slice-3.ensures.value) ∙ it.1,
      subst (λ (xs : List ℕ). IsTooMuch xs it.0) c.as_slice-2.ensures.value it.2,
    )

pub rank_all-requires-clause-own : goal.rank_all-requires-clause-own
rank_all-requires-clause-own c =
    own_from (length c.args.groups.items) (length c.args.pools.items) c.args.commands.items _ _
    (known_from (length c.args.groups.items) (length c.args.pools.items) c.len.result
    c.len-2.result
    c.args.commands.items c.as_slice.result.now c.in_default.ensures c.as_slice.ensures.value
    (omega arith) (omega arith)) c.as_slice-4.ensures.value (omega arith)

pub rank_all-requires-clause-within : goal.rank_all-requires-clause-within
rank_all-requires-clause-within c =
    needs_from (length c.args.groups.items) (length c.args.pools.items) c.args.commands.items _ _
    (known_from (length c.args.groups.items) (length c.args.pools.items) c.len.result
    c.len-2.result
    c.args.commands.items c.as_slice.result.now c.in_default.ensures c.as_slice.ensures.value
    (omega arith) (omega arith)) c.as_slice-4.ensures.value (omega arith)

pub invariant_of-result : goal.invariant_of-result
invariant_of-result c =
    let groups = c.args.groups.items in
    let pools = length c.args.pools.items in
    let commands = c.args.commands.items in
    let ranks = c.in-Ranks.all.ranks.items in
    let order = c.in-Ranks.all.order.items in
    let places = c.in_ok-places.places.items in
    let known = known_from (length groups) pools c.len.result c.len-2.result commands
    c.as_slice.result.now c.in_default.ensures c.as_slice.ensures.value (omega arith)
    (omega arith) in
    let all : IsRanking commands (ranking.Ranks c.in-Ranks.all) =
    subst (IsRanking commands) c.in-Ranks.is
    (subst (λ (xs : List Command). IsRanking xs c.in_ok-all.field-0) c.as_slice-4.ensures.value
    c.in_ok-all.ensures) in
    let are : AreRanks commands ranks order (length order) = all.0 in
    let each : (k : ℕ) → k < length ranks → 0 < slice_index ranks k =
    (λ k below. let same = are.sized in all.1 k (omega (arith, below, same))) in
    let sized : length places ≡ length ranks =
    c.in_ok-places.ensures.sized ∙ ap length c.as_slice-5.ensures.value in
    let before : (k : ℕ) → k < length ranks
    → slice_index places k + 1 ≡ slice_index ranks k =
    subst (λ (xs : List ℕ). (k : ℕ) → k < length xs → slice_index places k + 1 ≡ slice_index xs k)
    c.as_slice-5.ensures.value c.in_ok-places.ensures.before in
    record {
      sound = subst (λ (k : ℕ). IsSound k groups pools commands order places)
          (let e : length commands ≡ c.len-4.result = omega arith in e)
          (sound_known groups pools commands ranks order places (length order) known are each sized
          before);
    }
