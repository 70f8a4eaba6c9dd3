use Rattle.std.proofs.Common.{◌≡◌, ◌<◌, ◌+◌, ◌-◌, ◌∙◌, ◌++◌, ◌∷◌, [], ℕ, List, ap, arith, drop}
use Rattle.std.proofs.Common.{length, refl, replicate, rules, set, subst, sym, take}
use Rattle.std.proofs.Common.{inl, inr}
use Rattle.std.proofs.lemmas.Bool.{cases_eq}
use Rattle.std.proofs.lemmas.List.{get_or_read, length-replicate, length-set}
use Rattle.std.specs.Prelude.{slice_index}
use Rattle.night_plan.specs.Ranks.{FirstAfter, IsCircle, IsPath, IsSearching, NeedsRanked}
use Rattle.night_plan.proofs.Ranking.{after_within, circled, empty_of, grouped_first, last_at}
use Rattle.night_plan.proofs.Ranking.{last_inside, marked_less}
use Rattle.night_plan.proofs.Ranking.{marked_stays, met_first, path_first, path_pop, path_push}
use Rattle.night_plan.proofs.Ranking.{ranked_push, ranks_first, searching_more, some_of}
use Rattle.night_plan.proofs.Rows.{row_at}
use Rattle.night_plan.proofs.ranks.rank_all.Goals as goal

pub loop-first-init : goal.loop-first-init
loop-first-init c =
    let commands = c.args.commands.now in
    let ranks : c.in_ok-ranks.ranks.items ≡ replicate (length commands) 0 =
    c.in_ok-ranks.ensures.items_if_clones_equal (λ y same. same) in
    let met : c.in_ok-met.met.items ≡ replicate (length commands) 0 =
    c.in_ok-met.ensures.items_if_clones_equal (λ y same. same) in
    let places : c.in_ok-places.places.items ≡ replicate (length commands) 0 =
    c.in_ok-places.ensures.items_if_clones_equal (λ y same. same) in
    let order = c.new-order.ensures.items in
    let path = c.new-path.ensures.items in
    let cursors : c.in_ok-cursors.cursors.items ≡ c.in_ok-links.links.last.items =
    c.in_ok-cursors.ensures.items ∙ c.as_slice.ensures.value in
    record {
      search = record {
        groups = grouped_first commands c.in_ok-links.links c.args.groups
            c.in_ok-ranks.ranks.items c.in_ok-cursors.cursors.items c.in_ok-links.ensures
            cursors (ap length ranks ∙ length-replicate (length commands) 0);
        needs = rw met (met_first commands c.in_ok-ranks.ranks.items);
      };
      grouped = ap length cursors ∙ c.in_ok-links.ensures.grouped;
      ranked = rw (ranks, order) (ranks_first commands);
      path = rw (places, path) (path_first commands c.in_ok-ranks.ranks.items);
      empty = path;
      done = λ k never. absurd (omega (arith, never));
    }

pub blocker-requires-clause-is : goal.blocker-requires-clause-is
blocker-requires-clause-is c =
    let full = some_of c.is_empty.result _ c.is_empty.ensures c.walk-test.true in
    let some : 0 < c.len.result = omega (arith, full) in
    let count : c.len.result ≡ length c.walk.path.items = omega arith in
    last_inside c.args.commands.now c.walk.ranks.items c.walk.places.items c.walk.path.items
    c.len.result c.index-c.result.now c.walk.invariant.path some count c.index-c.ensures

pub index_mut-requires-in_default : goal.index_mut-requires-in_default
index_mut-requires-in_default c =
    let full = some_of c.is_empty.result _ c.is_empty.ensures c.walk-test.true in
    let some : 0 < c.len.result = omega (arith, full) in
    let count : c.len.result ≡ length c.walk.path.items = omega arith in
    let sized = c.walk.invariant.search.groups.sized in
    let inside = last_inside c.args.commands.now c.walk.ranks.items c.walk.places.items
    c.walk.path.items c.len.result c.index-c.result.now c.walk.invariant.path some count
    c.index-c.ensures in
    omega (arith, inside, sized)

pub walk-smaller-in_default : goal.walk-smaller-in_default
walk-smaller-in_default c =
    let full = some_of c.is_empty.result _ c.is_empty.ensures c.walk-test.true in
    let some : 0 < c.len.result = omega (arith, full) in
    let count : c.len.result ≡ length c.walk.path.items = omega arith in
    let sized = c.walk.invariant.search.groups.sized in
    let on = c.walk.invariant.path in
    let path = c.walk.path.items in
    let inside = last_inside c.args.commands.now c.walk.ranks.items c.walk.places.items
    path c.len.result c.index-c.result.now on some count c.index-c.ensures in
    let last = last_at path c.len.result c.index-c.result.now some count c.index-c.ensures in
    let none : slice_index c.walk.ranks.items c.index-c.result.now ≡ 0 =
    ap (slice_index c.walk.ranks.items) (sym last)
    ∙ on.none (length path - 1) (omega (arith, some, count)) in
    let less = marked_less c.walk.ranks.items c.index-c.result.now c.len-in_default-2.result none
    (omega (arith, inside, sized))
    (omega (arith, c.len-in_default-2.ensures, c.in_ok-push-2.ensures.len)) in
    omega (arith, less)

pub walk-preserved-in_default : goal.walk-preserved-in_default
walk-preserved-in_default c =
    let commands = c.args.commands.now in
    let ranks = c.walk.ranks.items in
    let order = c.walk.order.items in
    let path = c.walk.path.items in
    let k = c.index-c.result.now in
    let rank = c.len-in_default-2.result in
    let inv = c.walk.invariant in
    let full = some_of c.is_empty.result _ c.is_empty.ensures c.walk-test.true in
    let some : 0 < c.len.result = omega (arith, full) in
    let count : c.len.result ≡ length path = omega arith in
    let sized = inv.search.groups.sized in
    let inside = last_inside commands ranks c.walk.places.items path c.len.result k inv.path some
    count c.index-c.ensures in
    let last = last_at path c.len.result k some count c.index-c.ensures in
    let none : slice_index ranks k ≡ 0 = ap (slice_index ranks) (sym last)
    ∙ inv.path.none (length path - 1) (omega (arith, some, count)) in
    let row = row_at commands k inside in
    let here = marked_stays ranks k rank none in
    let one : rank ≡ length order + 1 =
    omega (arith, c.len-in_default-2.ensures, c.in_ok-push-2.ensures.len) in
    let less : c.len-in_default.result - 1 ≡ length path - 1 = omega arith in
    record {
      search = searching_more commands c.in_ok-links.links ranks c.blocker.new.cursors.items
          c.blocker.new.met.items (set ranks k rank)
          (subst (λ (xs : List ℕ). IsSearching commands c.in_ok-links.links xs
          c.blocker.new.cursors.items c.blocker.new.met.items) c.as_slice-in-walk.ensures.value
          c.in_default.ensures.search) (length-set ranks k rank ∙ sized) here;
      grouped = c.in_default.ensures.sized ∙ inv.grouped;
      ranked = ranked_push commands ranks (length order) k row.0 row.1 none
          (omega (arith, inside, sized)) (subst (λ (xs : List ℕ).
          NeedsRanked commands xs k) c.as_slice-in-walk.ensures.value c.in_default.ensures.named
          row.0 row.1) order
          c.push-in_default.new.self.items rank inv.ranked refl one
          c.in_ok-push-2.ensures.items;
      path = subst (IsPath commands (set ranks k rank) c.walk.places.items)
          (ap (λ (n : ℕ). take n path) (sym less) ∙ sym c.truncate.ensures.items)
          (path_pop commands ranks c.walk.places.items path k rank inv.path sized
          (omega (arith, some, count)) last (omega (arith, one)));
      begun = inv.begun;
      done = λ j below. here j (inv.done j below);
    }

pub index-requires-in-walk : goal.index-requires-in-walk
index-requires-in-walk c =
    let sized = c.walk.invariant.path.sized in
    let inside = after_within c.args.groups c.args.commands.now c.requires.within _ _
    c.in-Some.ensures.named.0 in
    omega (arith, inside, sized)

pub index-requires-then-index-gt0-2 : goal.index-requires-then-index-gt0-2
index-requires-then-index-gt0-2 c =
    let sized = c.walk.invariant.path.sized in
    let inside = after_within c.args.groups c.args.commands.now c.requires.within _ _
    c.in-Some.ensures.named.0 in
    omega (arith, inside, sized)

pub overflow_sub-index : goal.overflow_sub-index
overflow_sub-index c =
    let sized = c.walk.invariant.path.sized in
    let inside = after_within c.args.groups c.args.commands.now c.requires.within _ _
    c.in-Some.ensures.named.0 in
    let one = get_or_read c.walk.places.items c.in-Some.d c.index-in-walk.result.now
    (omega (arith, inside, sized)) c.index-in-walk.ensures 0 in
    let two = get_or_read c.walk.places.items c.in-Some.d c.index-then-index-gt0-2.result.now
    (omega (arith, inside, sized)) c.index-then-index-gt0-2.ensures 0 in
    omega (arith, one, two, c.if-index-gt0-2.true)

pub from_place-requires : goal.from_place-requires
from_place-requires c =
    let commands = c.args.commands.now in
    let places = c.walk.places.items in
    let d = c.in-Some.d in
    let sized = c.walk.invariant.path.sized in
    let inside = after_within c.args.groups commands c.requires.within _ _
    c.in-Some.ensures.named.0 in
    let one = get_or_read places d c.index-in-walk.result.now (omega (arith, inside, sized))
    c.index-in-walk.ensures 0 in
    let two = get_or_read places d c.index-then-index-gt0-2.result.now
    (omega (arith, inside, sized)) c.index-then-index-gt0-2.ensures 0 in
    let none : slice_index c.walk.ranks.items d ≡ 0 =
    ap (λ (xs : List ℕ). slice_index xs d) (sym c.as_slice-in-walk.ensures.value)
    ∙ c.in-Some.ensures.named.1 in
    let bound = (c.walk.invariant.path.on d (omega (arith, one, c.if-index-gt0-2.true)) none).0 in
    let len = ap length c.as_slice-then-index-gt0-2.ensures.value in
    omega (arith, two, bound, len)

pub returns-then-index-gt0-2 : goal.returns-then-index-gt0-2
returns-then-index-gt0-2 c =
    let commands = c.args.commands.now in
    let places = c.walk.places.items in
    let path = c.walk.path.items in
    let d = c.in-Some.d in
    let inv = c.walk.invariant in
    let sized = inv.path.sized in
    let full = some_of c.is_empty.result _ c.is_empty.ensures c.walk-test.true in
    let some : 0 < c.len.result = omega (arith, full) in
    let count : c.len.result ≡ length path = omega arith in
    let last = last_at path c.len.result c.index-c.result.now some count c.index-c.ensures in
    let inside = after_within c.args.groups commands c.requires.within _ _
    c.in-Some.ensures.named.0 in
    let one = get_or_read places d c.index-in-walk.result.now (omega (arith, inside, sized))
    c.index-in-walk.ensures 0 in
    let two : c.index-then-index-gt0-2.result.now ≡ slice_index places d =
    get_or_read places d c.index-then-index-gt0-2.result.now
    (omega (arith, inside, sized)) c.index-then-index-gt0-2.ensures 0 in
    let none : slice_index c.walk.ranks.items d ≡ 0 =
    ap (λ (xs : List ℕ). slice_index xs d) (sym c.as_slice-in-walk.ensures.value)
    ∙ c.in-Some.ensures.named.1 in
    let marked : 0 < slice_index places d = omega (arith, one, c.if-index-gt0-2.true) in
    let on = inv.path.on d marked none in
    let bound = on.0 in
    let whole : IsCircle commands (drop (slice_index places d - 1) path) =
    circled commands path d inv.path.walk
    (λ more. subst (λ k. FirstAfter commands k d) (sym last) c.in-Some.ensures.named.0)
    (slice_index places d - 1) (omega (arith, marked, bound)) on.1
    (omega (arith, some, count)) in
    subst (IsCircle commands)
    (sym (c.in_ok-circle.ensures
    ∙ ap (drop (c.index-then-index-gt0-2.result.now - 1))
    c.as_slice-then-index-gt0-2.ensures.value
    ∙ ap (λ (k : ℕ). drop (k - 1) path) two)) whole

pub index_mut-requires-in-walk : goal.index_mut-requires-in-walk
index_mut-requires-in-walk c =
    let sized = c.walk.invariant.path.sized in
    let inside = after_within c.args.groups c.args.commands.now c.requires.within _ _
    c.in-Some.ensures.named.0 in
    omega (arith, inside, sized)

pub walk-smaller : goal.walk-smaller
walk-smaller c =
    let places = c.walk.places.items in
    let d = c.in-Some.d in
    let sized = c.walk.invariant.path.sized in
    let inside = after_within c.args.groups c.args.commands.now c.requires.within _ _
    c.in-Some.ensures.named.0 in
    let one = get_or_read places d c.index-in-walk.result.now (omega (arith, inside, sized))
    c.index-in-walk.ensures 0 in
    let less = marked_less places d c.len-in-walk.result
    (omega (arith, one, c.if-index-gt0-2.false)) (omega (arith, inside, sized))
    (omega (arith, c.len-in-walk.ensures, c.in_ok-push-3.ensures.len)) in
    omega (arith, less)

pub walk-preserved : goal.walk-preserved
walk-preserved c =
    let commands = c.args.commands.now in
    let ranks = c.walk.ranks.items in
    let places = c.walk.places.items in
    let path = c.walk.path.items in
    let d = c.in-Some.d in
    let inv = c.walk.invariant in
    let sized = inv.path.sized in
    let full = some_of c.is_empty.result _ c.is_empty.ensures c.walk-test.true in
    let some : 0 < c.len.result = omega (arith, full) in
    let count : c.len.result ≡ length path = omega arith in
    let last = last_at path c.len.result c.index-c.result.now some count c.index-c.ensures in
    let inside = after_within c.args.groups commands c.requires.within _ _
    c.in-Some.ensures.named.0 in
    let one = get_or_read places d c.index-in-walk.result.now (omega (arith, inside, sized))
    c.index-in-walk.ensures 0 in
    let none : slice_index ranks d ≡ 0 =
    ap (λ (xs : List ℕ). slice_index xs d) (sym c.as_slice-in-walk.ensures.value)
    ∙ c.in-Some.ensures.named.1 in
    let unplaced : slice_index places d ≡ 0 = omega (arith, one, c.if-index-gt0-2.false) in
    let place : length path + 1 ≡ c.len-in-walk.result =
    omega (arith, c.len-in-walk.ensures, c.in_ok-push-3.ensures.len) in
    record {
      search = subst (λ (xs : List ℕ). IsSearching commands c.in_ok-links.links xs
          c.blocker.new.cursors.items c.blocker.new.met.items) c.as_slice-in-walk.ensures.value
          c.in-Some.ensures.search;
      grouped = c.in-Some.ensures.sized ∙ inv.grouped;
      ranked = inv.ranked;
      path = subst (λ (xs : List ℕ). IsPath commands ranks (set places d c.len-in-walk.result) xs)
          (sym c.in_ok-push-3.ensures.items)
          (subst (λ k. IsPath commands ranks (set places d k) (path ++ d ∷ [])) place
          (path_push commands path d inv.path.walk
          (λ more. subst (λ k. FirstAfter commands k d) (sym last) c.in-Some.ensures.named.0)
          ranks places inv.path inside none unplaced));
      begun = marked_stays places d c.len-in-walk.result unplaced c.loop-first.first inv.begun;
      done = inv.done;
    }

pub loop-first-preserved : goal.loop-first-preserved
loop-first-preserved c =
    let inv = c.walk.invariant in
    let zero_long : length c.walk.path.items ≡ 0 = search rules in
    let empty = empty_of c.walk.path.items zero_long in
    record {
      search = inv.search;
      grouped = inv.grouped;
      ranked = inv.ranked;
      path = inv.path;
      empty = empty;
      done = λ k below. elim (cases_eq k c.loop-first.first) [
        | inl same ↦ elim (cases_eq (slice_index c.walk.ranks.items k) 0) [
          | inl none ↦
              let on = (inv.path.on k
              (subst (λ (j : ℕ). 0 < slice_index c.walk.places.items j) (sym same) inv.begun)
              none).0 in
              let marked = subst (λ (j : ℕ). 0 < slice_index c.walk.places.items j) (sym same)
              inv.begun in
              let len = ap length empty in
              absurd (omega (arith, on, marked, len))
          | inr some ↦ omega (arith, some)
        ]
        | inr apart ↦ inv.done k (omega (arith, below, apart))
      ];
    }
