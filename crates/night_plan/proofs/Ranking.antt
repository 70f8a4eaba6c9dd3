-- One more rank, and a walk to commands without one.
use Rattle.std.proofs.Common.{◌≡◌, ◌≢◌, ◌<◌, ◌+◌, ◌==◌, ◌∙◌, inl, inr, ℕ, Bool}
use Rattle.std.proofs.Common.{cond, List, [], ◌∷◌, Some, slice_get, set, length, ap}
use Rattle.std.proofs.Common.{sym, subst, arith, ◌-◌, ◌++◌, ◌≤◌, drop, take, length-append}
use Rattle.std.proofs.Common.{length-drop}
use Rattle.std.proofs.lemmas.Bool.{cases_eq, cases_lt, eq-eqb, ne_eqb}
use Rattle.std.proofs.lemmas.List.{get_or-set_other, get_or-set_same, length-set}
use Rattle.std.proofs.lemmas.List.{get_or_append_left, get_or_push, get_or-drop, get_or-take}
use Rattle.std.proofs.lemmas.List.{length-take-le, get_or_read, get_or-replicate, get_or_past}
use Rattle.std.proofs.lemmas.List.{length-replicate}
use Rattle.std.proofs.Common.{refl, replicate}
use Rattle.std.specs.List.{AllWithin}
use Rattle.std.proofs.lemmas.List.Elements.{All-contains}
use Rattle.std.proofs.lemmas.List.Sums.{sum_by-set}
use Rattle.std.proofs.lemmas.Option.{same_Some}
use Rattle.std.specs.Prelude.{All, Contains, max, nat_lt, slice_index, slice_index_or}
use Rattle.std.proofs.Common.{true, false}
use Rattle.std.proofs.lemmas.Bool.{and_from, and_parts, eqb-true, false≢true, lt-ltb}
use Rattle.std.proofs.lemmas.Bool.{ltb-true}
use Rattle.std.proofs.lemmas.Option.{get_or_from_slice_get, slice_get_within}
use Rattle.night_plan.specs.declared.commands.Subject.{Subject}
use Rattle.night_plan.specs.declared.commands.Subject.TheVariants as subject
use Rattle.night_plan.specs.declared.commands.Need.{Need}
use Rattle.night_plan.specs.Plans.{horizon, is_of, is_within, names}
use Rattle.night_plan.proofs.Rows.{get_push_last, get_push_old, of_there}
use Rattle.night_plan.specs.declared.commands.Command.{Command}
use Rattle.night_plan.specs.Ranks.{FirstAfter}
use Rattle.night_plan.specs.declared.links.Links.{Links}
use Rattle.night_plan.specs.Ranks.{touches, HasRanks, AreRanks, unranked, IsWalk, IsCircle}
use Rattle.night_plan.specs.Links.{AreLinks, IsLastBelow}
use Rattle.night_plan.specs.Ranks.{AreMet, IsGrouped, IsPath, IsSearching}

pub touched : (commands : List Command) (o : Subject) (below d : ℕ)
    → names commands below o d ≡ true → touches commands o d ≡ true
touched commands (subject.Command e) below d named = named
touched commands (subject.Group g) below d named =
    (and_parts (nat_lt d below) (is_of commands g d) named).1

pub named_from : (commands : List Command) (o : Subject) (c d : ℕ) → touches commands o d ≡ true
    → names commands (horizon (length commands) c) o d ≡ true
named_from commands (subject.Command e) c d touch = touch
named_from commands (subject.Group g) c d touch =
    let there = of_there commands g d touch in
    let below = slice_get_within commands d there.0 there.1 in
    and_from (nat_lt d (max (length commands) c)) (is_of commands g d)
    (lt-ltb d (max (length commands) c) (omega (arith, below))) touch

-- What a command comes after has a rank, if each need of it names ranked ones.
pub needs_ranked : (commands : List Command) (ranks : List ℕ) (c d : ℕ) (command : Command)
    → slice_get commands c ≡ Some command → All (HasRanks commands ranks) command.needs.items
    → FirstAfter commands c d → 0 < slice_index ranks d
needs_ranked commands ranks c d command is all comes =
    let same : comes.has.command ≡ command = same_Some _ _ (sym comes.has.is ∙ is) in
    All-contains (HasRanks commands ranks) command.needs.items comes.need all
    (subst (λ (x : Command). Contains x.needs.items comes.need) same comes.has.listed) d
    (touched commands comes.need.of (horizon (length commands) c) d comes.named)

module _ (commands : List Command) (ranks : List ℕ) (most c : ℕ) (command : Command)
    (is : slice_get commands c ≡ Some command) (none : slice_index ranks c ≡ 0)
    (within : c < length ranks) (all : All (HasRanks commands ranks) command.needs.items) where
  pub own_rank : slice_index (set ranks c (most + 1)) c ≡ most + 1
  own_rank = get_or-set_same ranks c (most + 1) 0 within

  pub other_rank : (e : ℕ) → e ≢ c → slice_index (set ranks c (most + 1)) e ≡ slice_index ranks e
  other_rank e other = get_or-set_other ranks c e (most + 1) 0 other

  ranked_rank : (e : ℕ) → 0 < slice_index ranks e
      → slice_index (set ranks c (most + 1)) e ≡ slice_index ranks e
  ranked_rank e has =
      other_rank e (λ same. let zero_rank = ap (slice_index ranks) same ∙ none in
      absurd (omega (arith, has, zero_rank)))

  pub ranked_more : (order : List ℕ) → AreRanks commands ranks order most
      → AreRanks commands (set ranks c (most + 1)) (order ++ c ∷ []) (most + 1)
  ranked_more order are = record {
    sized = length-set ranks c (most + 1) ∙ are.sized;
    within = λ e. elim (cases_eq e c) [
      | inl same ↦
          let it = ap (slice_index (set ranks c (most + 1))) same ∙ own_rank in omega (arith, it)
      | inr other ↦
          let it = other_rank e other in let old = are.within e in omega (arith, it, old)
    ];
    some = λ e d has comes.
        let old = before e d has comes in
        let kept = ranked_rank d old in omega (arith, old, kept);
    lower = λ e d has comes.
        let old = before e d has comes in
        let kept = ranked_rank d old in
        elim (cases_eq e c) [
          | inl same ↦
              let it = ap (slice_index (set ranks c (most + 1))) same ∙ own_rank in
              let most_of = are.within d in
              omega (arith, it, most_of, kept)
          | inr other ↦
              let it = other_rank e other in
              let less = are.lower e d (let h = has in omega (arith, it, h)) comes in
              omega (arith, it, less, kept)
        ];
    listed = let len = length-append order (c ∷ []) in let old = are.listed in
        omega (arith, len, old);
    placed = λ e has. elim (cases_eq e c) [
      | inl same ↦
          let it = ap (slice_index (set ranks c (most + 1))) same ∙ own_rank in
          let old = are.listed in
          let last : slice_index (set ranks c (most + 1)) e - 1 ≡ length order =
          omega (arith, it, old) in
          ap (slice_get (order ++ c ∷ [])) last ∙ get_push_last order c ∙ ap Some (sym same)
      | inr other ↦
          let it = other_rank e other in
          let some : 0 < slice_index ranks e = (let h = has in omega (arith, it, h)) in
          let most_of = are.within e in
          let old = are.listed in
          let index : slice_index (set ranks c (most + 1)) e - 1 ≡ slice_index ranks e - 1 =
          omega (arith, it) in
          ap (slice_get (order ++ c ∷ [])) index
          ∙ get_push_old order (c ∷ []) (slice_index ranks e - 1)
          (omega (arith, some, most_of, old))
          ∙ are.placed e some
    ];
    at = λ p e is_e. elim (cases_lt p (length order)) [
      | inl inside ↦
          let old = are.at p e (sym (get_push_old order (c ∷ []) p inside) ∙ is_e) in
          let other : e ≢ c = (λ same. let zero_rank = ap (slice_index ranks) same ∙ none in
          absurd (omega (arith, old, zero_rank))) in
          other_rank e other ∙ old
      | inr past ↦
          let less = slice_get_within (order ++ c ∷ []) p e is_e in
          let len = length-append order (c ∷ []) in
          let last : p ≡ length order = omega (arith, less, len, past) in
          let same : e ≡ c = same_Some e c
          (sym is_e ∙ ap (slice_get (order ++ c ∷ [])) last ∙ get_push_last order c) in
          let old = are.listed in
          ap (slice_index (set ranks c (most + 1))) same ∙ own_rank ∙ omega (arith, old, last)
    ];
  }
    where
      before : (e d : ℕ) → 0 < slice_index (set ranks c (most + 1)) e → FirstAfter commands e d
          → 0 < slice_index ranks d
      before e d has comes = elim (cases_eq e c) [
        | inl same ↦ needs_ranked commands ranks c d command is all
            (subst (λ k. FirstAfter commands k d) same comes)
        | inr other ↦
            let it = other_rank e other in
            are.some e d (let h = has in omega (arith, it, h)) comes
      ]

  pub ranked_push : (order new : List ℕ) (rank : ℕ) → AreRanks commands ranks order most
      → most ≡ length order → rank ≡ length order + 1 → new ≡ order ++ c ∷ []
      → AreRanks commands (set ranks c rank) new (length new)
  ranked_push order new rank are full one grown =
      let len : length new ≡ most + 1 = (let it = ap length grown in
      let added = length-append order (c ∷ []) in omega (arith, it, added, full)) in
      subst (λ k. AreRanks commands (set ranks c rank) new k) (sym len)
      (subst (λ k. AreRanks commands (set ranks c k) new (most + 1))
      (let e : most + 1 ≡ rank = omega (arith, full, one) in e)
      (subst (λ xs. AreRanks commands (set ranks c (most + 1)) xs (most + 1)) (sym grown)
      (ranked_more order are)))

-- A row that was 0 is so no more.
pub marked_less : (xs : List ℕ) (c y : ℕ) → slice_index xs c ≡ 0 → c < length xs → 0 < y
    → unranked (set xs c y) + 1 ≡ unranked xs
marked_less xs c y none within some =
    let change = sum_by-set (λ rank. cond (rank == 0) 1 0) xs c y 0 within in
    let was : ◌≡◌ {A = ℕ} (cond (slice_index xs c == 0) 1 0) 1 =
    ap (λ (b : Bool). cond {A = ℕ} b 1 0) (eq-eqb _ _ none) in
    let now : ◌≡◌ {A = ℕ} (cond (y == 0) 1 0) 0 =
    ap (λ (b : Bool). cond {A = ℕ} b 1 0) (ne_eqb y 0 (λ e. omega (arith, e, some))) in
    omega (arith, change, was, now)

-- And no other row becomes 0.
pub marked_stays : (xs : List ℕ) (c y : ℕ) → slice_index xs c ≡ 0 → (d : ℕ)
    → 0 < slice_index xs d → 0 < slice_index (set xs c y) d
marked_stays xs c y none d some =
    let other : d ≢ c = (λ same. let zero_row = ap (slice_index xs) same ∙ none in
    absurd (omega (arith, some, zero_row))) in
    let it : slice_index (set xs c y) d ≡ slice_index xs d = get_or-set_other xs c d y 0 other in
    omega (arith, it, some)

-- ---- before any rank is given

pub zero_at : (n k : ℕ) → slice_index (replicate n 0) k ≡ 0
zero_at n k = elim (cases_lt k n) [
  | inl below ↦ get_or-replicate n k 0 0 below
  | inr past ↦ get_or_past (replicate n 0) k 0 (rw length-replicate past)
]

pub grouped_first : (commands : List Command) (all : Links) (groups : ℕ)
    (ranks cursors : List ℕ)
    → AreLinks commands groups (length commands) all.before.items all.last.items
    → cursors ≡ all.last.items → length ranks ≡ length commands
    → IsGrouped commands all ranks cursors
grouped_first commands all groups ranks cursors links same sized =
    let count : groups ≡ length cursors = sym (ap length same ∙ links.grouped) in
    let here = subst (λ k. AreLinks commands k (length commands) all.before.items all.last.items)
    count links in
    record {
      sized = sized;
      links = here;
      from = λ g within.
          let it = subst (λ (xs : List ℕ). IsLastBelow commands g (length commands)
          (slice_index xs g)) (sym same) (here.ends g within) in
          record {
            of = it.of;
            ranked = λ d of above.
                let there = of_there commands g d of in
                let less = it.last d of (slice_get_within commands d there.0 there.1) in
                absurd (omega (arith, less, above));
          };
    }

pub met_first : (commands : List Command) (ranks : List ℕ)
    → AreMet commands ranks (replicate (length commands) 0)
met_first commands ranks = record {
  sized = length-replicate (length commands) 0;
  bounded = λ c command is. let none = zero_at (length commands) c in omega (arith, none);
  each = λ c command is k need low high.
      let none = zero_at (length commands) c in
      absurd (let h = high in omega (arith, none, h));
}

pub path_first : (commands : List Command) (ranks : List ℕ)
    → IsPath commands ranks (replicate (length commands) 0) []
path_first commands ranks = record {
  sized = length-replicate (length commands) 0;
  inside = λ k less. absurd (omega (arith, less));
  none = λ k less. absurd (omega (arith, less));
  placed = λ k less. absurd (omega (arith, less));
  on = λ d some free.
      let none = zero_at (length commands) d in
      absurd (let h = some in omega (arith, none, h));
  walk = λ k less. absurd (omega (arith, less));
}

pub ranks_first : (commands : List Command)
    → AreRanks commands (replicate (length commands) 0) [] 0
ranks_first commands = record {
  sized = length-replicate (length commands) 0;
  within = λ c. let none = zero_at (length commands) c in omega (arith, none);
  some = λ c d has comes.
      let none = zero_at (length commands) c in absurd (let h = has in omega (arith, none, h));
  lower = λ c d has comes.
      let none = zero_at (length commands) c in absurd (let h = has in omega (arith, none, h));
  listed = refl;
  placed = λ c has.
      let none = zero_at (length commands) c in absurd (let h = has in omega (arith, none, h));
  at = λ p c is. absurd (none_in p c is);
}
  where
    none_in : (p c : ℕ) → slice_get [] p ≡ Some c → ⊥
    none_in p c is = let less = slice_get_within [] p c is in omega (arith, less)

-- ---- what is known, once there are more ranks

pub searching_more : (commands : List Command) (all : Links) (ranks cursors met : List ℕ)
    (more : List ℕ) → IsSearching commands all ranks cursors met → length more ≡ length commands
    → ((d : ℕ) → 0 < slice_index ranks d → 0 < slice_index more d)
    → IsSearching commands all more cursors met
searching_more commands all ranks cursors met more search sized keep = record {
  groups = record {
    sized = sized;
    links = search.groups.links;
    from = λ g within.
        let old = search.groups.from g within in
        record { of = old.of; ranked = λ d of below. keep d (old.ranked d of below) };
  };
  needs = record {
    sized = search.needs.sized;
    bounded = search.needs.bounded;
    each = λ c command is k need low high d touch.
        keep d (search.needs.each c command is k need low high d touch);
  };
}

pub met_more : (commands : List Command) (ranks met : List ℕ) (c k : ℕ) (command : Command)
    → slice_get commands c ≡ Some command → k ≤ length command.needs.items
    → AllWithin (HasRanks commands ranks) command.needs.items 0 k
    → AreMet commands ranks met → AreMet commands ranks (set met c k)
met_more commands ranks met c k command is bound upto old =
    let within = slice_get_within commands c command is in
    let sized = old.sized in
    let here : slice_index (set met c k) c ≡ k =
    get_or-set_same met c k 0 (omega (arith, within, sized)) in
    record {
      sized = length-set met c k ∙ old.sized;
      bounded = λ e other there. elim (cases_eq e c) [
        | inl same ↦
            let it = ap (slice_index (set met c k)) same ∙ here in
            let equal : command ≡ other = same_Some command other
            (sym is ∙ ap (slice_get commands) (sym same) ∙ there) in
            subst (λ (x : Command). slice_index (set met c k) e ≤ length x.needs.items) equal
            (omega (arith, it, bound))
        | inr apart ↦
            let it : slice_index (set met c k) e ≡ slice_index met e =
            get_or-set_other met c e k 0 apart in
            let b = old.bounded e other there in omega (arith, it, b)
      ];
      each = λ e other there. elim (cases_eq e c) [
        | inl same ↦
            let it = ap (slice_index (set met c k)) same ∙ here in
            let equal : command ≡ other = same_Some command other
            (sym is ∙ ap (slice_get commands) (sym same) ∙ there) in
            subst (λ (x : Command). AllWithin (HasRanks commands ranks) x.needs.items 0
            (slice_index (set met c k) e)) equal
            (subst (AllWithin (HasRanks commands ranks) command.needs.items 0) (sym it) upto)
        | inr apart ↦
            let it : slice_index (set met c k) e ≡ slice_index met e =
            get_or-set_other met c e k 0 apart in
            subst (AllWithin (HasRanks commands ranks) other.needs.items 0) (sym it)
            (old.each e other there)
      ];
    }

-- What a command comes after is there.
pub after_within : (groups : ℕ) (commands : List Command)
    → All (λ command. All (λ need. is_within groups (length commands) need.of ≡ true)
    command.needs.items) commands
    → (c d : ℕ) → FirstAfter commands c d → d < length commands
after_within groups commands all c d after =
    go after.need.of
    (touched commands after.need.of (horizon (length commands) c) d after.named)
    (All-contains (λ (need : Need). is_within groups (length commands) need.of ≡ true)
    after.has.command.needs.items after.need
    (All-contains (λ (x : Command). All
    (λ (need : Need). is_within groups (length commands) need.of ≡ true) x.needs.items)
    commands after.has.command all (
      c,
      slice_get_within commands c after.has.command after.has.is,
      get_or_from_slice_get commands c after.has.command after.has.command after.has.is,
    )) after.has.listed)
  where
    go : (o : Subject) → touches commands o d ≡ true
        → is_within groups (length commands) o ≡ true → d < length commands
    go (subject.Command e) named within =
        let same : e ≡ d = eqb-true e d named in
        let below = ltb-true e (length commands) within in
        omega (arith, same, below)
    go (subject.Group g) named within =
        let it = of_there commands g d named in slice_get_within commands d it.0 it.1

-- ---- a walk

module _ (commands : List Command) (path : List ℕ) (next : ℕ)
    (walk : IsWalk commands path)
    (comes : 0 < length path → FirstAfter commands (slice_index path (length path - 1)) next) where
  longer : length (path ++ next ∷ []) ≡ length path + 1
  longer = length-append path (next ∷ [])

  old_at : (k : ℕ) → k < length path → slice_index (path ++ next ∷ []) k ≡ slice_index path k
  old_at k within = get_or_append_left path (next ∷ []) 0 k within

  new_at : (k : ℕ) → length path ≡ k → slice_index (path ++ next ∷ []) k ≡ next
  new_at k is = get_or_push path next 0 k is

  pub walk_push : IsWalk commands (path ++ next ∷ [])
  walk_push k within = elim (cases_lt (k + 1) (length path)) [
    | inl inside ↦
        subst (λ x. FirstAfter commands x (slice_index (path ++ next ∷ []) (k + 1)))
        (sym (old_at k (omega (arith, inside))))
        (subst (FirstAfter commands (slice_index path k)) (sym (old_at (k + 1) inside))
        (walk k inside))
    | inr past ↦
        let len = longer in
        let last : length path ≡ k + 1 = (let h = within in omega (arith, len, past, h)) in
        let before : k ≡ length path - 1 = omega (arith, last) in
        subst (λ x. FirstAfter commands x (slice_index (path ++ next ∷ []) (k + 1)))
        (sym (old_at k (omega (arith, last)) ∙ ap (slice_index path) before))
        (subst (FirstAfter commands (slice_index path (length path - 1)))
        (sym (new_at (k + 1) last))
        (comes (omega (arith, last))))
  ]

  pub path_push : (ranks places : List ℕ) → IsPath commands ranks places path
      → next < length commands → slice_index ranks next ≡ 0 → slice_index places next ≡ 0
      → IsPath commands ranks (set places next (length path + 1)) (path ++ next ∷ [])
  path_push ranks places on within none unplaced =
      let len = longer in
      let sized = on.sized in
      let here : slice_index (set places next (length path + 1)) next ≡ length path + 1 =
      get_or-set_same places next (length path + 1) 0 (omega (arith, within, sized)) in
      record {
        sized = length-set places next (length path + 1) ∙ on.sized;
        inside = λ k less. each k less (λ d. d < length commands) on.inside within;
        none = λ k less. each k less (λ d. slice_index ranks d ≡ 0) on.none none;
        placed = λ k less. elim (cases_lt k (length path)) [
          | inl inside ↦
              let it = old_at k inside in
              let place = on.placed k inside in
              let other : slice_index path k ≢ next = (λ same.
              let zero_place = ap (slice_index places) same ∙ unplaced in
              absurd (omega (arith, place, zero_place))) in
              ap (slice_index (set places next (length path + 1))) it
              ∙ get_or-set_other places next (slice_index path k) (length path + 1) 0 other
              ∙ place
          | inr past ↦
              let last : length path ≡ k = (let h = less in omega (arith, h, len, past)) in
              ap (slice_index (set places next (length path + 1))) (new_at k last)
              ∙ here ∙ ap (λ (x : ℕ). x + 1) last
        ];
        on = λ d some free. elim (cases_eq d next) [
          | inl same ↦
              let place = ap (slice_index (set places next (length path + 1))) same ∙ here in
              let index : length path ≡ slice_index (set places next (length path + 1)) d - 1 =
              omega (arith, place) in
              (omega (arith, place, len), new_at _ index ∙ sym same)
          | inr other ↦
              let place : slice_index (set places next (length path + 1)) d
              ≡ slice_index places d =
              get_or-set_other places next d (length path + 1) 0 other in
              let has : 0 < slice_index places d = (let h = some in omega (arith, place, h)) in
              let old = on.on d has free in
              let bound = old.0 in
              let inside : slice_index places d - 1 < length path = omega (arith, has, bound) in (
                omega (arith, place, bound, len),
                ap (λ (k : ℕ). slice_index (path ++ next ∷ []) (k - 1)) place
                    ∙ old_at (slice_index places d - 1) inside ∙ old.1,
              )
        ];
        walk = walk_push;
      }
    where
      each : (k : ℕ) → k < length (path ++ next ∷ []) → (P : ℕ → Type 0)
          → ((i : ℕ) → i < length path → P (slice_index path i)) → P next
          → P (slice_index (path ++ next ∷ []) k)
      each k less P old new = elim (cases_lt k (length path)) [
        | inl inside ↦ subst P (sym (old_at k inside)) (old k inside)
        | inr past ↦
            let len = longer in
            let last : length path ≡ k = (let h = less in omega (arith, h, len, past)) in
            subst P (sym (new_at k last)) new
      ]

  -- The walk meets itself at a place.
  pub circled : (at : ℕ) → at < length path → slice_index path at ≡ next → 0 < length path
      → IsCircle commands (drop at path)
  circled at bound is some =
      let len = length-drop at path in
      record {
        some = omega (arith, len, bound);
        walk = λ k within.
            let more : at + k + 1 < length path = (let h = within in omega (arith, len, h)) in
            let one : at + k + 1 ≡ at + (k + 1) = omega arith in
            subst (λ x. FirstAfter commands x (slice_index (drop at path) (k + 1)))
            (sym (at_drop k))
            (subst (FirstAfter commands (slice_index path (at + k)))
            (ap (slice_index path) one ∙ sym (at_drop (k + 1))) (walk (at + k) more));
        back =
            let first : slice_index (drop at path) 0 ≡ next =
            at_drop 0 ∙ ap (slice_index path) (let e : at + 0 ≡ at = omega arith in e) ∙ is in
            let last : at + (length (drop at path) - 1) ≡ length path - 1 =
            omega (arith, len, bound) in
            subst (λ x. FirstAfter commands x (slice_index (drop at path) 0))
            (sym (at_drop (length (drop at path) - 1) ∙ ap (slice_index path) last))
            (subst (FirstAfter commands (slice_index path (length path - 1))) (sym first)
            (comes some));
      }
    where
      at_drop : (k : ℕ) → slice_index (drop at path) k ≡ slice_index path (at + k)
      at_drop k = get_or-drop at path k 0

pub empty_of : (xs : List ℕ) → length xs ≡ 0 → xs ≡ []
empty_of [] none = refl
empty_of (x ∷ xs) none = absurd (omega (arith, none))

pub some_of : (b : Bool) (n : ℕ) → b ≡ (n == 0) → b ≡ false → 0 < n
some_of b n is none = elim (cases_eq n 0) [
  | inl same ↦ absurd (false≢true (sym none ∙ is ∙ eq-eqb n 0 same))
  | inr other ↦ omega (arith, other)
]

-- The last command of a path.
pub last_at : (path : List ℕ) (n c : ℕ) → 0 < n → n ≡ length path
    → c ≡ slice_index_or path (n - 1) c → slice_index path (length path - 1) ≡ c
last_at path n c some same read =
    ap (λ k. slice_index path (k - 1)) (sym same)
    ∙ sym (get_or_read path (n - 1) c (omega (arith, some, same)) read 0)

pub last_inside : (commands : List Command) (ranks places path : List ℕ) (n c : ℕ)
    → IsPath commands ranks places path → 0 < n → n ≡ length path
    → c ≡ slice_index_or path (n - 1) c → c < length commands
last_inside commands ranks places path n c on some same read =
    subst (λ k. k < length commands) (last_at path n c some same read)
    (on.inside (length path - 1) (omega (arith, some, same)))

-- The last command of a path is given a rank.
pub path_pop : (commands : List Command) (ranks places path : List ℕ) (c rank : ℕ)
    → IsPath commands ranks places path → length ranks ≡ length commands → 0 < length path
    → slice_index path (length path - 1) ≡ c → 0 < rank
    → IsPath commands (set ranks c rank) places (take (length path - 1) path)
path_pop commands ranks places path c rank on sized some is has =
    let len : length (take (length path - 1) path) ≡ length path - 1 =
    length-take-le (length path - 1) path (omega arith) in
    let within : c < length ranks = (let inside = on.inside (length path - 1)
    (omega (arith, some)) in omega (arith, inside, is, sized)) in
    let place : slice_index places c ≡ length path =
    (let it = ap (slice_index places) (sym is) ∙ on.placed (length path - 1)
    (omega (arith, some)) in omega (arith, it, some)) in
    let old_at = λ (k : ℕ) (less : k < length path - 1).
    get_or-take (length path - 1) path k 0 less in
    record {
      sized = on.sized;
      inside = λ k less.
          let below : k < length path - 1 = (let h = less in omega (arith, h, len)) in
          subst (λ d. d < length commands) (sym (old_at k below))
          (on.inside k (omega (arith, below)));
      none = λ k less.
          let below : k < length path - 1 = (let h = less in omega (arith, h, len)) in
          let apart : slice_index path k ≢ c = (λ same.
          let one = on.placed k (omega (arith, below)) in
          let two = ap (slice_index places) same in
          absurd (omega (arith, one, two, place, below))) in
          ap (slice_index (set ranks c rank)) (old_at k below)
          ∙ get_or-set_other ranks c (slice_index path k) rank 0 apart
          ∙ on.none k (omega (arith, below));
      placed = λ k less.
          let below : k < length path - 1 = (let h = less in omega (arith, h, len)) in
          ap (slice_index places) (old_at k below) ∙ on.placed k (omega (arith, below));
      on = λ d marked free. elim (cases_eq d c) [
        | inl same ↦
            let own = ap (slice_index (set ranks c rank)) same
            ∙ get_or-set_same ranks c rank 0 within in
            absurd (let h = free in omega (arith, own, h, has))
        | inr apart ↦
            let it : slice_index (set ranks c rank) d ≡ slice_index ranks d =
            get_or-set_other ranks c d rank 0 apart in
            let old = on.on d marked (let h = free in omega (arith, it, h)) in
            let bound = old.0 in
            let less : slice_index places d < length path = elim
            (cases_eq (slice_index places d) (length path)) [
              | inl full ↦ absurd (apart (sym old.1
                  ∙ ap (λ (k : ℕ). slice_index path (k - 1)) full ∙ is))
              | inr other ↦ omega (arith, bound, other)
            ] in (
              omega (arith, less, len),
              old_at (slice_index places d - 1) (let h = marked in omega (arith, less, h)) ∙ old.1,
            )
      ];
      walk = λ k less.
          let below : k + 1 < length path - 1 = (let h = less in omega (arith, h, len)) in
          subst (λ x. FirstAfter commands x (slice_index (take (length path - 1) path) (k + 1)))
          (sym (old_at k (omega (arith, below))))
          (subst (FirstAfter commands (slice_index path k)) (sym (old_at (k + 1) below))
          (on.walk k (omega (arith, below))));
    }
