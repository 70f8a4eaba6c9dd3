-- A choice from the queue of ready commands, and that a night goes on.
use Rattle.std.proofs.Common.{◌≡◌, ◌<◌, ◌≤◌, ◌+◌, ◌-◌, ◌==◌, ◌⊎◌, ◌∙◌, inl, inr, ℕ, suc, zero}
use Rattle.std.proofs.Common.{Bool}
use Rattle.std.proofs.Common.{true, cond, List, [], ◌∷◌, Option, Some, None, length}
use Rattle.std.proofs.Common.{nat_lt, ◌&&◌}
use Rattle.std.proofs.Common.{refl, ap, sym, subst, arith, slice_get, slice_index, get_or, add-one}
use Rattle.std.proofs.lemmas.Bool.{and_parts, both_ways, cases_eq, cases_lt, leb-false}
use Rattle.std.proofs.lemmas.Bool.{leb-true, ltb-true, cases_Bool, eqb-true}
use Rattle.std.proofs.lemmas.List.Elements.{All-contains, All-from_recursion, All-weaker}
use Rattle.std.proofs.lemmas.Option.{none-some, same_Some, slice_get-get_or, slice_get_within}
use Rattle.std.specs.Prelude.{All, Contains, MatchOption, max, min, nat_le}
use Rattle.std.proofs.lemmas.List.{get_or_default}
use Rattle.std.specs.List.{AllByRecursion}
use Rattle.std.proofs.lemmas.List.Sums.{sum_by-cons}
use Rattle.std.specs.Option.{option_map_or, option_and_then}
use Rattle.night_plan.specs.declared.choices.Choice.{Choice}
use Rattle.night_plan.specs.declared.commands.Command.{Command}
use Rattle.night_plan.specs.declared.commands.Take.{Take}
use Rattle.night_plan.specs.declared.facts.Known.{Known}
use Rattle.night_plan.specs.declared.facts.Phase.{Phase}
use Rattle.night_plan.specs.declared.facts.Phase.TheVariants as phase
use Rattle.night_plan.specs.declared.standings.Standing.{Standing}
use Rattle.night_plan.specs.declared.standings.Standing.TheVariants as standing
use Rattle.night_plan.specs.declared.commands.Subject.{Subject}
use Rattle.night_plan.specs.declared.commands.Subject.TheVariants as subject
use Rattle.night_plan.specs.Plans.{is_of, is_within, names, ComesAfter, IsSound}
use Rattle.night_plan.specs.Nights.{Night, is_busy, runs, waits, until, delay, MayBegin, IsReady}
use Rattle.night_plan.specs.Nights.{IsWaiting}
use Rattle.night_plan.specs.Nights.{IsFinal}
use Rattle.night_plan.specs.Standings.{Stands, is_final}
use Rattle.night_plan.specs.Choices.{takes_of, takes_at, sum_below, IsFull, IsChosen}
use Rattle.night_plan.specs.Choices.{IsChoice}
use Rattle.night_plan.specs.Choices.{IsLater, IsQuiet, HasCapacity, GoesOn, before}
use Rattle.night_plan.specs.Queues.{IsQueue, IsSoonestOf, IsUnderway, with_wait}
use Rattle.night_plan.proofs.Rows.{all_from_contains, at_is, of_there, row_at, waits_at}
use Rattle.night_plan.proofs.Final.{final_from, idle_parts, may_not_final}

-- ---- which standing a ready command has

may_final : (n : Night) (now c : ℕ) (s : Standing) → Stands n now c s → is_final s ≡ true
    → MayBegin n c → ⊥
may_final n now c s stands final may = may_not_final n c may (final_from n now c s stands final)

pub ready_is : (n : Night) (now c : ℕ) (s : Standing) → Stands n now c s → IsReady n now c
    → s ≡ standing.Ready
ready_is n now c standing.EndedOk stands ready =
    absurd (may_final n now c standing.EndedOk stands refl ready.may)
ready_is n now c standing.Failed stands ready =
    absurd (may_final n now c standing.Failed stands refl ready.may)
ready_is n now c standing.Canceled stands ready =
    absurd (may_final n now c standing.Canceled stands refl ready.may)
ready_is n now c standing.GivenUp stands ready =
    absurd (may_final n now c standing.GivenUp stands refl ready.may)
ready_is n now c standing.Busy stands ready =
    absurd (both_ways (runs n c) (idle_parts n c ready.may.idle).0 stands)
ready_is n now c (standing.Waiting m) stands ready =
    absurd (none-some m (sym ready.due ∙ stands.due))
ready_is n now c standing.Ready stands ready = refl
ready_is n now c standing.Pending stands ready =
    absurd (stands.unmet (ready.may.met stands.need stands.has))

pub waiting_is : (n : Night) (now c m : ℕ) (s : Standing) → Stands n now c s
    → IsWaiting n now c m → s ≡ standing.Waiting m
waiting_is n now c m standing.EndedOk stands wait =
    absurd (may_final n now c standing.EndedOk stands refl wait.may)
waiting_is n now c m standing.Failed stands wait =
    absurd (may_final n now c standing.Failed stands refl wait.may)
waiting_is n now c m standing.Canceled stands wait =
    absurd (may_final n now c standing.Canceled stands refl wait.may)
waiting_is n now c m standing.GivenUp stands wait =
    absurd (may_final n now c standing.GivenUp stands refl wait.may)
waiting_is n now c m standing.Busy stands wait =
    absurd (both_ways (runs n c) (idle_parts n c wait.may.idle).0 stands)
waiting_is n now c m (standing.Waiting k) stands wait =
    ap standing.Waiting (same_Some k m (sym stands.due ∙ wait.due))
waiting_is n now c m standing.Ready stands wait =
    absurd (none-some m (sym stands.due ∙ wait.due))
waiting_is n now c m standing.Pending stands wait =
    absurd (stands.unmet (wait.may.met stands.need stands.has))

-- ---- pools

-- Each pool suffices, or one doesn't.
pub enough_or : (takes : List Take) (left : List ℕ)
    → All (λ row. nat_le (takes_of takes row.pool) (slice_index left row.pool) ≡ true) takes
    → (p : ℕ) → takes_of takes p ≤ slice_index left p
enough_or takes left all p = elim (none_or takes p) [
  | inl none ↦ omega (arith, none)
  | inr some ↦
      let it = All-contains (λ (row : Take). nat_le (takes_of takes row.pool)
      (slice_index left row.pool) ≡ true) takes some.0 all some.1 in
      subst (λ k. takes_of takes k ≤ slice_index left k) some.2
      (leb-true (takes_of takes some.0.pool) (slice_index left some.0.pool) it)
]
  where
    none_or : (rows : List Take) (k : ℕ)
        → (takes_of rows k ≡ 0) ⊎ ((row : Take) × Contains rows row × (row.pool ≡ k))
    none_or [] k = inl refl
    none_or (row ∷ rows) k = elim (cases_Bool (row.pool == k)) [
      | inl here ↦ inr (row, (0, omega arith, refl), eqb-true row.pool k here)
      | inr other ↦ elim (none_or rows k) [
        | inl none ↦ inl (
            let split = sum_by-cons (λ (x : Take). cond (x.pool == k) x.amount 0) row rows in
            let zero_here = ap (λ (b : Bool). cond b row.amount 0) other in
            omega (arith, none, split, zero_here))
        | inr some ↦ inr (some.0, (suc some.1.0, omega (arith, some.1.1), some.1.2), some.2)
      ]
    ]

pub short_of : (takes : List Take) (left : List ℕ)
    → (All (λ row. nat_le (takes_of takes row.pool) (slice_index left row.pool) ≡ true) takes → ⊥)
    → (p : ℕ) × (slice_index left p < takes_of takes p)
short_of takes left none = elim (all_or takes) [
  | inl all ↦ absurd (none (All-from_recursion (λ (row : Take). nat_le (takes_of takes row.pool)
      (slice_index left row.pool) ≡ true) takes all))
  | inr short ↦ short
]
  where
    all_or : (rows : List Take)
        → AllByRecursion (λ (row : Take). nat_le (takes_of takes row.pool)
        (slice_index left row.pool) ≡ true) rows
        ⊎ ((p : ℕ) × (slice_index left p < takes_of takes p))
    all_or [] = inl tt
    all_or (row ∷ rows) =
        elim (cases_Bool (nat_le (takes_of takes row.pool) (slice_index left row.pool))) [
          | inl fits ↦ elim (all_or rows) [
            | inl rest ↦ inl (fits, rest)
            | inr short ↦ inr short
          ]
          | inr short ↦ inr (
            row.pool,
            leb-false (takes_of takes row.pool) (slice_index left row.pool) short,
          )
        ]

-- What a command comes after is a command of the plan.
pub comes_within : (n : Night) (pools : ℕ) (order places : List ℕ)
    → IsSound n.first n.groups pools n.commands order places → (c d : ℕ) → c < length n.commands
    → ComesAfter n.first n.commands c d → d < length n.commands
comes_within n pools order places sound c d below comes =
    go comes.need.of (sound.within c comes.need comes.has) comes.named
  where
    go : (o : Subject) → is_within (length n.groups) (max n.first c) o ≡ true
        → names n.commands (max n.first c) o d ≡ true → d < length n.commands
    go (subject.Command e) within named =
        let less = ltb-true e (max n.first c) within in
        let same = eqb-true e d named in
        let bounded = sound.bounded in
        omega (arith, less, same, bounded, below)
    go (subject.Group g) within named =
        let parts = and_parts (nat_lt d (max n.first c)) (is_of n.commands g d) named in
        let there = of_there n.commands g d parts.1 in
        slice_get_within n.commands d there.0 there.1

-- ---- the choice

module _ (n : Night) (now : ℕ) (all : List Standing) (sized : length all ≡ length n.commands)
    (each : (c : ℕ) (s : Standing) → slice_get all c ≡ Some s → Stands n now c s) where
  pub chosen_from : (sizes queue chosen left : List ℕ) → IsQueue n all queue
      → IsUnderway n sizes queue (length queue) chosen left → IsChosen n now sizes chosen
  chosen_from sizes queue chosen left is under = record {
    ready = All-weaker (Contains queue) (IsReady n now)
        (λ c listed. each c standing.Ready
        (All-contains (λ d. slice_get all d ≡ Some standing.Ready) queue c is.ready listed))
        chosen under.from;
    order = under.order;
    within = under.within;
    first = λ c below ready.
        let row = row_at all c (omega (arith, below, sized)) in
        let stands = ready_is n now c row.0 (each c row.0 row.1) ready in
        let listed = is.every c (row.1 ∙ ap Some stands) in
        let same : slice_index queue listed.0 ≡ c =
        get_listed queue listed.0 c listed.1 listed.2 in
        subst (λ d. Contains chosen d ⊎ IsFull n sizes d (before n d chosen)) same
        (under.first listed.0 listed.1);
  }
    where
      get_listed : (xs : List ℕ) (k x : ℕ) → k < length xs → get_or xs k x ≡ x
          → slice_index xs k ≡ x
      get_listed [] k x never is = absurd (omega (arith, never))
      get_listed (y ∷ xs) zero x within is = is
      get_listed (y ∷ xs) (suc k) x within is = get_listed xs k x (omega (arith, within)) is

  pub later_from : (later : Option ℕ) → IsSoonestOf all (length all) later → IsLater n now later
  later_from None none = λ c m below wait.
      let row = row_at all c (omega (arith, below, sized)) in
      none c m (omega (arith, below, sized))
      (row.1 ∙ ap Some (waiting_is n now c m row.0 (each c row.0 row.1) wait))
  later_from (Some m) is = record {
    command = is.command;
    waits = each is.command (standing.Waiting m) is.waits;
    least = λ c other below wait.
        let row = row_at all c (omega (arith, below, sized)) in
        is.least c other (omega (arith, below, sized))
        (row.1 ∙ ap Some (waiting_is n now c other row.0 (each c row.0 row.1) wait));
  }

  -- ---- it goes on

  quiet_zero : IsQuiet n → (p i : ℕ)
      → sum_below (λ c. cond (runs n c) (takes_at n p c) 0) i ≡ 0
  quiet_zero quiet p zero = refl
  quiet_zero quiet p (suc i) =
      let rest = quiet_zero quiet p i in
      let none = ap (λ (b : Bool). cond b (takes_at n p i) 0) (quiet i) in
      omega (arith, rest, none)

  waits_on : (p : Phase) (command : Command) (failures m : ℕ)
      → until command now failures p ≡ Some m → now < m
  waits_on phase.Fresh command failures m is = absurd (none-some m is)
  waits_on phase.Busy command failures m is = absurd (none-some m is)
  waits_on phase.EndedOk command failures m is = absurd (none-some m is)
  waits_on phase.Interrupted command failures m is = absurd (none-some m is)
  waits_on phase.Canceled command failures m is = absurd (none-some m is)
  waits_on (phase.Failed last) command failures m is =
      elim (cases_Bool (nat_le last now && nat_lt now (last + delay command failures))) [
        | inl some ↦
            let parts = and_parts (nat_le last now) (nat_lt now (last + delay command failures))
            some in
            let less = ltb-true now (last + delay command failures) parts.1 in
            let value = same_Some (last + delay command failures) m
            (sym (ap (λ (b : Bool). cond b (Some (last + delay command failures)) None) some)
            ∙ is) in
            omega (arith, less, value)
        | inr none ↦ absurd (none-some m
            (sym (ap (λ (b : Bool). cond b (Some (last + delay command failures)) None) none)
            ∙ is))
      ]

  waits_later : (c m : ℕ) → waits n now c ≡ Some m → now < m
  waits_later c m is = outer (slice_get n.commands c) refl
    where
      outer : (o : Option Command) → slice_get n.commands c ≡ o → now < m
      outer None none = absurd (none-some m
          (sym (ap (λ (o : Option Command). option_and_then (λ x. option_and_then
          (λ f. until x now f.failures f.phase) (slice_get n.known c)) o) none) ∙ is))
      outer (Some command) some = inner (slice_get n.known c) refl
        where
          inner : (o : Option Known) → slice_get n.known c ≡ o → now < m
          inner None none = absurd (none-some m
              (sym (ap (λ (o : Option Command). option_and_then (λ x. option_and_then
              (λ f. until x now f.failures f.phase) (slice_get n.known c)) o) some
              ∙ ap (λ (o : Option Known). option_and_then
              (λ f. until command now f.failures f.phase) o) none) ∙ is))
          inner (Some fact) known = waits_on fact.phase command fact.failures m
              (sym (waits_at n now c command fact some known) ∙ is)

  module _ (pools : ℕ) (order places sizes : List ℕ)
      (sound : IsSound n.first n.groups pools n.commands order places)
      (quiet : IsQuiet n) (capacity : HasCapacity n sizes) where
    final_all : IsChosen n now sizes [] → IsLater n now None → (k c : ℕ)
        → slice_index places c < k → c < length n.commands → IsFinal n c
    final_all chosen later zero c below within = absurd (omega (arith, below))
    final_all chosen later (suc k) c below within =
        let row = row_at all c (omega (arith, within, sized)) in
        go (final_all chosen later k) row.0 (each c row.0 row.1)
      where
        go : ((d : ℕ) → slice_index places d < k → d < length n.commands → IsFinal n d)
            → (s : Standing) → Stands n now c s → IsFinal n c
        go before standing.EndedOk stands = final_from n now c standing.EndedOk stands refl
        go before standing.Failed stands = final_from n now c standing.Failed stands refl
        go before standing.Canceled stands = final_from n now c standing.Canceled stands refl
        go before standing.GivenUp stands = final_from n now c standing.GivenUp stands refl
        go before standing.Busy stands = absurd (both_ways (runs n c) (quiet c) stands)
        go before (standing.Waiting m) stands = absurd (later c m within stands)
        go before standing.Ready stands = elim (chosen.first c within stands) [
          | inl there ↦ absurd (omega (arith, there.1))
          | inr out ↦
              let none = quiet_zero quiet out.pool (length n.commands) in
              let room = capacity c out.pool in
              let full = out.full in
              absurd (omega (arith, none, room, full))
        ]
        go before standing.Pending stands =
            let after = sound.after c stands.on (record {
              need = stands.need;
              has = stands.has;
              named = stands.named;
            }) in
            let there = comes_within n pools order places sound c stands.on within (record {
              need = stands.need;
              has = stands.has;
              named = stands.named;
            }) in
            absurd (stands.open_yet (before stands.on
            (omega (arith, below, after)) there))

    pub goes_on : (choice : Choice) → IsChoice n now sizes choice → GoesOn n now choice
    goes_on choice is = by_chosen choice.commands.items refl is.chosen choice.later refl is.later
      where
        by_chosen : (chosen : List ℕ) → choice.commands.items ≡ chosen
            → IsChosen n now sizes chosen → (later : Option ℕ) → choice.later ≡ later
            → IsLater n now later → GoesOn n now choice
        by_chosen (x ∷ chosen) same is_chosen later then is_later =
            inl (subst (λ xs. 0 < length xs) (sym same) (omega arith))
        by_chosen [] same is_chosen (Some m) then is_later =
            inr (inl (m, then, waits_later is_later.command m is_later.waits.due))
        by_chosen [] same is_chosen None then is_later =
            inr (inr (λ c below. final_all is_chosen is_later (suc (slice_index places c)) c
            (omega arith) below))

-- ---- steps of the code

-- One more row suffices.
pub row_fits : (takes : List Take) (left : List ℕ) (i k : ℕ) (d e : Take) (r : Bool)
    → i < length takes
    → r ≡ nat_le (takes_of takes (get_or takes i e).pool)
    (slice_index left (get_or takes i e).pool)
    → r ≡ true → k ≡ i
    → nat_le (takes_of takes (get_or takes k d).pool) (slice_index left (get_or takes k d).pool)
    ≡ true
row_fits takes left i k d e r within says passes same =
    subst (λ (row : Take). nat_le (takes_of takes row.pool) (slice_index left row.pool) ≡ true)
    (get_or_default takes i e d within ∙ ap (λ j. get_or takes j d) (sym same))
    (sym says ∙ passes)

-- The rows of a command name pools that there are.
pub takes_inside : (n : Night) (pools : ℕ) (order places : List ℕ)
    → IsSound n.first n.groups pools n.commands order places → (c : ℕ) (command : Command)
    → slice_get n.commands c ≡ Some command → (count : ℕ) → count ≡ pools
    → All (λ row. row.pool < count) command.takes.items
takes_inside n pools order places sound c command is count same =
    all_from_contains (λ (row : Take). row.pool < count) command.takes.items
    (λ row listed. let less = sound.takes c command row is listed in omega (arith, less, same))

pub takes_at_is : (n : Night) (p c : ℕ) (command : Command) → slice_get n.commands c ≡ Some command
    → takes_at n p c ≡ takes_of command.takes.items p
takes_at_is n p c command is =
    ap (λ (o : Option Command). option_map_or (λ x. takes_of x.takes.items p) o 0) is

-- What one more busy command leaves.
pub used_more : (n : Night) (p i size old new : ℕ) (command : Command) (fact : Known)
    → slice_get n.commands i ≡ Some command → slice_get n.known i ≡ Some fact
    → is_busy fact.phase ≡ true → new ≡ old - takes_of command.takes.items p
    → old ≡ size - sum_below (λ c. cond (runs n c) (takes_at n p c) 0) i
    → new ≡ size - sum_below (λ c. cond (runs n c) (takes_at n p c) 0) (i + 1)
used_more n p i size old new command fact is known busy less before =
    rw add-one (
    let run = at_is n i command fact is known (λ x f. is_busy f.phase) ∙ busy in
    let takes = takes_at_is n p i command is in
    let here = ap (λ (b : Bool). cond b (takes_at n p i) 0) run in
    omega (arith, less, before, takes, here))

-- One more standing.
pub soonest_same : (all : List Standing) (i : ℕ) (later : Option ℕ) (s : Standing)
    → slice_get all i ≡ Some s → ((m : ℕ) → s ≡ standing.Waiting m → ⊥)
    → IsSoonestOf all i later → IsSoonestOf all (i + 1) later
soonest_same all i None s at_i other is = λ c m below wait. elim (cases_eq c i) [
  | inl same ↦ other m (same_Some s (standing.Waiting m)
      (sym at_i ∙ ap (slice_get all) (sym same) ∙ wait))
  | inr less ↦ is c m (omega (arith, below, less)) wait
]
soonest_same all i (Some m) s at_i other is = record {
  command = is.command;
  below = (let below = is.below in omega (arith, below));
  waits = is.waits;
  least = λ c k below wait. elim (cases_eq c i) [
    | inl same ↦ absurd (other k (same_Some s (standing.Waiting k)
        (sym at_i ∙ ap (slice_get all) (sym same) ∙ wait)))
    | inr less ↦ is.least c k (omega (arith, below, less)) wait
  ];
}

pub soonest_more : (all : List Standing) (i m x : ℕ) (later : Option ℕ)
    → slice_get all i ≡ Some (standing.Waiting m)
    → MatchOption later (x ≡ m) (λ other. x ≡ min other m)
    → IsSoonestOf all i later → IsSoonestOf all (i + 1) (Some x)
soonest_more all i m x later at_i value is = go later value is
  where
    here : (c k : ℕ) → c ≡ i → slice_get all c ≡ Some (standing.Waiting k) → k ≡ m
    here c k same wait =
        let equal : standing.Waiting m ≡ standing.Waiting k =
        same_Some (standing.Waiting m) (standing.Waiting k)
        (sym at_i ∙ ap (slice_get all) (sym same) ∙ wait) in
        cc

    go : (o : Option ℕ) → MatchOption o (x ≡ m) (λ other. x ≡ min other m)
        → IsSoonestOf all i o → IsSoonestOf all (i + 1) (Some x)
    go None value is = record {
      command = i;
      below = omega arith;
      waits = at_i ∙ ap (λ k. Some (standing.Waiting k)) (sym value);
      least = λ c k below wait. elim (cases_eq c i) [
        | inl same ↦ let equal = here c k same wait in omega (arith, equal, value)
        | inr less ↦ absurd (is c k (omega (arith, below, less)) wait)
      ];
    }
    go (Some y) value is = elim (cases_lt y m) [
      | inl sooner ↦
          let kept : x ≡ y = omega (arith, value, sooner) in
          record {
            command = is.command;
            below = (let below = is.below in omega (arith, below));
            waits = is.waits ∙ ap (λ k. Some (standing.Waiting k)) (sym kept);
            least = λ c k below wait. elim (cases_eq c i) [
              | inl same ↦ let equal = here c k same wait in omega (arith, equal, kept, sooner)
              | inr less ↦
                  let least = is.least c k (omega (arith, below, less)) wait in
                  omega (arith, least, kept)
            ];
          }
      | inr first ↦
          let new : x ≡ m = omega (arith, value, first) in
          record {
            command = i;
            below = omega arith;
            waits = at_i ∙ ap (λ k. Some (standing.Waiting k)) (sym new);
            least = λ c k below wait. elim (cases_eq c i) [
              | inl same ↦ let equal = here c k same wait in omega (arith, equal, new)
              | inr less ↦
                  let least = is.least c k (omega (arith, below, less)) wait in
                  omega (arith, least, new, first)
            ];
          }
    ]

pub soonest_step : (all : List Standing) (i : ℕ) (later r : Option ℕ) (d : Standing)
    → i < length all → r ≡ with_wait later (get_or all i d) → IsSoonestOf all i later
    → IsSoonestOf all (i + 1) r
soonest_step all i later r d within value is =
    subst (IsSoonestOf all (i + 1)) (sym value)
    (go (get_or all i d) (slice_get-get_or all i d within))
  where
    go : (s : Standing) → slice_get all i ≡ Some s → IsSoonestOf all (i + 1) (with_wait later s)
    go standing.EndedOk at_i = soonest_same all i later _ at_i (λ m e. cc) is
    go standing.Failed at_i = soonest_same all i later _ at_i (λ m e. cc) is
    go standing.Canceled at_i = soonest_same all i later _ at_i (λ m e. cc) is
    go standing.GivenUp at_i = soonest_same all i later _ at_i (λ m e. cc) is
    go standing.Busy at_i = soonest_same all i later _ at_i (λ m e. cc) is
    go (standing.Waiting m) at_i =
        soonest_more all i m (option_map_or (λ other. min other m) later m) later at_i (both later)
        is
      where
        both : (o : Option ℕ)
            → MatchOption o (option_map_or (λ other. min other m) o m ≡ m)
            (λ other. option_map_or (λ x. min x m) o m ≡ min other m)
        both None = refl
        both (Some other) = refl
    go standing.Ready at_i = soonest_same all i later _ at_i (λ m e. cc) is
    go standing.Pending at_i = soonest_same all i later _ at_i (λ m e. cc) is
