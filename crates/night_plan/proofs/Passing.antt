-- How a command stands, by the standings of the commands before it in the order.
use Rattle.std.proofs.Common.{◌≡◌, ◌<◌, ◌+◌, ◌&&◌, ◌||◌, ◌⊎◌, ◌∙◌, inl, inr, ℕ, Bool}
use Rattle.std.proofs.Common.{not}
use Rattle.std.proofs.Common.{true, false, List, Option, Some, None, length, refl, ap, sym}
use Rattle.std.proofs.Common.{subst, arith, slice_get, slice_index_or, set}
use Rattle.std.proofs.lemmas.Bool.{and_from, and_parts, cases_eq, eq-eqb}
use Rattle.std.proofs.lemmas.Bool.{eqb-true, false_from_ne_true, false≢true, not-true}
use Rattle.std.proofs.lemmas.Bool.{not_from_false, or_cases, or_left, or_right, true≢false}
use Rattle.std.proofs.lemmas.List.{length-set}
use Rattle.std.proofs.lemmas.Option.{same_Some, slice_get-get_or, slice_get_within}
use Rattle.std.specs.Prelude.{All, Any, Contains, max}
use Rattle.std.proofs.lemmas.Bool.{ltb-true}
use Rattle.night_plan.specs.declared.commands.Subject.{Subject}
use Rattle.night_plan.specs.declared.commands.Subject.TheVariants as subject
use Rattle.night_plan.specs.declared.commands.Command.{Command}
use Rattle.night_plan.specs.declared.commands.Group.{Group as GroupLine}
use Rattle.night_plan.specs.declared.commands.Need.{Need}
use Rattle.night_plan.specs.declared.facts.Known.{Known}
use Rattle.night_plan.specs.declared.standings.Hope.{Hope}
use Rattle.night_plan.specs.declared.standings.Hope.TheVariants as hope
use Rattle.night_plan.specs.declared.standings.Standing.{Standing}
use Rattle.night_plan.specs.declared.standings.Summary.{Summary}
use Rattle.night_plan.specs.Plans.{is_of, is_within, names, horizon, HasNeed, IsSound}
use Rattle.night_plan.specs.Nights.{Night, is_busy, is_ok, is_failed, is_spent, is_canceled, stops}
use Rattle.night_plan.specs.Nights.{is_cleanup, is_idle, HasStopped, IsLost, MayBegin}
use Rattle.night_plan.specs.Nights.{at, has_spent, Lost}
use Rattle.std.specs.Option.{option_map_or}
use Rattle.night_plan.specs.Standings.{IsGivenUp, IsPending, Stands}
use Rattle.night_plan.specs.Hopes.{
  hope_of,
  has_hope,
  summary_for,
  summary_of,
  with_both,
  is_lost_by,
}
use Rattle.night_plan.specs.Hopes.{AreWithin, lost_stands, AreStopped, IsPlaced, AreStanding}
use Rattle.night_plan.specs.Hopes.{IsSummaryOf}
use Rattle.night_plan.proofs.Rows.{all_from_contains, at_is, of_at, of_there}
use Rattle.night_plan.proofs.Rows.{get_set_same, get_set_other}
use Rattle.night_plan.proofs.Final.{canceled_lost, never_from, never_why}
use Rattle.night_plan.proofs.Hoping.{
  summary_same,
  summary_both,
  summary_one,
  vain_from,
  not_vain_from,
}
use Rattle.night_plan.proofs.Hoping.{open_from, unmet_from, met_from, named_summary}

-- ---- which groups have stopped

-- One more command, that may stop its group.
pub stopped_more : (n : Night) (i : ℕ) (stopped : List Bool) (command : Command) (fact : Known)
    (group : GroupLine) (b : Bool) → AreStopped n i stopped → slice_get n.commands i ≡ Some command
    → slice_get n.known i ≡ Some fact → command.group < length n.groups
    → slice_get n.groups command.group ≡ Some group → slice_get stopped command.group ≡ Some b
    → AreStopped n (i + 1)
    (set stopped command.group (b || (stops group.way && is_spent n.done command fact)))
stopped_more n i stopped command fact group b are is known own group_at before = record {
  sized = length-set stopped command.group new ∙ are.sized;
  right = λ g marked. elim (cases_eq g command.group) [
    | inl same ↦
        let value : new ≡ true =
        same_Some new true (sym (get_set_same stopped command.group new inside)
        ∙ ap (slice_get (set stopped command.group new)) (sym same) ∙ marked) in
        subst (HasStopped n) (sym same)
        (elim (or_cases b (stops group.way && is_spent n.done command fact) value) [
          | inl was ↦ are.right command.group (before ∙ ap Some was)
          | inr now ↦
              let parts = and_parts (stops group.way) (is_spent n.done command fact) now in
              record {
                stops = ap (λ (o : Option GroupLine).
                    option_map_or (λ x. stops x.way) o false) group_at ∙ parts.0;
                by = i;
                of = of_at n.commands i command.group command is
                    ∙ eq-eqb command.group command.group refl;
                failed = at_is n i command fact is known (is_spent n.done) ∙ parts.1;
              }
        ])
    | inr other ↦
        let less = slice_get_within (set stopped command.group new) g true marked in
        let len = length-set stopped command.group new in
        are.right g (sym (get_set_other stopped command.group g new
        (let l = less in omega (arith, l, len)) other) ∙ marked)
  ];
  all = λ g stop below. elim (cases_eq g command.group) [
    | inl same ↦
        ap (slice_get (set stopped command.group new)) same
        ∙ get_set_same stopped command.group new inside
        ∙ ap Some (by_new g same stop below)
    | inr other ↦
        get_set_other stopped command.group g new
        (let there = slice_get_within n.groups g (stop_row g stop).0 (stop_row g stop).1 in
        let sized = are.sized in omega (arith, there, sized)) other
        ∙ are.all g stop (elim (cases_eq stop.by i) [
          | inl at_i ↦ absurd (other (sym (of_same g stop at_i)))
          | inr less ↦ omega (arith, below, less)
        ])
  ];
}
  where
    new : Bool
    new = b || (stops group.way && is_spent n.done command fact)

    inside : command.group < length stopped
    inside = let sized = are.sized in omega (arith, sized, own)

    stop_row : (g : ℕ) → HasStopped n g
        → (x : GroupLine) × (slice_get n.groups g ≡ Some x) × (stops x.way ≡ true)
    stop_row g stop = go (slice_get n.groups g) refl stop.stops
      where
        go : (o : Option GroupLine) → slice_get n.groups g ≡ o
            → option_map_or (λ x. stops x.way) o false ≡ true
            → (x : GroupLine) × (slice_get n.groups g ≡ Some x) × (stops x.way ≡ true)
        go None none never = absurd (false≢true never)
        go (Some x) some passes = (x, some, passes)

    of_same : (g : ℕ) (stop : HasStopped n g) → stop.by ≡ i → command.group ≡ g
    of_same g stop at_i =
        eqb-true command.group g (sym (of_at n.commands i g command is)
        ∙ ap (is_of n.commands g) (sym at_i) ∙ stop.of)

    by_new : (g : ℕ) → g ≡ command.group → (stop : HasStopped n g) → stop.by < i + 1 → new ≡ true
    by_new g same stop below = elim (cases_eq stop.by i) [
      | inl at_i ↦
          let row = stop_row g stop in
          let group_same : row.0 ≡ group =
          same_Some row.0 group (sym row.1 ∙ ap (slice_get n.groups) same ∙ group_at) in
          or_right b (stops group.way && is_spent n.done command fact)
          (and_from (stops group.way) (is_spent n.done command fact)
          (ap (λ (x : GroupLine). stops x.way) (sym group_same) ∙ row.2)
          (sym (at_is n i command fact is known (is_spent n.done))
          ∙ ap (has_spent n) (sym at_i) ∙ stop.failed))
      | inr less ↦
          or_left b (stops group.way && is_spent n.done command fact)
          (same_Some b true (sym before ∙ ap (slice_get stopped) (sym same)
          ∙ are.all g stop (omega (arith, below, less))))
    ]

-- What `lost` says by the mark that it was given.
pub stop_at : (done : List Bool) (command : Command) (fact : Known) (stopped : List Bool)
    (g : ℕ) (d r : Bool) → g < length stopped
    → r ≡ is_lost_by done command fact (slice_index_or stopped g d)
    → (b : Bool) × (slice_get stopped g ≡ Some b) × (r ≡ is_lost_by done command fact b)
stop_at done command fact stopped g d r within is =
    (slice_index_or stopped g d, slice_get-get_or stopped g d within, is)

-- ---- one command

module _ (n : Night) (now c : ℕ) (command : Command) (fact : Known)
    (is : slice_get n.commands c ≡ Some command) (known : slice_get n.known c ≡ Some fact) where
  says : (test : Command → Known → Bool) → at n c test ≡ test command fact
  says = at_is n c command fact is known

  pub idle_from : is_busy fact.phase ≡ false → is_ok fact.phase ≡ false → is_idle n c ≡ true
  idle_from busy ok =
      says (λ x f. not (is_busy f.phase) && not (is_ok f.phase))
      ∙ and_from (not (is_busy fact.phase)) (not (is_ok fact.phase))
      (not_from_false (is_busy fact.phase) busy) (not_from_false (is_ok fact.phase) ok)

  own_group : is_of n.commands command.group c ≡ true
  own_group = of_at n.commands c command.group command is ∙ eq-eqb command.group command.group refl

  module _ (stopped : List Bool) (are : AreStopped n (length n.commands) stopped) (b : Bool)
      (at_b : slice_get stopped command.group ≡ Some b) where
    pub lost_right : is_idle n c ≡ true → is_lost_by n.done command fact b ≡ true → IsLost n c
    lost_right idle lost = record {
      idle = idle;
      why = elim (or_cases (is_spent n.done command fact) _ lost) [
        | inl spent ↦ inl (says (is_spent n.done) ∙ spent)
        | inr more ↦ inr (elim (or_cases (is_canceled n.done command fact) _ more) [
          | inl canceled ↦ inl (says (is_canceled n.done) ∙ canceled)
          | inr stop ↦
              let parts = and_parts b (not (is_cleanup command)) stop in
              inr (record {
                group = command.group;
                of = own_group;
                stopped = are.right command.group (at_b ∙ ap Some parts.0);
                plain = says (λ x f. is_cleanup x) ∙ not-true (is_cleanup command) parts.1;
              })
        ])
      ];
    }

    pub lost_all : IsLost n c → is_lost_by n.done command fact b ≡ true
    lost_all lost = elim lost.why [
      | inl spent ↦ or_left (is_spent n.done command fact) _ (sym (says (is_spent n.done)) ∙ spent)
      | inr more ↦ or_right (is_spent n.done command fact) _ (elim more [
        | inl canceled ↦ or_left (is_canceled n.done command fact) _
            (sym (says (is_canceled n.done)) ∙ canceled)
        | inr stop ↦ or_right (is_canceled n.done command fact) _
            (let by = of_there n.commands stop.group stop.stopped.by stop.stopped.of in
            let same : command.group ≡ stop.group =
            eqb-true command.group stop.group
            (sym (of_at n.commands c stop.group command is) ∙ stop.of) in
            let marked = are.all stop.group stop.stopped
            (slice_get_within n.commands stop.stopped.by by.0 by.1) in
            and_from b (not (is_cleanup command))
            (same_Some b true (sym at_b ∙ ap (slice_get stopped) same ∙ marked))
            (not_from_false (is_cleanup command)
            (sym (says (λ x f. is_cleanup x)) ∙ stop.plain)))
      ])
    ]

  pub lost_standing : IsLost n c
      → Stands n now c (lost_stands (is_failed fact.phase) (is_canceled n.done command fact))
  lost_standing lost = go (is_failed fact.phase) refl (is_canceled n.done command fact) refl
    where
      go : (f : Bool) → is_failed fact.phase ≡ f → (k : Bool)
          → is_canceled n.done command fact ≡ k → Stands n now c (lost_stands f k)
      go true failed k canceled = (says (λ x f. is_failed f.phase) ∙ failed, lost)
      go false failed true canceled = record {
        idle = lost.idle;
        no_failure = says (λ x f. is_failed f.phase) ∙ failed;
        canceled = says (is_canceled n.done) ∙ canceled;
      }
      go false failed false canceled = record {
        never = Lost c lost;
        no_failure = λ it. true≢false
            (sym it.0 ∙ says (λ x f. is_failed f.phase) ∙ failed);
        no_cancel = λ it. true≢false
            (sym it.canceled ∙ says (is_canceled n.done) ∙ canceled);
      }

  module _ (pools p : ℕ) (order places : List ℕ)
      (sound : IsSound n.first n.groups pools n.commands order places)
      (at_p : slice_get order p ≡ Some c) (all : List Standing) (tallies : List Summary)
      (are : AreStanding n now order p all tallies)
      (idle : is_idle n c ≡ true) (free : IsLost n c → ⊥) where
    abbrev left : Need → Hope
    left need = hope_of need.when (summary_for all tallies need.of)

    tallied : (need : Need) → HasNeed n.commands c need
        → IsSummaryOf n (λ d. names n.commands (horizon n.first c) need.of d ≡ true)
        (summary_for all tallies need.of)
    tallied need has = named_summary n now pools order places sound p c at_p all tallies are need
        has

    has_it : (need : Need) → Contains command.needs.items need → HasNeed n.commands c need
    has_it need listed = record { command = command; is = is; listed = listed }

    listed_in : (need : Need) → HasNeed n.commands c need → Contains command.needs.items need
    listed_in need has =
        subst (λ (x : Command). Contains x.needs.items need)
        (same_Some has.command command (sym has.is ∙ is)) has.listed

    unlike : (h : Hope)
        → (Any (λ need. has_hope h (hope_of need.when (summary_for all tallies need.of)) ≡ true)
        command.needs.items → ⊥)
        → (need : Need) → HasNeed n.commands c need → has_hope h (left need) ≡ false
    unlike h none need has =
        let it = listed_in need has in
        false_from_ne_true (has_hope h (left need)) (λ yes. none (it.0, need, it.1, it.2, yes))

    pub given_up
        : Any (λ need. has_hope hope.Vain
        (hope_of need.when (summary_for all tallies need.of)) ≡ true)
        command.needs.items → IsGivenUp n c
    given_up any =
        let has = has_it any.1 (any.0, any.2, any.3) in
        record {
          never = never_from n c any.1 idle has
              (vain_from n c any.1 (summary_for all tallies any.1.of) (tallied any.1 has) any.4);
          no_failure = λ failed. free failed.1;
          no_cancel = λ was. free (canceled_lost n c was);
        }

    module _ (no_vain : Any (λ need. has_hope hope.Vain
        (hope_of need.when (summary_for all tallies need.of)) ≡ true) command.needs.items → ⊥) where
      pub pending
          : Any (λ need. has_hope hope.Open
          (hope_of need.when (summary_for all tallies need.of)) ≡ true)
          command.needs.items → IsPending n c
      pending any =
          let has = has_it any.1 (any.0, any.2, any.3) in
          let it = open_from n c any.1 (summary_for all tallies any.1.of) (tallied any.1 has)
          any.4 in
          record {
            idle = idle;
            hope = λ never. elim (never_why n c never) [
              | inl lost ↦ free lost
              | inr vain ↦ not_vain_from n c vain.0 (summary_for all tallies vain.0.of)
                  (tallied vain.0 vain.1) (unlike hope.Vain no_vain vain.0 vain.1) vain.2
            ];
            need = any.1;
            has = has;
            unmet = unmet_from n c any.1 (summary_for all tallies any.1.of) (tallied any.1 has)
                any.4;
            on = it.0;
            named = it.1;
            open_yet = it.2;
          }

      pub may_begin : (Any (λ need. has_hope hope.Open
          (hope_of need.when (summary_for all tallies need.of)) ≡ true) command.needs.items → ⊥)
          → MayBegin n c
      may_begin no_open = record {
        idle = idle;
        free = free;
        met = λ need has. met_from n c need (summary_for all tallies need.of) (tallied need has)
            (unlike hope.Vain no_vain need has) (unlike hope.Open no_open need has);
      }

-- The needs of a command name commands and groups that there are.
pub within_all : (n : Night) (c : ℕ) (command : Command) → slice_get n.commands c ≡ Some command
    → (pools : ℕ) (order places : List ℕ)
    → IsSound n.first n.groups pools n.commands order places → (commands groups : ℕ)
    → commands ≡ length n.commands → groups ≡ length n.groups → c < length n.commands
    → All (λ need. AreWithin commands groups need.of) command.needs.items
within_all n c command is pools order places sound commands groups one two below =
    all_from_contains (λ need. AreWithin commands groups need.of) command.needs.items
    (λ need listed. go need.of (sound.within c need
    (record { command = command; is = is; listed = listed })))
  where
    go : (o : Subject) → is_within (length n.groups) (max n.first c) o ≡ true
        → AreWithin commands groups o
    go (subject.Command d) within =
        let less = ltb-true d (max n.first c) within in
        let bounded = sound.bounded in
        omega (arith, less, bounded, below, one)
    go (subject.Group g) within =
        let less = ltb-true g (length n.groups) within in omega (arith, less, two)

-- ---- one more command of the order

pub standing_more : (n : Night) (now pools p c : ℕ) (order places : List ℕ) (all : List Standing)
    (tallies : List Summary) (s : Standing) (t : Summary) (command : Command)
    → IsSound n.first n.groups pools n.commands order places
    → AreStanding n now order p all tallies → slice_get order p ≡ Some c
    → slice_get n.commands c ≡ Some command → slice_get tallies command.group ≡ Some t
    → Stands n now c s
    → AreStanding n now order (p + 1) (set all c s)
    (set tallies command.group (with_both t (summary_of s)))
standing_more n now pools p c order places all tallies s t command sound are at_p is at_t stands =
    record {
      sized = length-set all c s ∙ are.sized;
      grouped = length-set tallies command.group (with_both t (summary_of s)) ∙ are.grouped;
      stood = λ q d below at_q. elim (cases_eq d c) [
        | inl same ↦ (
          s,
          ap (slice_get (set all c s)) same ∙ get_set_same all c s inside,
          subst (λ k. Stands n now k s) (sym same) stands,
        )
        | inr other ↦
            let early : q < p = elim (cases_eq q p) [
              | inl last ↦
                  absurd (other (same_Some d c (sym at_q ∙ ap (slice_get order) last ∙ at_p)))
              | inr less ↦ omega (arith, below, less)
            ] in
            let old = are.stood q d early at_q in
            let there = slice_get_within all d old.0 old.1 in
            (old.0, get_set_other all c d s there other ∙ old.1, old.2)
      ];
      counted = λ g within. elim (cases_eq g command.group) [
        | inl same ↦ (
          with_both t (summary_of s),
          ap (slice_get (set tallies command.group (with_both t (summary_of s)))) same
              ∙ get_set_same tallies command.group (with_both t (summary_of s))
              (let sized = are.grouped in omega (arith, sized, within, same)),
          (let old = are.counted g within in
              let old_t : old.0 ≡ t =
              same_Some old.0 t (sym old.1 ∙ ap (slice_get tallies) same ∙ at_t) in
              summary_same n (λ d. IsPlaced n order g p d ⊎ (d ≡ c)) (IsPlaced n order g (p + 1))
              (with_both t (summary_of s)) (grown g same) (shrunk g)
              (summary_both n (IsPlaced n order g p) (λ d. d ≡ c) t (summary_of s)
              (subst (IsSummaryOf n (IsPlaced n order g p)) old_t old.2)
              (summary_one n now c s stands))),
        )
        | inr other ↦
            let old = are.counted g within in (
              old.0,
              get_set_other tallies command.group g (with_both t (summary_of s))
                  (let sized = are.grouped in omega (arith, sized, within)) other ∙ old.1,
              summary_same n (IsPlaced n order g p) (IsPlaced n order g (p + 1)) old.0
                  (λ d it. record {
                    place = it.place;
                    below = (let less = it.below in omega (arith, less));
                    at = it.at;
                    of = it.of;
                  })
                  (λ d it. elim (shrunk g d it) [
                    | inl before ↦ before
                    | inr here ↦ absurd (other (sym (eqb-true command.group g
                        (sym (of_at n.commands c g command is)
                        ∙ ap (is_of n.commands g) (sym here) ∙ it.of))))
                  ]) old.2,
            )
      ];
    }
  where
    inside : c < length all
    inside =
        let there = sound.inside p c at_p in
        let sized = are.sized in omega (arith, there, sized)

    grown : (g : ℕ) → g ≡ command.group → (d : ℕ) → IsPlaced n order g p d ⊎ (d ≡ c)
        → IsPlaced n order g (p + 1) d
    grown g same d (inl it) = record {
      place = it.place;
      below = (let less = it.below in omega (arith, less));
      at = it.at;
      of = it.of;
    }
    grown g same d (inr here) = record {
      place = p;
      below = omega arith;
      at = at_p ∙ ap Some (sym here);
      of = ap (is_of n.commands g) here ∙ of_at n.commands c g command is
          ∙ eq-eqb command.group g (sym same);
    }

    shrunk : (g d : ℕ) → IsPlaced n order g (p + 1) d → IsPlaced n order g p d ⊎ (d ≡ c)
    shrunk g d it = elim (cases_eq it.place p) [
      | inl last ↦ inr (same_Some d c (sym it.at ∙ ap (slice_get order) last ∙ at_p))
      | inr less ↦ inl (record {
        place = it.place;
        below = (let below = it.below in omega (arith, below, less));
        at = it.at;
        of = it.of;
      })
    ]
