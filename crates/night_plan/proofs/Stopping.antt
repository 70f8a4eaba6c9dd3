-- Which commands that run are to be stopped.
use Rattle.std.proofs.Common.{◌≡◌, ◌<◌, ◌+◌, ◌&&◌, ◌∙◌, inl, inr, not, ℕ, Bool, true}
use Rattle.std.proofs.Common.{false, List, [], ◌∷◌, ◌++◌, Option, Some, length, refl, ap}
use Rattle.std.proofs.Common.{sym}
use Rattle.std.proofs.Common.{subst, arith, slice_get, length-append}
use Rattle.std.proofs.Common.{◌||◌}
use Rattle.std.proofs.lemmas.Bool.{and_from, and_parts, both_ways, cases_eq, cases_lt, eq-eqb}
use Rattle.std.proofs.lemmas.Bool.{false≢true}
use Rattle.std.proofs.lemmas.Bool.{eqb-true, not-true, not_from_false, or_cases, or_left, or_right}
use Rattle.std.proofs.lemmas.List.{get_or_append_left, get_or_push}
use Rattle.std.proofs.lemmas.List.Elements.{All-get_or, All-push, All-weaker}
use Rattle.std.proofs.lemmas.List.Elements.{Contains-append_left, Contains-push}
use Rattle.std.proofs.lemmas.Option.{same_Some, slice_get_within}
use Rattle.std.specs.Option.{option_map_or}
use Rattle.std.specs.Prelude.{Contains}
use Rattle.night_plan.specs.declared.commands.Command.{Command}
use Rattle.night_plan.specs.declared.commands.Group.{Group as GroupLine}
use Rattle.night_plan.specs.declared.facts.Known.{Known}
use Rattle.night_plan.specs.declared.facts.Phase.{Phase}
use Rattle.night_plan.specs.declared.facts.Phase.TheVariants as phase
use Rattle.night_plan.specs.Nights.{Night, is_busy, is_canceled, is_cleanup, cancels, cleans_up}
use Rattle.night_plan.specs.Nights.{is_cut}
use Rattle.night_plan.specs.Hopes.{AreStopped}
use Rattle.night_plan.specs.Stops.{MustStop, must_stop, AreToStop}
use Rattle.night_plan.proofs.Keeping.{canceled_itself, itself}
use Rattle.night_plan.proofs.Rows.{at_is, at_there, of_at, of_there}

module _ (n : Night) (c : ℕ) (command : Command) (fact : Known) (group : GroupLine)
    (is : slice_get n.commands c ≡ Some command) (known : slice_get n.known c ≡ Some fact)
    (row : slice_get n.groups command.group ≡ Some group) (stopped : List Bool)
    (are : AreStopped n (length n.commands) stopped) (b : Bool)
    (at_b : slice_get stopped command.group ≡ Some b) where
  pub stop_right : must_stop n.done command fact (b && cancels group.way) ≡ true → MustStop n c
  stop_right stop =
      let parts = and_parts (is_busy fact.phase) _ stop in
      record {
        runs = at_is n c command fact is known (λ x f. is_busy f.phase) ∙ parts.0;
        why = elim (or_cases (is_canceled n.done command fact) _ parts.1) [
          | inl canceled ↦ inl (at_is n c command fact is known (is_canceled n.done) ∙ canceled)
          | inr cut ↦
              let both = and_parts (b && cancels group.way) (not (is_cleanup command)) cut in
              let marks = and_parts b (cancels group.way) both.0 in
              inr (record {
                group = command.group;
                of = of_at n.commands c command.group command is
                    ∙ eq-eqb command.group command.group refl;
                stopped = are.right command.group (at_b ∙ ap Some marks.0);
                cancels = ap (λ (o : Option GroupLine).
                    option_map_or (λ x. cancels x.way) o false) row ∙ marks.1;
                plain = at_is n c command fact is known (λ x f. is_cleanup x)
                    ∙ not-true (is_cleanup command) both.1;
              })
        ];
      }

  pub stop_all : MustStop n c → must_stop n.done command fact (b && cancels group.way) ≡ true
  stop_all must =
      and_from (is_busy fact.phase) _
      (sym (at_is n c command fact is known (λ x f. is_busy f.phase)) ∙ must.runs)
      (elim must.why [
        | inl canceled ↦ or_left (is_canceled n.done command fact) _
            (sym (at_is n c command fact is known (is_canceled n.done)) ∙ canceled)
        | inr cut ↦
            let same : command.group ≡ cut.group =
            eqb-true command.group cut.group
            (sym (of_at n.commands c cut.group command is) ∙ cut.of) in
            let by = of_there n.commands cut.group cut.stopped.by cut.stopped.of in
            let marked = are.all cut.group cut.stopped
            (slice_get_within n.commands cut.stopped.by by.0 by.1) in
            or_right (is_canceled n.done command fact) _
            (and_from (b && cancels group.way) (not (is_cleanup command))
            (and_from b (cancels group.way)
            (same_Some b true (sym at_b ∙ ap (slice_get stopped) same ∙ marked))
            (sym (ap (λ (o : Option GroupLine). option_map_or (λ x. cancels x.way) o false)
            (sym (ap (slice_get n.groups) same) ∙ row)) ∙ cut.cancels))
            (not_from_false (is_cleanup command)
            (sym (at_is n c command fact is known (λ x f. is_cleanup x)) ∙ cut.plain)))
      ])

pub stops_more : (n : Night) (i : ℕ) (all : List ℕ) → AreToStop n i all → MustStop n i
    → AreToStop n (i + 1) (all ++ i ∷ [])
stops_more n i all are must = record {
  right = All-push (MustStop n) all i are.right must;
  every = λ c below stop. elim (cases_eq c i) [
    | inl same ↦ subst (Contains (all ++ i ∷ [])) (sym same) (Contains-push all i)
    | inr less ↦ Contains-append_left all (i ∷ []) c
        (are.every c (omega (arith, below, less)) stop)
  ];
  below = All-push (λ c. c < i + 1) all i
      (All-weaker (λ c. c < i) (λ c. c < i + 1) (λ x less. omega (arith, less)) all are.below)
      (omega arith);
  order = λ k within.
      let len = length-append all (i ∷ []) in
      elim (cases_lt (k + 1) (length all)) [
        | inl more ↦
            let one = get_or_append_left all (i ∷ []) 0 k (omega (arith, more)) in
            let two = get_or_append_left all (i ∷ []) 0 (k + 1) more in
            let old = are.order k more in
            omega (arith, one, two, old)
        | inr past ↦
            let last : length all ≡ k + 1 = omega (arith, len, past, within) in
            let one = get_or_append_left all (i ∷ []) 0 k (omega (arith, last)) in
            let two = get_or_push all i 0 (k + 1) last in
            let less = All-get_or (λ c. c < i) all k 0 (omega (arith, last)) are.below in
            omega (arith, one, two, less)
      ];
}

pub stops_same : (n : Night) (i : ℕ) (all : List ℕ) → AreToStop n i all → (MustStop n i → ⊥)
    → AreToStop n (i + 1) all
stops_same n i all are none = record {
  right = are.right;
  every = λ c below stop. elim (cases_eq c i) [
    | inl same ↦ absurd (none (subst (MustStop n) same stop))
    | inr less ↦ are.every c (omega (arith, below, less)) stop
  ];
  below = All-weaker (λ c. c < i) (λ c. c < i + 1) (λ x less. omega (arith, less)) all are.below;
  order = are.order;
}

busy_not_cut : (p : Phase) → is_busy p ≡ true → is_cut p ≡ false
busy_not_cut phase.Fresh busy = refl
busy_not_cut phase.Busy busy = refl
busy_not_cut phase.EndedOk busy = refl
busy_not_cut (phase.Failed last) busy = refl
busy_not_cut phase.Interrupted busy = refl
busy_not_cut phase.Canceled busy = absurd (false≢true busy)

pub cleanups_run_on : (n : Night) (c : ℕ) (fact : Known) → slice_get n.known c ≡ Some fact
    → cleans_up n c ≡ true → MustStop n c → fact.canceled ≡ true
cleanups_run_on n c fact known cleanup must = elim must.why [
  | inr cut ↦ absurd (both_ways (cleans_up n c) cut.plain cleanup)
  | inl was ↦
      let run = at_there n c (λ x f. is_busy f.phase) must.runs in
      let it = at_there n c itself (canceled_itself n c cleanup was) in
      let one : it.1 ≡ fact = same_Some it.1 fact (sym it.3 ∙ known) in
      let two : run.1 ≡ fact = same_Some run.1 fact (sym run.3 ∙ known) in
      let no_cut = busy_not_cut fact.phase
      (subst (λ (k : Known). is_busy k.phase ≡ true) two run.4) in
      elim (or_cases fact.canceled (is_cut fact.phase)
      (subst (λ (k : Known). (k.canceled || is_cut k.phase) ≡ true) one it.4)) [
        | inl itself_was ↦ itself_was
        | inr cut ↦ absurd (both_ways (is_cut fact.phase) no_cut cut)
      ]
]
