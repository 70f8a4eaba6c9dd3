-- Six commands in three states, by the rules.
use Rattle.std.proofs.Common.{◌≡◌, ◌&&◌, ◌∙◌, inl, inr, ℕ, suc, zero, Bool, true, false}
use Rattle.std.proofs.Common.{List, [], ◌∷◌, Some, not, refl, ap, sym, subst, arith, slice_get}
use Rattle.std.specs.Global.{Vec}
use Rattle.std.proofs.lemmas.Bool.{and_parts, both_ways, eqb-true, false≢true}
use Rattle.std.proofs.lemmas.Option.{same_Some}
use Rattle.std.proofs.Common.{None, length, ◌==◌}
use Rattle.std.proofs.lemmas.List.Sums.{sum_by-cons}
use Rattle.std.specs.List.{list_all}
use Rattle.std.specs.Prelude.{Contains, nat_lt}
use Rattle.night_plan.specs.declared.commands.Command.{Command}
use Rattle.night_plan.specs.declared.commands.Need.{Need}
use Rattle.night_plan.specs.declared.commands.Subject.TheVariants as subject
use Rattle.night_plan.specs.declared.commands.Take.{Take}
use Rattle.night_plan.specs.declared.commands.When.TheVariants as when
use Rattle.night_plan.specs.declared.standings.Standing.TheVariants as standing
use Rattle.night_plan.specs.Plans.{HasNeed, is_of}
use Rattle.night_plan.specs.Nights.{Night, cleans_up, has_spent, HasStopped, IsFinal, IsLost, IsMet}
use Rattle.night_plan.specs.Nights.{IsNever, Lost, Names, was_canceled, is_cleanup}
use Rattle.night_plan.specs.Nights.{cancels, group_is}
use Rattle.night_plan.specs.Nights.{failed_last, has_ended_ok, is_ended, is_idle, waits}
use Rattle.night_plan.specs.Choices.{AreInOrder, taken, takes_at, takes_of}
use Rattle.night_plan.specs.Standings.{Stands}
use Rattle.night_plan.specs.Examples.{AreSix, after_a_failure, after_two_failures, at_first}
use Rattle.night_plan.specs.Examples.{command_of, six, StandSo, while_one_runs}
use Rattle.night_plan.specs.Stops.{MustStop}
use Rattle.night_plan.proofs.Rows.{of_there}
use Rattle.night_plan.proofs.Final.{IsVainBy, never_why, not_final_from}

-- ---- one night

and_false : (b : Bool) → (b && false) ≡ false
and_false true = refl
and_false false = refl

-- A command isn't lost if it hasn't failed for good, isn't canceled, and its group hasn't stopped.
not_lost : (n : Night) (c g : ℕ) (command : Command) → slice_get n.commands c ≡ Some command
    → command.group ≡ g → has_spent n c ≡ false → was_canceled n c ≡ false
    → (HasStopped n g → ⊥) → IsLost n c → ⊥
not_lost n c g command is own spent canceled going lost = elim lost.why [
  | inl was ↦ both_ways (has_spent n c) spent was
  | inr (inl was) ↦ both_ways (was_canceled n c) canceled was
  | inr (inr stop) ↦
      let it = of_there n.commands stop.group c stop.of in
      let same : it.0 ≡ command = same_Some it.0 command (sym it.1 ∙ is) in
      let group : stop.group ≡ g =
      sym it.2 ∙ ap (λ (x : Command). x.group) same ∙ own in
      going (subst (HasStopped n) group stop.stopped)
]

-- A cleanup isn't lost with its group.
cleanup_not_lost : (n : Night) (c : ℕ) → has_spent n c ≡ false → was_canceled n c ≡ false
    → cleans_up n c ≡ true → IsLost n c → ⊥
cleanup_not_lost n c spent canceled cleanup lost = elim lost.why [
  | inl was ↦ both_ways (has_spent n c) spent was
  | inr (inl was) ↦ both_ways (was_canceled n c) canceled was
  | inr (inr stop) ↦ both_ways (cleans_up n c) stop.plain cleanup
]

no_need : (commands : List Command) (c : ℕ) (command : Command) (need : Need)
    → slice_get commands c ≡ Some command → command.needs.items ≡ [] → HasNeed commands c need → ⊥
no_need commands c command need is none has =
    let same : has.command ≡ command = same_Some has.command command (sym has.is ∙ is) in
    let listed : Contains [] need = subst (λ (xs : List Need). Contains xs need)
    (ap (λ (x : Command). x.needs.items) same ∙ none) has.listed in
    let below = listed.1 in omega (arith, below)

one_need : (commands : List Command) (c : ℕ) (command : Command) (need row : Need)
    → slice_get commands c ≡ Some command → command.needs.items ≡ row ∷ []
    → HasNeed commands c need → row ≡ need
one_need commands c command need row is one has =
    let same : has.command ≡ command = same_Some has.command command (sym has.is ∙ is) in
    only (subst (λ (xs : List Need). Contains xs need)
    (ap (λ (x : Command). x.needs.items) same ∙ one) has.listed)
  where
    only : Contains (row ∷ []) need → row ≡ need
    only (zero, below, is_it) = is_it
    only (suc k, below, is_it) = absurd (omega (arith, below))

-- A command with one need is pending, if that is neither met nor in vain.
one_pending : (n : Night) (now c on : ℕ) (command : Command) (row : Need)
    → slice_get n.commands c ≡ Some command → command.needs.items ≡ row ∷ []
    → is_idle n c ≡ true → (IsLost n c → ⊥) → (IsVainBy n c row row.when → ⊥)
    → (IsMet n c row → ⊥) → Names n c row on → (IsFinal n on → ⊥) → Stands n now c standing.Pending
one_pending n now c on command row is one idle free hope unmet named open_yet = record {
  idle = idle;
  hope = λ never. elim (never_why n c never) [
    | inl lost ↦ free lost
    | inr vain ↦ hope (subst (λ (x : Need). IsVainBy n c x x.when)
        (sym (one_need n.commands c command vain.0 row is one vain.1)) vain.2)
  ];
  need = row;
  has = record {
    command = command;
    is = is;
    listed = subst (λ (xs : List Need). Contains xs row) (sym one) (0, omega arith, refl);
  };
  unmet = unmet;
  on = on;
  named = named;
  open_yet = open_yet;
}

-- It is ready, if that is met.
one_ready : (n : Night) (now c : ℕ) (command : Command) (row : Need)
    → slice_get n.commands c ≡ Some command → command.needs.items ≡ row ∷ []
    → is_idle n c ≡ true → (IsLost n c → ⊥) → IsMet n c row → waits n now c ≡ None
    → Stands n now c standing.Ready
one_ready n now c command row is one idle free met due = record {
  may = record {
    idle = idle;
    free = free;
    met = λ need has.
        subst (IsMet n c) (one_need n.commands c command need row is one has) met;
  };
  due = due;
}

-- A command without needs is ready.
none_ready : (n : Night) (now c : ℕ) (command : Command)
    → slice_get n.commands c ≡ Some command → command.needs.items ≡ []
    → is_idle n c ≡ true → (IsLost n c → ⊥) → waits n now c ≡ None
    → Stands n now c standing.Ready
none_ready n now c command is none idle free due = record {
  may = record {
    idle = idle;
    free = free;
    met = λ need has. absurd (no_need n.commands c command need is none has);
  };
  due = due;
}

cleanup_is : (command : Command) (rows : List Need) → command.needs.items ≡ rows
    → is_cleanup command
    ≡ (not (length rows == 0) && list_all (λ need. is_ended need.when) rows)
cleanup_is command rows are =
    ap (λ (xs : List Need). not (length xs == 0) && list_all (λ need. is_ended need.when) xs) are

-- ---- the six commands

module _ (none well ends fails : Vec Need) (nothing one two : Vec Take)
    (lines : AreSix none well ends fails nothing one two) where
  abbrev loads : Need
  loads = record { of = subject.Command 0; when = when.Well }

  abbrev copies : Need
  copies = record { of = subject.Group 1; when = when.Ended }

  abbrev failure : Need
  failure = record { of = subject.Command 2; when = when.Failed }

  -- ---- at first

  abbrev first_night : Night
  first_night = six none well ends fails nothing one two at_first

  none_spent : (by : ℕ) → has_spent first_night by ≡ true → ⊥
  none_spent zero spent = false≢true spent
  none_spent (suc zero) spent = false≢true spent
  none_spent (suc (suc zero)) spent = false≢true spent
  none_spent (suc (suc (suc zero))) spent = false≢true spent
  none_spent (suc (suc (suc (suc zero)))) spent = false≢true spent
  none_spent (suc (suc (suc (suc (suc zero))))) spent = false≢true spent
  none_spent (suc (suc (suc (suc (suc (suc by)))))) spent = false≢true spent

  going : (g : ℕ) → HasStopped first_night g → ⊥
  going g stop = none_spent stop.by stop.failed

  ready_0 : Stands first_night 0 0 standing.Ready
  ready_0 = none_ready first_night 0 0 (command_of none one 0 0) refl lines.none_is refl
      (not_lost first_night 0 0 (command_of none one 0 0) refl refl refl
      (and_false (not (is_cleanup (command_of none one 0 0)))) (going 0)) refl

  ready_2 : Stands first_night 0 2 standing.Ready
  ready_2 = none_ready first_night 0 2 (command_of none one 1 0) refl lines.none_is refl
      (not_lost first_night 2 1 (command_of none one 1 0) refl refl refl
      (and_false (not (is_cleanup (command_of none one 1 0)))) (going 1)) refl

  ready_3 : Stands first_night 0 3 standing.Ready
  ready_3 = none_ready first_night 0 3 (command_of none nothing 1 0) refl lines.none_is refl
      (not_lost first_night 3 1 (command_of none nothing 1 0) refl refl refl
      (and_false (not (is_cleanup (command_of none nothing 1 0)))) (going 1)) refl

  pub stand_first : StandSo first_night 0 standing.Ready standing.Pending standing.Ready
      standing.Ready standing.Pending standing.Pending
  stand_first = record {
    first = ready_0;
    second = one_pending first_night 0 1 0 (command_of well two 0 0) loads refl lines.well_is refl
        (not_lost first_night 1 0 (command_of well two 0 0) refl refl refl
        (and_false (not (is_cleanup (command_of well two 0 0)))) (going 0))
        (λ vain. not_final_from first_night 0 0 standing.Ready ready_0 refl
        (inr (subst (IsNever first_night) (sym (eqb-true 0 vain.0 vain.1)) vain.2)))
        (λ met. false≢true (met 0 refl)) refl
        (not_final_from first_night 0 0 standing.Ready ready_0 refl);
    third = ready_2;
    fourth = ready_3;
    fifth = one_pending first_night 0 4 2 (command_of ends nothing 0 0) copies refl lines.ends_is
        refl
        (not_lost first_night 4 0 (command_of ends nothing 0 0) refl refl refl
        (and_false (not (is_cleanup (command_of ends nothing 0 0)))) (going 0)) (λ vain. vain)
        (λ met. not_final_from first_night 0 2 standing.Ready ready_2 refl (met 2 refl)) refl
        (not_final_from first_night 0 2 standing.Ready ready_2 refl);
    sixth = one_pending first_night 0 5 2 (command_of fails nothing 0 0) failure refl lines.fails_is
        refl
        (not_lost first_night 5 0 (command_of fails nothing 0 0) refl refl refl
        (and_false (not (is_cleanup (command_of fails nothing 0 0)))) (going 0))
        (λ vain. not_final_from first_night 0 2 standing.Ready ready_2 refl
        (inr (vain.0 2 refl refl)))
        (λ met. false≢true
        (subst (λ k. failed_last first_night k ≡ true) (sym (eqb-true 2 met.0 met.1)) met.2.0))
        refl
        (not_final_from first_night 0 2 standing.Ready ready_2 refl);
  }

  pub in_order : AreInOrder first_night (2 ∷ 3 ∷ 0 ∷ [])
  in_order zero zero less below = absurd (omega (arith, less))
  in_order zero (suc zero) less below = refl
  in_order zero (suc (suc zero)) less below = refl
  in_order zero (suc (suc (suc j))) less below = absurd (omega (arith, below))
  in_order (suc zero) zero less below = absurd (omega (arith, less))
  in_order (suc zero) (suc zero) less below = absurd (omega (arith, less))
  in_order (suc zero) (suc (suc zero)) less below = refl
  in_order (suc zero) (suc (suc (suc j))) less below = absurd (omega (arith, below))
  in_order (suc (suc i)) j less below = absurd (omega (arith, less, below))

  pub two_taken : taken first_night 0 (2 ∷ 3 ∷ 0 ∷ []) ≡ 2
  two_taken =
      let a : takes_at first_night 0 2 ≡ 1 = ap (λ (xs : List Take). takes_of xs 0) lines.one_is in
      let b : takes_at first_night 0 3 ≡ 0 =
      ap (λ (xs : List Take). takes_of xs 0) lines.nothing_is in
      let c : takes_at first_night 0 0 ≡ 1 = ap (λ (xs : List Take). takes_of xs 0) lines.one_is in
      let x = sum_by-cons (takes_at first_night 0) 2 (3 ∷ 0 ∷ []) in
      let y = sum_by-cons (takes_at first_night 0) 3 (0 ∷ []) in
      let z = sum_by-cons (takes_at first_night 0) 0 [] in
      let w : taken first_night 0 [] ≡ 0 = refl in
      omega (arith, a, b, c, x, y, z, w)

  -- ---- after a failure

  abbrev second_night : Night
  second_night = six none well ends fails nothing one two after_a_failure

  two_spent : (by : ℕ) → has_spent second_night by ≡ true → 2 ≡ by
  two_spent zero spent = absurd (false≢true spent)
  two_spent (suc zero) spent = absurd (false≢true spent)
  two_spent (suc (suc zero)) spent = refl
  two_spent (suc (suc (suc zero))) spent = absurd (false≢true spent)
  two_spent (suc (suc (suc (suc zero)))) spent = absurd (false≢true spent)
  two_spent (suc (suc (suc (suc (suc zero))))) spent = absurd (false≢true spent)
  two_spent (suc (suc (suc (suc (suc (suc by)))))) spent = absurd (false≢true spent)

  loads_go : HasStopped second_night 0 → ⊥
  loads_go stop =
      false≢true (subst (λ k. is_of second_night.commands 0 k ≡ true)
      (sym (two_spent stop.by stop.failed)) stop.of)

  pub stand_second : StandSo second_night 100 standing.EndedOk standing.Ready standing.Failed
      standing.Busy standing.Pending standing.Ready
  stand_second = record {
    first = refl;
    second = one_ready second_night 100 1 (command_of well two 0 0) loads refl lines.well_is refl
        (not_lost second_night 1 0 (command_of well two 0 0) refl refl refl
        (and_false (not (is_cleanup (command_of well two 0 0)))) loads_go)
        (λ d named. subst (λ k. has_ended_ok second_night k ≡ true) (eqb-true 0 d named) refl)
        refl;
    third = (refl, record { idle = refl; why = inl refl });
    fourth = refl;
    fifth = one_pending second_night 100 4 3 (command_of ends nothing 0 0) copies refl lines.ends_is
        refl
        (not_lost second_night 4 0 (command_of ends nothing 0 0) refl refl refl
        (and_false (not (is_cleanup (command_of ends nothing 0 0)))) loads_go) (λ vain. vain)
        (λ met. not_final_from second_night 100 3 standing.Busy refl refl (met 3 refl)) refl
        (not_final_from second_night 100 3 standing.Busy refl refl);
    sixth = one_ready second_night 100 5 (command_of fails nothing 0 0) failure refl lines.fails_is
        refl
        (not_lost second_night 5 0 (command_of fails nothing 0 0) refl refl refl
        (and_false (not (is_cleanup (command_of fails nothing 0 0)))) loads_go)
        (2, refl, (refl, record { idle = refl; why = inl refl })) refl;
  }

  pub copy_must_stop : MustStop second_night 3
  copy_must_stop = record {
    runs = refl;
    why = inr (record {
      group = 1;
      of = refl;
      stopped = record { stops = refl; by = 2; of = refl; failed = refl };
      cancels = refl;
      plain = cleanup_is (command_of none nothing 1 0) [] lines.none_is;
    });
  }

  -- ---- after two failures

  abbrev third_night : Night
  third_night = six none well ends fails nothing one two after_two_failures

  copies_final : (d : ℕ) → Names third_night 4 copies d → IsFinal third_night d
  copies_final zero named = absurd (false≢true named)
  copies_final (suc zero) named = absurd (false≢true named)
  copies_final (suc (suc zero)) named = inr (Lost 2 (record { idle = refl; why = inl refl }))
  copies_final (suc (suc (suc zero))) named =
      inr (Lost 3 (record { idle = refl; why = inr (inl refl) }))
  copies_final (suc (suc (suc (suc zero)))) named = absurd (false≢true named)
  copies_final (suc (suc (suc (suc (suc zero))))) named = absurd (false≢true named)
  copies_final (suc (suc (suc (suc (suc (suc d)))))) named =
      absurd (false≢true (and_parts (nat_lt (suc (suc (suc (suc (suc (suc d)))))) 6) false named).1)

  pub stand_third : StandSo third_night 200 standing.EndedOk standing.Failed standing.Failed
      standing.Canceled standing.Ready standing.GivenUp
  stand_third = record {
    first = refl;
    second = (refl, record { idle = refl; why = inl refl });
    third = (refl, record { idle = refl; why = inl refl });
    fourth = record { idle = refl; no_failure = refl; canceled = refl };
    fifth = one_ready third_night 200 4 (command_of ends nothing 0 0) copies refl lines.ends_is refl
        (cleanup_not_lost third_night 4 refl
        (and_false (not (is_cleanup (command_of ends nothing 0 0))))
        (cleanup_is (command_of ends nothing 0 0) (copies ∷ []) lines.ends_is))
        copies_final refl;
    sixth = record {
      never = Lost 5 (record {
        idle = refl;
        why = inr (inr (record {
          group = 0;
          of = refl;
          stopped = record { stops = refl; by = 1; of = refl; failed = refl };
          plain = cleanup_is (command_of fails nothing 0 0) (failure ∷ []) lines.fails_is;
        }));
      });
      no_failure = λ failed. false≢true failed.0;
      no_cancel = λ was. both_ways (was_canceled third_night 5)
          (and_false (not (is_cleanup (command_of fails nothing 0 0)))) was.canceled;
    };
  }

-- ---- while one runs

module _ (none well ends fails : Vec Need) (nothing one two : Vec Take) where
  abbrev fourth_night : Night
  fourth_night = six none well ends fails nothing one two while_one_runs

  pub load_runs_on : MustStop fourth_night 1 → ⊥
  load_runs_on must = elim must.why [
    | inl was ↦ both_ways (was_canceled fourth_night 1)
        (and_false (not (is_cleanup (command_of well two 0 0)))) was
    | inr cut ↦
        let group : 0 ≡ cut.group = eqb-true 0 cut.group cut.of in
        false≢true (subst (λ g. group_is fourth_night g (λ row. cancels row.way) ≡ true)
        (sym group) cut.cancels)
  ]
