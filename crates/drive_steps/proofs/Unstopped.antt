-- Nothing has to stop, if no command was canceled, no group is done, and no failure cancels one.
use Rattle.std.proofs.Common.{◌≡◌, ◌∙◌, ◌&&◌, ◌||◌, ◌==◌, ℕ, zero, suc, Bool, true, false, not}
use Rattle.std.proofs.Common.{List, [], ◌∷◌, Option, Some, None, length, map, slice_get}
use Rattle.std.proofs.Common.{inl, inr, ap, arith, refl, sym}
use Rattle.std.proofs.lemmas.Bool.{false≢true, ne_eqb}
use Rattle.std.proofs.lemmas.Option.{none-some, same_Some}
use Rattle.std.specs.List.{Contains, list_any}
use Rattle.std.specs.Option.{option_map_or}
use Rattle.run_model.specs.State.{State}
use Rattle.night_plan.specs.declared.commands.Command.{Command}
use Rattle.night_plan.specs.declared.commands.Group.{Group as GroupLine}
use Rattle.night_plan.specs.declared.commands.Plan.{Plan}
use Rattle.night_plan.specs.declared.facts.Known.{Known}
use Rattle.night_plan.specs.declared.facts.Phase.{Phase}
use Rattle.night_plan.specs.declared.facts.Phase.TheVariants as phase
use Rattle.night_plan.specs.Nights.{cancels, is_busy, is_canceled, is_cleanup, is_cut, is_done}
use Rattle.night_plan.specs.Nights.{runs}
use Rattle.night_plan.specs.Nights.{was_canceled}
use Rattle.night_plan.specs.Stops.{MustStop}
use Rattle.night_drive.specs.declared.ends.Ends.{Ends}
use Rattle.night_drive.specs.declared.names.Names.{Names}
use Rattle.night_drive.specs.PlanTurns.{known_in, night_in}
use Rattle.night_drive.specs.Seen.{is_over}
use Rattle.drive_steps.specs.declared.cancels.CommandCancel.{CommandCancel}
use Rattle.drive_steps.specs.declared.reported.Begun.{Begun}
use Rattle.drive_steps.specs.declared.stops.Stop.{Stop}
use Rattle.drive_steps.specs.Stops.{AreStops, can_stop, canceled_night, stop_of, tries_of}

-- ---- tests of lists

both_false : (a b : Bool) → (a || b) ≡ false → (a ≡ false) × (b ≡ false)
both_false false b none = (refl, none)
both_false true b none = cc

none_at : {X : Type 0} (test : X → Bool) (xs : List X) (i : ℕ) → list_any test xs ≡ false
    → option_map_or test (slice_get xs i) false ≡ false
none_at test [] i none = refl
none_at test (x ∷ xs) zero none = (both_false (test x) (list_any test xs) none).0
none_at test (x ∷ xs) (suc i) none =
    none_at test xs i (both_false (test x) (list_any test xs) none).1

none_done : {X : Type 0} (test : X → Bool) (xs : List X) (g : ℕ) → list_any test xs ≡ false
    → is_done (map test xs) g ≡ false
none_done test [] g none = refl
none_done test (x ∷ xs) zero none = (both_false (test x) (list_any test xs) none).0
none_done test (x ∷ xs) (suc g) none =
    none_done test xs g (both_false (test x) (list_any test xs) none).1

-- ---- one command

-- A store doesn't show that a command itself is canceled.
known_plain : (p : State) (ends : Ends) (names : Names) (commands : List Command)
    (keys : List (List ℕ)) (c : ℕ) (fact : Known)
    → slice_get (known_in p ends names commands keys) c ≡ Some fact → fact.canceled ≡ false
known_plain p ends names [] keys c fact is = absurd (none-some fact is)
known_plain p ends names (command ∷ commands) [] c fact is = absurd (none-some fact is)
known_plain p ends names (command ∷ commands) (key ∷ keys) zero fact is =
    ap (λ (o : Option Known). option_map_or (λ (k : Known). k.canceled) o false) (sym is)
known_plain p ends names (command ∷ commands) (key ∷ keys) (suc c) fact is =
    known_plain p ends names commands keys c fact is

busy_uncut : (ph : Phase) → is_busy ph ≡ true → is_cut ph ≡ false
busy_uncut phase.Busy busy = refl
busy_uncut phase.Fresh busy = refl
busy_uncut phase.EndedOk busy = refl
busy_uncut (phase.Failed last) busy = refl
busy_uncut phase.Interrupted busy = refl
busy_uncut phase.Canceled busy = cc

no_and : (b : Bool) → (b && false) ≡ false
no_and true = refl
no_and false = refl

-- A command that runs isn't canceled, unless its group is done.
not_canceled : (done : List Bool) (command : Command) (fact : Known) → fact.canceled ≡ false
    → is_busy fact.phase ≡ true → is_done done command.group ≡ false
    → is_canceled done command fact ≡ false
not_canceled done command fact plain busy going =
    ap (λ b. b || (is_cut fact.phase || (not (is_cleanup command) && is_done done command.group)))
    plain
    ∙ ap (λ b. b || (not (is_cleanup command) && is_done done command.group))
    (busy_uncut fact.phase busy)
    ∙ ap (λ b. not (is_cleanup command) && b) going ∙ no_and (not (is_cleanup command))

-- ---- the night

pub none_stops : (p : State) (ends : Ends) (plan : Plan) (names : Names)
    (canceled : List CommandCancel) → can_stop p plan names canceled ≡ false
    → (c : ℕ) → MustStop (canceled_night p ends plan names canceled) c → ⊥
none_stops p ends plan names (cancel ∷ canceled) none c must =
    false≢true (sym (both_false (not (suc (length canceled) == 0))
    (list_any (is_over p names.night) names.groups.items
    || list_any (λ (group : GroupLine). cancels group.way) plan.groups.items) none).0
    ∙ ap not (ne_eqb (suc (length canceled)) 0 (λ it. omega (arith, it))))
none_stops p ends plan names [] none c must = elim must.why [
  | inl canceled ↦
      by_rows (slice_get plan.commands.items c) refl
      (slice_get (known_in p ends names plan.commands.items names.keys.items) c) refl must.runs
      canceled
  | inr cut ↦
      false≢true (sym (none_at (λ (row : GroupLine). cancels row.way) plan.groups.items cut.group
      parts.1) ∙ cut.cancels)
]
  where
    parts : (list_any (is_over p names.night) names.groups.items ≡ false)
        × (list_any (λ (group : GroupLine). cancels group.way) plan.groups.items ≡ false)
    parts =
        both_false (list_any (is_over p names.night) names.groups.items)
        (list_any (λ (group : GroupLine). cancels group.way) plan.groups.items) none

    by_rows : (o : Option Command) → slice_get plan.commands.items c ≡ o → (k : Option Known)
        → slice_get (known_in p ends names plan.commands.items names.keys.items) c ≡ k
        → runs (night_in p ends plan names) c ≡ true
        → was_canceled (night_in p ends plan names) c ≡ true → ⊥
    by_rows None is k has busy held =
        false≢true (sym (ap (λ (o : Option Command). option_map_or (λ command. option_map_or
        (λ (fact : Known). is_busy fact.phase)
        (slice_get (known_in p ends names plan.commands.items names.keys.items) c) false) o false)
        is) ∙ busy)
    by_rows (Some command) is None has busy held =
        false≢true (sym (ap (λ (o : Option Command). option_map_or (λ command. option_map_or
        (λ (fact : Known). is_busy fact.phase)
        (slice_get (known_in p ends names plan.commands.items names.keys.items) c) false) o false)
        is ∙ ap (λ (k : Option Known). option_map_or (λ (fact : Known). is_busy fact.phase) k false)
        has) ∙ busy)
    by_rows (Some command) is (Some fact) has busy held =
        let runs_now : is_busy fact.phase ≡ true =
        sym (ap (λ (o : Option Command). option_map_or (λ command. option_map_or
        (λ (fact : Known). is_busy fact.phase)
        (slice_get (known_in p ends names plan.commands.items names.keys.items) c) false) o false)
        is ∙ ap (λ (k : Option Known). option_map_or (λ (fact : Known). is_busy fact.phase) k false)
        has) ∙ busy in
        let cut_now : is_canceled (map (is_over p names.night) names.groups.items) command fact
        ≡ true =
        sym (ap (λ (o : Option Command). option_map_or (λ command. option_map_or
        (is_canceled (map (is_over p names.night) names.groups.items) command)
        (slice_get (known_in p ends names plan.commands.items names.keys.items) c) false) o false)
        is ∙ ap (λ (k : Option Known). option_map_or
        (is_canceled (map (is_over p names.night) names.groups.items) command) k false) has)
        ∙ held in
        false≢true (sym (not_canceled (map (is_over p names.night) names.groups.items) command fact
        (known_plain p ends names plan.commands.items names.keys.items c fact has) runs_now
        (none_done (is_over p names.night) names.groups.items command.group parts.0)) ∙ cut_now)

none_of : (living : List Begun) → tries_of [] living ≡ []
none_of [] = refl
none_of (try ∷ living) = none_of living

pub no_stops : (p : State) (ends : Ends) (plan : Plan) (names : Names)
    (canceled : List CommandCancel) (living : List Begun) (stops : List Stop) → stops ≡ []
    → can_stop p plan names canceled ≡ false
    → AreStops p ends plan names canceled living stops
no_stops p ends plan names canceled living stops empty none = record {
  commands = [];
  must = λ c. (
    λ listed. absurd (none_listed c listed),
    λ must. absurd (none_stops p ends plan names canceled none c must),
  );
  those = empty ∙ sym (ap (map (stop_of p names
      (canceled_night p ends plan names canceled) canceled)) (none_of living));
}
  where
    none_listed : (c : ℕ) → Contains [] c → ⊥
    none_listed c listed = omega (arith, listed.1)
