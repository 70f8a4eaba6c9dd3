-- Groups that are done after some steps, and weren't before, are stopped by turns.
use Rattle.std.proofs.Common.{◌≡◌, ◌<◌, ◌∙◌, ◌||◌, ◌++◌, ℕ, zero, suc, ◌+◌, Bool, true, false}
use Rattle.std.proofs.Common.{cond, List, [], ◌∷◌, Option, Some, None, Result, Ok, Err, map}
use Rattle.std.proofs.Common.{slice_get, ap, refl, sym, subst, arith}
use Rattle.std.proofs.Common.{length}
use Rattle.std.proofs.lemmas.List.{length-map}
use Rattle.run_model.proofs.RowLemmas.{length-at_row}
use Rattle.run_model.specs.declared.scopes.Reason.TheVariants.{Canceled}
use Rattle.run_model.specs.TreeChanges.{new_hit, tick, with_hit}
use Rattle.std.proofs.lemmas.Bool.{eq-eqb, ne_eqb}
use Rattle.std.proofs.lemmas.Option.{none-some, same_Some, slice_get-map}
use Rattle.std.specs.Option.{option_map}
use Rattle.std.specs.Result.{result_unwrap_or}
use Rattle.run_model.specs.declared.commands.Command.TheVariants as call
use Rattle.run_model.specs.declared.commands.Step.TheVariants as step
use Rattle.run_model.specs.declared.refusals.Refusal.{Refusal}
use Rattle.run_model.specs.Event.{Event}
use Rattle.run_model.specs.Event as event
use Rattle.run_model.specs.Replies.{decide, scope_of}
use Rattle.run_model.specs.Rules.{AreNumbered, IsConsistent}
use Rattle.run_model.specs.Session.{Session, accepted, after_step, session_after, with_event}
use Rattle.run_model.specs.State.{State}
use Rattle.run_model.specs.Step as change
use Rattle.model_laws.proofs.Passing.{command_leads}
use Rattle.night_plan.specs.declared.commands.Plan.{Plan}
use Rattle.night_plan.specs.declared.facts.Known.{Known}
use Rattle.night_plan.specs.Sessions.{after_all}
use Rattle.night_plan.specs.Turns.{Stop, is_among}
use Rattle.night_drive.specs.declared.ends.Ends.{Ends}
use Rattle.night_drive.specs.declared.names.Names.{Names}
use Rattle.night_drive.specs.PlanTurns.{night_in}
use Rattle.night_drive.specs.Seen.{AreNames, is_over, known_of, moment_of}
use Rattle.night_drive.specs.Turns.{has_come, of_last}
use Rattle.night_drive.proofs.Hitting.{advance_stops, cancel_stops}
use Rattle.night_drive.proofs.Leaving.{others_leave}
use Rattle.night_drive.proofs.Staying.{KeepsScopes, advance_keeps, cancel_keeps, same_scopes}
use Rattle.model_laws.specs.Hits.{is_on}
use Rattle.model_laws.proofs.StateSteps.{run_keeps}
use Rattle.model_laws.proofs.Stepping.{accepted_runs}
use Rattle.run_model.specs.declared.commands.Step.{Step}
use Rattle.run_model.specs.Scopes.{chain}
use Rattle.std.specs.List.{cons_option}
use Rattle.std.specs.Prelude.{unwrap_or}
use Rattle.night_drive.proofs.Playing.{after_stops, done_stopped, facts_are, known_same, stopped_in}
use Rattle.drive_steps.specs.Cancels.{open_scope, scope_name, stops_of}
use Rattle.drive_steps.specs.declared.cancels.GroupCancel.{GroupCancel}
use Rattle.drive_steps.specs.Rounds.{done_from}

-- From one state to the other nothing becomes known of a command, and what was done stays done.
pub record OnlyStops (p q : State) : Type 0 where
  pub known : (ended : ℕ → ℕ) (night : Option (List ℕ)) (group key : List ℕ)
      → known_of q ended night group key ≡ known_of p ended night group key
  pub over : (night : Option (List ℕ)) (group : List ℕ) → is_over p night group ≡ true
      → is_over q night group ≡ true
  pub work : q.work ≡ p.work
  pub scopes : KeepsScopes p.tree.scopes q.tree.scopes
  pub long : length q.tree.scopes ≡ length p.tree.scopes

pub stops_nothing : (p : State) → OnlyStops p p
stops_nothing p = record {
  known = λ ended night group key. refl;
  over = λ night group was. was;
  work = refl;
  scopes = same_scopes p.tree.scopes;
  long = refl;
}

pub stops_on : (p q r : State) → OnlyStops p q → OnlyStops q r → OnlyStops p r
stops_on p q r first second = record {
  known = λ ended night group key.
      second.known ended night group key ∙ first.known ended night group key;
  over = λ night group was. second.over night group (first.over night group was);
  work = second.work ∙ first.work;
  scopes = λ s. second.scopes s ∙ first.scopes s;
  long = second.long ∙ first.long;
}

-- ---- which groups are done

too_low : (done : List Bool) (i h : ℕ) → h < i → is_among h (done_from i done) ≡ false
too_low [] i h less = refl
too_low (b ∷ done) i h less =
    by_done b (too_low done (i + 1) h (omega (arith, less)))
  where
    by_done : (b : Bool) → is_among h (done_from (i + 1) done) ≡ false
        → is_among h (cond b (i ∷ done_from (i + 1) done) (done_from (i + 1) done)) ≡ false
    by_done true rest =
        ap (λ x. x || is_among h (done_from (i + 1) done))
        (ne_eqb i h (λ it. omega (arith, it, less))) ∙ rest
    by_done false rest = rest

among_at : (done : List Bool) (i g : ℕ) (b : Bool) → slice_get done g ≡ Some b
    → is_among (i + g) (done_from i done) ≡ b
among_at [] i g b at = absurd (none-some b at)
among_at (x ∷ done) i zero b at =
    ap (λ h. is_among h (done_from i (x ∷ done))) here ∙ by_done x ∙ same_Some x b at
  where
    here : i + zero ≡ i
    here = omega arith

    by_done : (x : Bool)
        → is_among i (cond x (i ∷ done_from (i + 1) done) (done_from (i + 1) done)) ≡ x
    by_done true =
        ap (λ y. y || is_among i (done_from (i + 1) done)) (eq-eqb i i refl)
    by_done false = too_low done (i + 1) i (omega arith)
among_at (x ∷ done) i (suc g) b at =
    let next : i + suc g ≡ (i + 1) + g = omega arith in
    by_done x (ap (λ h. is_among h (done_from (i + 1) done)) next
    ∙ among_at done (i + 1) g b at)
  where
    by_done : (x : Bool) → is_among (i + suc g) (done_from (i + 1) done) ≡ b
        → is_among (i + suc g) (cond x (i ∷ done_from (i + 1) done) (done_from (i + 1) done)) ≡ b
    by_done true rest =
        ap (λ y. y || is_among (i + suc g) (done_from (i + 1) done))
        (ne_eqb i (i + suc g) (λ it. omega (arith, it))) ∙ rest
    by_done false rest = rest

-- ---- nights

more_done : (a b : Bool) → (a ≡ true → b ≡ true) → b ≡ (a || b)
more_done true b more = more refl
more_done false b more = refl

pub stops_are_turns : (p q : State) (ends : Ends) (plan : Plan) (names : Names)
    → AreNames plan names → OnlyStops p q
    → night_in q ends plan names
    ≡ after_all (night_in p ends plan names)
    (map Stop (done_from 0 (night_in q ends plan names).done))
stops_are_turns p q ends plan names are only =
    facts_are plan known (night_in q ends plan names).known (stopped_in stopped done) new
    (known_same p q ends plan names are
    (λ group key. only.known (moment_of ends) names.night group key))
    (done_stopped p q names stopped each)
    ∙ after_stops plan known done stopped
  where
    known : List Known
    known = (night_in p ends plan names).known

    done : List Bool
    done = map (is_over p names.night) names.groups.items

    new : List Bool
    new = map (is_over q names.night) names.groups.items

    stopped : List ℕ
    stopped = done_from 0 new

    each : (g : ℕ) (group : List ℕ) → slice_get names.groups.items g ≡ Some group
        → is_over q names.night group ≡ (is_over p names.night group || is_among g stopped)
    each g group at =
        let first : g ≡ 0 + g = omega arith in
        let here : is_among g stopped ≡ is_over q names.night group =
        ap (λ h. is_among h stopped) first
        ∙ among_at new 0 g (is_over q names.night group)
        (slice_get-map (is_over q names.night) names.groups.items g
        ∙ ap (option_map (is_over q names.night)) at) in
        more_done (is_over p names.night group) (is_over q names.night group)
        (only.over names.night group)
        ∙ ap (λ b. is_over p names.night group || b) (sym here)

-- ---- the clock

advance_only_stops : (p : State) (moment : ℕ) → AreNumbered p
    → OnlyStops p (change.step p (event.Advance moment))
advance_only_stops p moment numbered = record {
  known = λ ended night group key.
      others_leave p (event.Advance moment) ended night group key numbered refl refl refl;
  over = λ night group was.
      advance_stops p moment night group
      ∙ ap (λ b. b || of_last p night group (has_come p moment)) was;
  work = refl;
  scopes = advance_keeps (p.count + 1) moment p.tree;
  long = length-map p.tree.scopes (tick (p.count + 1) moment);
}

pub clock_only_stops : (s : Session) (now : ℕ) → AreNumbered s.state
    → OnlyStops s.state (after_step s (step.Command (call.Advance now))).state
clock_only_stops s now numbered = by_result (decide s.state s.log (call.Advance now)) refl
  where
    by_result : (r : Result (Option Event) Refusal)
        → decide s.state s.log (call.Advance now) ≡ r
        → OnlyStops s.state (with_event s (result_unwrap_or r None)).state
    by_result (Err why) is = stops_nothing s.state
    by_result (Ok None) is = stops_nothing s.state
    by_result (Ok (Some made)) is =
        subst (λ (e : Event). OnlyStops s.state (change.step s.state e))
        (command_leads s.state s.log (call.Advance now) made is).asks
        (advance_only_stops s.state now numbered)

-- ---- cancels of groups, and then the clock

cancel_only_stops : (p : State) (n : ℕ) (cause : Option (List ℕ)) → AreNumbered p
    → OnlyStops p (change.step p (event.Cancel n cause))
cancel_only_stops p n cause numbered = record {
  known = λ ended night group key.
      others_leave p (event.Cancel n cause) ended night group key numbered refl refl refl;
  over = λ night group was.
      cancel_stops p n cause night group
      ∙ ap (λ b. b || of_last p night group (λ last. is_on n (chain p.tree.scopes last))) was;
  work = refl;
  scopes = cancel_keeps (p.count + 1) n cause p.tree;
  long = length-at_row (with_hit (new_hit (p.count + 1) p.tree.clock Canceled cause)) n
      p.tree.scopes;
}

pub stop_only_stops : (s : Session) (name : List ℕ) (cause : Option (List ℕ)) → AreNumbered s.state
    → OnlyStops s.state (after_step s (step.Command (call.Cancel name cause))).state
stop_only_stops s name cause numbered =
    by_result (decide s.state s.log (call.Cancel name cause)) refl
  where
    by_result : (r : Result (Option Event) Refusal)
        → decide s.state s.log (call.Cancel name cause) ≡ r
        → OnlyStops s.state (with_event s (result_unwrap_or r None)).state
    by_result (Err why) is = stops_nothing s.state
    by_result (Ok None) is = stops_nothing s.state
    by_result (Ok (Some made)) is =
        subst (λ (e : Event). OnlyStops s.state (change.step s.state e))
        (command_leads s.state s.log (call.Cancel name cause) made is).asks
        (cancel_only_stops s.state (scope_of s.state name) cause numbered)

pub step_consistent : (s : Session) (x : Step) → IsConsistent s.state
    → IsConsistent (after_step s x).state
step_consistent s x consistent =
    run_keeps (accepted s (x ∷ [])) s.state (after_step s x).state consistent
    (accepted_runs s (x ∷ []))

-- The steps that cancel groups and move the clock.
abbrev pub halts_of : State → Names → List GroupCancel → (now : ℕ) → List Step
halts_of p names groups now = stops_of p names groups ++ step.Command (call.Advance now) ∷ []

pub halts_only_stop : (groups : List GroupCancel) (p : State) (names : Names) (now : ℕ)
    (s : Session) → IsConsistent s.state
    → OnlyStops s.state (session_after s (halts_of p names groups now)).state
halts_only_stop [] p names now s consistent = clock_only_stops s now consistent.numbered
halts_only_stop (cancel ∷ groups) p names now s consistent =
    by_scope (open_scope p names.night (unwrap_or (slice_get names.groups.items cancel.group) []))
    (λ t are. halts_only_stop groups p names now t are)
  where
    by_scope : (o : Option ℕ)
        → ((t : Session) → IsConsistent t.state
        → OnlyStops t.state (session_after t (halts_of p names groups now)).state)
        → OnlyStops s.state (session_after s (cons_option
        (option_map (λ n. step.Command (call.Cancel (scope_name p n) (Some cancel.why))) o)
        (stops_of p names groups) ++ step.Command (call.Advance now) ∷ [])).state
    by_scope None later = later s consistent
    by_scope (Some n) later =
        let x : Step = step.Command (call.Cancel (scope_name p n) (Some cancel.why)) in
        stops_on s.state (after_step s x).state
        (session_after (after_step s x) (halts_of p names groups now)).state
        (stop_only_stops s (scope_name p n) (Some cancel.why) consistent.numbered)
        (later (after_step s x) (step_consistent s x consistent))
