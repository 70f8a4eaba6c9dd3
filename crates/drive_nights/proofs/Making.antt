-- Scopes and groups are added to those that were there, and limits are taken away.
use Rattle.std.proofs.Common.{suc}
use Rattle.std.proofs.Common.{◌≡◌, ◌<◌, ◌≤◌, ◌∙◌, ◌&&◌, ◌+◌, ℕ, Bool, true, false, cond, List, []}
use Rattle.std.proofs.Common.{◌∷◌, ◌++◌, Option, Some, None, length, slice_get, inl, inr, ap, refl}
use Rattle.std.proofs.Common.{sym, subst, arith, length-append, is_some}
use Rattle.std.specs.List.{filter_map, list_all}
use Rattle.std.specs.Option.{option_and_then, option_map, option_map_or}
use Rattle.run_model.proofs.Common.{and_parts}
use Rattle.run_model.proofs.RowLemmas.{length-at_row, map-at_row, push_cases, slice_get-push_left}
use Rattle.run_model.specs.declared.commands.Command.{Command}
use Rattle.run_model.specs.declared.commands.Command.TheVariants as call
use Rattle.run_model.specs.declared.commands.Step.{Step}
use Rattle.run_model.specs.declared.commands.Step.TheVariants as step
use Rattle.run_model.specs.declared.groups.Group.{Group}
use Rattle.run_model.specs.declared.scopes.Kind.{Kind}
use Rattle.run_model.specs.declared.scopes.Scope.{Scope}
use Rattle.run_model.specs.Event.{Event}
use Rattle.run_model.specs.Event as event
use Rattle.run_model.specs.Replies.{decide, event_of}
use Rattle.run_model.specs.Rows.{at_row, new_group, new_scope}
use Rattle.run_model.specs.Rules.{AreNumbered, IsConsistent}
use Rattle.run_model.specs.Scopes.{before_detached, hit_at, is_done, least_hit}
use Rattle.run_model.specs.Session.{Session, after_step, event_of_step, session_after, with_event}
use Rattle.run_model.specs.State.{State}
use Rattle.run_model.specs.Step as change
use Rattle.run_model.specs.Step.{own_scope}
use Rattle.run_model.specs.TreeChanges.{tick}
use Rattle.run_model.specs.WorkChanges.{with_limit}
use Rattle.model_laws.proofs.Passing.{command_leads}
use Rattle.model_laws.proofs.Stepping.{made_Some}
use Rattle.night_drive.specs.Names.{belongs, is_same, night_of}
use Rattle.night_drive.specs.PlanTurns.{AreBare}
use Rattle.night_drive.specs.Seen.{is_owned, known_of}
use Rattle.night_drive.proofs.Leaving.{line_pushed, night_pushed, others_leave}
use Rattle.night_drive.proofs.Staying.{owned_stays, row_by_row, same_scopes, unmarked}
use Rattle.drive_nights.proofs.Taking.{consistent_after}

-- The second state has all rows of the first one, and perhaps scopes and groups after them. Nothing
-- that was known of a command has changed.
pub record Grows (p q : State) : Type 0 where
  pub clock : q.tree.clock ≡ p.tree.clock
  pub tasks : q.work.tasks ≡ p.work.tasks
  pub scopes : (s : ℕ) → s < length p.tree.scopes
      → slice_get q.tree.scopes s ≡ slice_get p.tree.scopes s
  pub longer : length p.tree.scopes ≤ length q.tree.scopes
  pub nights : (s : ℕ) → s < length p.tree.scopes → night_of q s ≡ night_of p s
  pub done : (s : ℕ) → s < length p.tree.scopes
      → is_done q.tree.scopes s ≡ is_done p.tree.scopes s
  pub more : length p.work.groups ≤ length q.work.groups
  pub owned : (night : Option (List ℕ)) (group : List ℕ) (g : ℕ) → g < length p.work.groups
      → is_owned q night group g ≡ is_owned p night group g
  pub bare : AreBare p.work → AreBare q.work
  pub known : (ended : ℕ → ℕ) (night : Option (List ℕ)) (group key : List ℕ)
      → known_of q ended night group key ≡ known_of p ended night group key

pub grows_nowhere : (p : State) → Grows p p
grows_nowhere p = record {
  clock = refl;
  tasks = refl;
  scopes = λ s less. refl;
  longer = omega arith;
  nights = λ s less. refl;
  done = λ s less. refl;
  more = omega arith;
  owned = λ night group g less. refl;
  bare = λ all. all;
  known = λ ended night group key. refl;
}

pub grows_on : (p q r : State) → Grows p q → Grows q r → Grows p r
grows_on p q r first second = record {
  clock = second.clock ∙ first.clock;
  tasks = second.tasks ∙ first.tasks;
  scopes = λ s less.
      second.scopes s (omega (arith, less, first.longer)) ∙ first.scopes s less;
  longer = omega (arith, first.longer, second.longer);
  nights = λ s less.
      second.nights s (omega (arith, less, first.longer)) ∙ first.nights s less;
  done = λ s less. second.done s (omega (arith, less, first.longer)) ∙ first.done s less;
  more = omega (arith, first.more, second.more);
  owned = λ night group g less.
      second.owned night group g (omega (arith, less, first.more)) ∙ first.owned night group g less;
  bare = λ all. second.bare (first.bare all);
  known = λ ended night group key.
      second.known ended night group key ∙ first.known ended night group key;
}

-- ---- a scope

-- A line with a hit before the first detached row.
abbrev is_hit : List (ℕ × Scope) → Bool
is_hit rows = is_some (option_map (λ a. a.1) (least_hit (filter_map hit_at (before_detached rows))))

pub derive_grows : (p : State) (name : List ℕ) (s : ℕ) (kind : Kind) → AreNumbered p
    → Grows p (change.step p (event.Derive name s kind))
derive_grows p name s kind numbered = record {
  clock = refl;
  tasks = refl;
  scopes = slice_get-push_left p.tree.scopes new;
  longer = omega (arith, length-append p.tree.scopes (new ∷ []));
  nights = nights;
  done = λ t less. ap is_hit (line_pushed p.tree.scopes new numbered.ordered (suc t) t less);
  more = omega arith;
  owned = λ night group g less. by_group night group g (slice_get p.work.groups g) refl;
  bare = λ all. all;
  known = λ ended night group key.
      others_leave p (event.Derive name s kind) ended night group key numbered refl refl refl;
}
  where
    new : Scope
    new = tick (p.count + 1) p.tree.clock (new_scope name s kind)

    q : State
    q = change.step p (event.Derive name s kind)

    nights : (t : ℕ) → t < length p.tree.scopes
        → night_of (change.step p (event.Derive name s kind)) t ≡ night_of p t
    nights t less =
        night_pushed p (change.step p (event.Derive name s kind)) new numbered.ordered refl t less

    by_group : (night : Option (List ℕ)) (group : List ℕ) (g : ℕ) (o : Option Group)
        → slice_get p.work.groups g ≡ o
        → option_map_or (λ row. belongs group row.name && is_same (night_of q row.scope) night) o
        false
        ≡ option_map_or (λ row. belongs group row.name && is_same (night_of p row.scope) night) o
        false
    by_group night group g None found = refl
    by_group night group g (Some row) found =
        ap (λ n. belongs group row.name && is_same n night)
        (nights row.scope (numbered.scopes g row found))

-- ---- a group

-- The scope that a row of a group cancels, if it has one of its own.
abbrev pub own_of : Option Group → Option ℕ
own_of o = option_and_then (λ group. cond group.bare None (Some group.scope)) o

pub bare_grows : (p : State) (name : List ℕ) (s : ℕ) → AreNumbered p
    → Grows p (change.step p (event.Bare name s))
bare_grows p name s numbered = record {
  clock = refl;
  tasks = refl;
  scopes = λ t less. refl;
  longer = omega arith;
  nights = λ t less. refl;
  done = λ t less. refl;
  more = omega (arith, length-append p.work.groups (new_group name s true ∷ []));
  owned = λ night group g less.
      ap (λ o. option_map_or (λ (row : Group). belongs group row.name
      && is_same (night_of p row.scope) night) o false)
      (slice_get-push_left p.work.groups (new_group name s true) g less);
  bare = λ all g.
      by_row all g (slice_get (p.work.groups ++ new_group name s true ∷ []) g) refl;
  known = λ ended night group key.
      others_leave p (event.Bare name s) ended night group key numbered refl refl refl;
}
  where
    by_row : AreBare p.work → (g : ℕ) (o : Option Group)
        → slice_get (p.work.groups ++ new_group name s true ∷ []) g ≡ o → own_of o ≡ None
    by_row all g None at = refl
    by_row all g (Some row) at =
        elim (push_cases p.work.groups (new_group name s true) g row at) [
          | inl old ↦ ap own_of (sym old) ∙ all g
          | inr last ↦ ap (λ (r : Group). own_of (Some r)) last.1
        ]

-- ---- a limit

pub unmarked_owns : (o : Option Group) → own_of o ≡ own_of (option_map unmarked o)
unmarked_owns None = refl
unmarked_owns (Some row) = refl

pub limit_grows : (p : State) (g : ℕ) (limit : Option ℕ) → AreNumbered p
    → Grows p (change.step p (event.SetLimit g limit))
limit_grows p g limit numbered = record {
  clock = refl;
  tasks = refl;
  scopes = λ t less. refl;
  longer = omega arith;
  nights = λ t less. refl;
  done = λ t less. refl;
  more = omega (arith, length-at_row (with_limit limit) g p.work.groups);
  owned = λ night group h less.
      owned_stays p (change.step p (event.SetLimit g limit)) (same_scopes p.tree.scopes) rows night
      group h;
  bare = λ all h.
      unmarked_owns (slice_get (at_row (with_limit limit) g p.work.groups) h)
      ∙ ap own_of (rows h) ∙ sym (unmarked_owns (slice_get p.work.groups h)) ∙ all h;
  known = λ ended night group key.
      others_leave p (event.SetLimit g limit) ended night group key numbered refl refl refl;
}
  where
    rows : (h : ℕ)
        → option_map unmarked (slice_get (at_row (with_limit limit) g p.work.groups) h)
        ≡ option_map unmarked (slice_get p.work.groups h)
    rows =
        row_by_row unmarked p.work.groups (at_row (with_limit limit) g p.work.groups)
        (map-at_row unmarked (with_limit limit) g p.work.groups (λ row. refl))

-- ---- rows of steps

-- A step of this kind makes a scope or a group, or sets a limit, or flushes.
abbrev pub is_maker : Command → Bool
is_maker (call.Derive name parent wish) = true
is_maker (call.Bare name scope) = true
is_maker (call.SetLimit group limit) = true
is_maker _ = false

abbrev pub is_making : Step → Bool
is_making (step.Command call) = is_maker call
is_making step.Flush = true
is_making _ = false

made_grows : (p : State) (c : Command) → is_maker c ≡ true → AreNumbered p
    → Grows p (change.step p (event_of p c))
made_grows p (call.Derive name parent wish) is numbered = derive_grows p name _ _ numbered
made_grows p (call.Bare name scope) is numbered = bare_grows p name _ numbered
made_grows p (call.SetLimit group limit) is numbered = limit_grows p _ limit numbered
made_grows p (call.Cancel scope cause) is numbered = cc
made_grows p (call.Advance moment) is numbered = cc
made_grows p (call.Group name parent) is numbered = cc
made_grows p (call.Go group job argument) is numbered = cc
made_grows p (call.TryGo group job argument) is numbered = cc
made_grows p (call.Retry n) is numbered = cc
made_grows p (call.Wait group) is numbered = cc

step_grows : (s : Session) (x : Step) → is_making x ≡ true → IsConsistent s.state
    → Grows s.state (after_step s x).state
step_grows s step.Flush is consistent = grows_nowhere s.state
step_grows s step.Start is consistent = cc
step_grows s step.Checkpoint is consistent = cc
step_grows s (step.Finish n outcome) is consistent = cc
step_grows s (step.Command c) is consistent = by_event (event_of_step s (step.Command c)) refl
  where
    by_event : (o : Option Event) → event_of_step s (step.Command c) ≡ o
        → Grows s.state (with_event s o).state
    by_event None at = grows_nowhere s.state
    by_event (Some made) at =
        let leads = command_leads s.state s.log c made
        (made_Some (decide s.state s.log c) made at) in
        subst (λ (e : Event). Grows s.state (change.step s.state e)) leads.asks
        (made_grows s.state c is consistent.numbered)

pub row_grows : (row : List Step) (s : Session) → list_all is_making row ≡ true
    → IsConsistent s.state → Grows s.state (session_after s row).state
row_grows [] s all consistent = grows_nowhere s.state
row_grows (x ∷ row) s all consistent =
    let parts = and_parts (is_making x) (list_all is_making row) all in
    grows_on s.state (after_step s x).state (session_after s (x ∷ row)).state
    (step_grows s x parts.0 consistent)
    (row_grows row (after_step s x) parts.1 (consistent_after s (x ∷ []) consistent))
