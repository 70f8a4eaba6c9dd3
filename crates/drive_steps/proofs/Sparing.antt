-- The cancels of groups and the clock make no other group done.
use Rattle.std.proofs.Common.{◌≡◌, ◌∙◌, ◌||◌, ◌==◌, ◌++◌, ◌⊎◌, ℕ, zero, suc, Bool, true, false}
use Rattle.std.proofs.Common.{cond, List, [], ◌∷◌, Option, Some, None, Result, Ok, Err, map, length}
use Rattle.std.proofs.Common.{slice_get, ap, arith, refl, sym, inl, inr}
use Rattle.std.specs.List.{cons_option, filter_map}
use Rattle.std.specs.Option.{option_and_then, option_map, option_map_or}
use Rattle.std.specs.Prelude.{nat_le, unwrap_or}
use Rattle.std.specs.Result.{result_unwrap_or}
use Rattle.run_model.specs.declared.commands.Command.TheVariants as call
use Rattle.run_model.specs.declared.commands.Step.{Step}
use Rattle.run_model.specs.declared.commands.Step.TheVariants as step
use Rattle.run_model.specs.declared.refusals.Refusal.{Refusal}
use Rattle.run_model.specs.declared.scopes.Scope.{Scope}
use Rattle.run_model.specs.Event.{Event}
use Rattle.run_model.specs.Event as event
use Rattle.run_model.specs.Replies.{decide, scope_of}
use Rattle.run_model.specs.Rules.{IsConsistent}
use Rattle.run_model.specs.Scopes.{before_detached, chain, is_detached, is_done, is_root}
use Rattle.run_model.specs.Scopes.{least_moment, line, line_within, own_deadline, upwards}
use Rattle.run_model.specs.Session.{Session, after_step, session_after, with_event}
use Rattle.run_model.specs.State.{State, TreeState}
use Rattle.run_model.specs.Step as change
use Rattle.model_laws.specs.Hits.{is_on}
use Rattle.model_laws.proofs.Passing.{command_leads}
use Rattle.night_drive.specs.declared.names.Names.{Names}
use Rattle.night_drive.specs.Searches.{last_below}
use Rattle.night_drive.specs.Seen.{is_over, is_scope}
use Rattle.night_drive.specs.Turns.{has_come, of_last}
use Rattle.night_drive.proofs.Hitting.{advance_stops, cancel_stops}
use Rattle.night_drive.proofs.Searching.{last_alike, last_passes}
use Rattle.night_drive.proofs.Staying.{KeepsScopes, unhit}
use Rattle.drive_steps.specs.Cancels.{IsReached, OthersGoOn, open_scope, scope_name, stops_of}
use Rattle.drive_steps.specs.declared.cancels.GroupCancel.{GroupCancel}
use Rattle.drive_steps.proofs.Ceasing.{FoundScope, found_scope, named_scope, scope_alike}
use Rattle.drive_steps.proofs.Going.{scopes_same}
use Rattle.drive_steps.proofs.Playing.{contains_there}
use Rattle.drive_steps.proofs.Stopping.{halts_of, step_consistent, stop_only_stops}

-- ---- chains, but for hits

-- A row of a chain, without its hit.
abbrev strip : ℕ × Scope → ℕ × Scope
strip r = (r.0, unhit r.1)

up_without : (s : ℕ) (f : ℕ → List (ℕ × Scope)) (o : Option Scope)
    → map strip (upwards f s o) ≡ map strip (upwards f s (option_map unhit o))
up_without s f None = refl
up_without s f (Some row) = refl

up_alike : (s : ℕ) (f g : ℕ → List (ℕ × Scope)) → ((t : ℕ) → map strip (f t) ≡ map strip (g t))
    → (o : Option Scope) → map strip (upwards f s o) ≡ map strip (upwards g s o)
up_alike s f g same None = refl
up_alike s f g same (Some row) =
    ap (λ (xs : List (ℕ × Scope)). (s, unhit row) ∷ xs) (by_root (is_root row.kind))
  where
    by_root : (b : Bool)
        → map strip (cond b [] (f row.parent)) ≡ map strip (cond b [] (g row.parent))
    by_root true = refl
    by_root false = same row.parent

line_alike : (old new : List Scope) → KeepsScopes old new → (most s : ℕ)
    → map strip (line_within most new s) ≡ map strip (line_within most old s)
line_alike old new kept zero s = refl
line_alike old new kept (suc most) s =
    up_without s (line_within most new) (slice_get new s)
    ∙ ap (λ (o : Option Scope). map strip (upwards (line_within most new) s o)) (kept s)
    ∙ sym (up_without s (line_within most new) (slice_get old s))
    ∙ up_alike s (line_within most new) (line_within most old) (line_alike old new kept most)
    (slice_get old s)

before_alike : (rows : List (ℕ × Scope))
    → map strip (before_detached rows) ≡ before_detached (map strip rows)
before_alike [] = refl
before_alike (r ∷ rows) = by_detached (is_detached r.1.kind) (before_alike rows)
  where
    by_detached : (b : Bool)
        → map strip (before_detached rows) ≡ before_detached (map strip rows)
        → map strip (cond b [] (r ∷ before_detached rows))
        ≡ cond b [] (strip r ∷ before_detached (map strip rows))
    by_detached true same = refl
    by_detached false same = ap (λ (xs : List (ℕ × Scope)). strip r ∷ xs) same

chain_alike : (old new : List Scope) → KeepsScopes old new → (s : ℕ)
    → map strip (chain new s) ≡ map strip (chain old s)
chain_alike old new kept s =
    before_alike (line new s) ∙ ap before_detached (line_alike old new kept (suc s) s)
    ∙ sym (before_alike (line old s))

on_alike : (n : ℕ) (rows : List (ℕ × Scope)) → is_on n (map strip rows) ≡ is_on n rows
on_alike n [] = refl
on_alike n (r ∷ rows) = ap (λ b. (r.0 == n) || b) (on_alike n rows)

dates_alike : (rows : List (ℕ × Scope))
    → filter_map (λ (r : ℕ × Scope). own_deadline r.1.kind) (map strip rows)
    ≡ filter_map (λ (r : ℕ × Scope). own_deadline r.1.kind) rows
dates_alike [] = refl
dates_alike (r ∷ rows) = ap (cons_option (own_deadline r.1.kind)) (dates_alike rows)

on_chain : (old new : List Scope) → KeepsScopes old new → (n s : ℕ)
    → is_on n (chain new s) ≡ is_on n (chain old s)
on_chain old new kept n s =
    sym (on_alike n (chain new s)) ∙ ap (is_on n) (chain_alike old new kept s)
    ∙ on_alike n (chain old s)

come_alike : (p x : State) → KeepsScopes p.tree.scopes x.tree.scopes → (now s : ℕ)
    → has_come x now s ≡ has_come p now s
come_alike p x kept now s =
    ap (λ (o : Option ℕ). option_map_or (λ deadline. nat_le deadline now) o false)
    (ap least_moment
    (sym (dates_alike (chain x.tree.scopes s))
    ∙ ap (filter_map (λ (r : ℕ × Scope). own_deadline r.1.kind))
    (chain_alike p.tree.scopes x.tree.scopes kept s)
    ∙ dates_alike (chain p.tree.scopes s)))

-- ---- the last scope of a group

-- The second state has the scopes of the first one, but for hits.
record Alike (p x : State) : Type 0 where
  scopes : KeepsScopes p.tree.scopes x.tree.scopes
  long : length x.tree.scopes ≡ length p.tree.scopes

last_alike_in : (p x : State) → Alike p x → (night : Option (List ℕ)) (group : List ℕ)
    → last_below (is_scope x night group) (length x.tree.scopes)
    ≡ last_below (is_scope p night group) (length p.tree.scopes)
last_alike_in p x same night group =
    last_alike (is_scope x night group) (is_scope p night group)
    (scope_alike p x same.scopes night group) (length x.tree.scopes)
    ∙ ap (last_below (is_scope p night group)) same.long

-- What is asked of it.
asked_alike : (p x : State) → Alike p x → (night : Option (List ℕ)) (group : List ℕ)
    (f g : ℕ → Bool) → ((s : ℕ) → f s ≡ g s) → of_last x night group f ≡ of_last p night group g
asked_alike p x same night group f g alike =
    ap (λ (o : Option ℕ). option_map_or f o false) (last_alike_in p x same night group)
    ∙ by_last (last_below (is_scope p night group) (length p.tree.scopes))
  where
    by_last : (o : Option ℕ) → option_map_or f o false ≡ option_map_or g o false
    by_last None = refl
    by_last (Some s) = alike s

either : (a b : Bool) → (a || b) ≡ true → (a ≡ true) ⊎ (b ≡ true)
either true b is = inl refl
either false b is = inr is

-- ---- the steps

-- The clock makes a group done only if its deadline has come.
clock_spares : (p : State) (x : Session) (now : ℕ) (night : Option (List ℕ)) (other : List ℕ)
    → Alike p x.state
    → is_over (after_step x (step.Command (call.Advance now))).state night other ≡ true
    → (is_over x.state night other ≡ true) ⊎ (of_last p night other (has_come p now) ≡ true)
clock_spares p x now night other same =
    by_result (decide x.state x.log (call.Advance now)) refl
  where
    by_result : (r : Result (Option Event) Refusal)
        → decide x.state x.log (call.Advance now) ≡ r
        → is_over (with_event x (result_unwrap_or r None)).state night other ≡ true
        → (is_over x.state night other ≡ true) ⊎ (of_last p night other (has_come p now) ≡ true)
    by_result (Err why) is over = inl over
    by_result (Ok None) is over = inl over
    by_result (Ok (Some made)) is over =
        let asks = (command_leads x.state x.log (call.Advance now) made is).asks in
        let done : (is_over x.state night other
        || of_last x.state night other (has_come x.state now)) ≡ true =
        sym (advance_stops x.state now night other)
        ∙ ap (λ (e : Event). is_over (change.step x.state e) night other) asks ∙ over in
        elim (either (is_over x.state night other)
        (of_last x.state night other (has_come x.state now)) done) [
          | inl was ↦ inl was
          | inr came ↦
              inr (sym (asked_alike p x.state same night other (has_come x.state now)
              (has_come p now) (come_alike p x.state same.scopes now)) ∙ came)
        ]

-- A cancel makes a group done only if it cancels a scope on the chain of its last one.
cancel_spares : (p : State) (x : Session) (m : ℕ) (name why : List ℕ)
    (night : Option (List ℕ)) (other : List ℕ) → Alike p x.state → scope_of x.state name ≡ m
    → is_over (after_step x (step.Command (call.Cancel name (Some why)))).state night other ≡ true
    → (is_over x.state night other ≡ true)
    ⊎ (of_last p night other (λ s. is_on m (chain p.tree.scopes s)) ≡ true)
cancel_spares p x m name why night other same named =
    by_result (decide x.state x.log (call.Cancel name (Some why))) refl
  where
    by_result : (r : Result (Option Event) Refusal)
        → decide x.state x.log (call.Cancel name (Some why)) ≡ r
        → is_over (with_event x (result_unwrap_or r None)).state night other ≡ true
        → (is_over x.state night other ≡ true)
        ⊎ (of_last p night other (λ s. is_on m (chain p.tree.scopes s)) ≡ true)
    by_result (Err refused) is over = inl over
    by_result (Ok None) is over = inl over
    by_result (Ok (Some made)) is over =
        let asks = (command_leads x.state x.log (call.Cancel name (Some why)) made is).asks in
        let here : event.Cancel m (Some why) ≡ made =
        ap (λ (t : ℕ). event.Cancel t (Some why)) (sym named) ∙ asks in
        let done : (is_over x.state night other
        || of_last x.state night other (λ s. is_on m (chain x.state.tree.scopes s))) ≡ true =
        sym (cancel_stops x.state m (Some why) night other)
        ∙ ap (λ (e : Event). is_over (change.step x.state e) night other) here ∙ over in
        elim (either (is_over x.state night other)
        (of_last x.state night other (λ s. is_on m (chain x.state.tree.scopes s))) done) [
          | inl was ↦ inl was
          | inr above ↦
              inr (sym (asked_alike p x.state same night other
              (λ s. is_on m (chain x.state.tree.scopes s)) (λ s. is_on m (chain p.tree.scopes s))
              (on_chain p.tree.scopes x.state.tree.scopes same.scopes m)) ∙ above)
        ]

-- The scope that is still open is the last one.
open_last : (p : State) (o : Option ℕ) (m : ℕ)
    → option_and_then (λ s. cond (is_done p.tree.scopes s) None (Some s)) o ≡ Some m → o ≡ Some m
open_last p None m is = cc
open_last p (Some s) m is = by_done (is_done p.tree.scopes s) is
  where
    by_done : (b : Bool) → cond b None (Some s) ≡ Some m → Some s ≡ Some m
    by_done true is = cc
    by_done false is = is

-- What makes a group done.
abbrev Cause : State → Names → List GroupCancel → (now : ℕ) → Option (List ℕ) → List ℕ → Type 0
Cause p names groups now night other =
    (of_last p night other (has_come p now) ≡ true) ⊎ IsReached p names groups night other

later_cause : (p : State) (names : Names) (cancel : GroupCancel) (groups : List GroupCancel)
    (now : ℕ) (night : Option (List ℕ)) (other : List ℕ) → Cause p names groups now night other
    → Cause p names (cancel ∷ groups) now night other
later_cause p names cancel groups now night other (inl came) = inl came
later_cause p names cancel groups now night other (inr hit) = inr (record {
  cancel = hit.cancel;
  listed = contains_there groups cancel hit.cancel hit.listed;
  scope = hit.scope;
  last = hit.last;
  above = hit.above;
})

groups_spare : (groups : List GroupCancel) (p : State) (names : Names) (now : ℕ) (x : Session)
    (night : Option (List ℕ)) (other : List ℕ) → Alike p x.state → IsConsistent x.state
    → is_over (session_after x (halts_of p names groups now)).state night other ≡ true
    → (is_over x.state night other ≡ true) ⊎ Cause p names groups now night other
groups_spare [] p names now x night other same consistent over =
    elim (clock_spares p x now night other same over) [
      | inl was ↦ inl was
      | inr came ↦ inr (inl came)
    ]
groups_spare (c ∷ groups) p names now x night other same consistent over =
    by_scope (open_scope p names.night (unwrap_or (slice_get names.groups.items c.group) [])) refl
    over (λ y are_same are done. groups_spare groups p names now y night other are_same are done)
  where
    Later : Type 0
    Later =
        (y : Session) → Alike p y.state → IsConsistent y.state
        → is_over (session_after y (halts_of p names groups now)).state night other ≡ true
        → (is_over y.state night other ≡ true) ⊎ Cause p names groups now night other

    made_of : ℕ → Step
    made_of m = step.Command (call.Cancel (scope_name p m) (Some c.why))

    halts_by : Option ℕ → List Step
    halts_by o =
        cons_option (option_map made_of o) (stops_of p names groups)
        ++ step.Command (call.Advance now) ∷ []

    by_scope : (o : Option ℕ)
        → open_scope p names.night (unwrap_or (slice_get names.groups.items c.group) []) ≡ o
        → is_over (session_after x (halts_by o)).state night other ≡ true → Later
        → (is_over x.state night other ≡ true) ⊎ Cause p names (c ∷ groups) now night other
    by_scope None is done later = elim (later x same consistent done) [
      | inl was ↦ inl was
      | inr cause ↦ inr (later_cause p names c groups now night other cause)
    ]
    by_scope (Some m) is done later =
        let y : Session = after_step x (made_of m) in
        let only = stop_only_stops x (scope_name p m) (Some c.why) consistent.numbered in
        let group : List ℕ = unwrap_or (slice_get names.groups.items c.group) [] in
        let last : last_below (is_scope p names.night group) (length p.tree.scopes) ≡ Some m =
        open_last p (last_below (is_scope p names.night group) (length p.tree.scopes)) m is in
        let found : FoundScope p m = found_scope p names.night group m
        (last_passes (is_scope p names.night group) (length p.tree.scopes) m last) in
        let named : scope_of x.state (scope_name p m) ≡ m =
        named_scope p x.state same.scopes consistent.numbered m found in
        elim (later y (record {
          scopes = λ s. only.scopes s ∙ same.scopes s;
          long = only.long ∙ same.long;
        }) (step_consistent x (made_of m) consistent) done) [
          | inl over_y ↦ elim (cancel_spares p x m (scope_name p m) c.why night other same named
              over_y) [
                | inl was ↦ inl was
                | inr above ↦ inr (inr (record {
                  cancel = c;
                  listed = (zero, omega arith, refl);
                  scope = m;
                  last = last;
                  above = above;
                }))
              ]
          | inr cause ↦ inr (later_cause p names c groups now night other cause)
        ]

pub others_go_on : OthersGoOn
others_go_on p s names groups now night other same consistent over =
    elim (groups_spare groups p names now s night other (record {
      scopes = scopes_same p s.state same;
      long = ap (λ (t : TreeState). length t.scopes) same;
    }) consistent over) [
      | inl was ↦
          inl (ap (λ (t : TreeState). is_over (record p { tree = t }) night other) (sym same) ∙ was)
      | inr cause ↦ inr cause
    ]
