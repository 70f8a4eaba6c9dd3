-- A group that is canceled is done.
use Rattle.std.proofs.Common.{◌≡◌, ◌∙◌, ◌&&◌, ◌||◌, ◌⊎◌, ◌++◌, ℕ, not, Bool, true}
use Rattle.std.proofs.Common.{false, cond, List, [], ◌∷◌, Option, Some, None, Result, Ok, Err}
use Rattle.std.proofs.Common.{length}
use Rattle.std.proofs.Common.{slice_get, ap, refl, sym, subst, inl, inr, arith}
use Rattle.std.proofs.lemmas.Bool.{eq-eqb, false≢true, lt-ltb}
use Rattle.std.proofs.lemmas.Option.{none-some, same_Some, slice_get_within}
use Rattle.std.specs.List.{Contains, cons_option, list_any}
use Rattle.std.specs.Option.{option_and_then, option_map, option_map_or}
use Rattle.std.proofs.Math.Bool.{or-true}
use Rattle.std.specs.Prelude.{is_some, unwrap_or}
use Rattle.std.specs.Result.{result_unwrap_or}
use Rattle.run_model.specs.Allowed.{has_kind, has_row, is_cancellable, takes_cause}
use Rattle.run_model.specs.declared.answers.Reply.TheVariants as reply
use Rattle.run_model.specs.declared.commands.Command.TheVariants as call
use Rattle.run_model.specs.declared.commands.Step.{Step}
use Rattle.run_model.specs.declared.commands.Step.TheVariants as step
use Rattle.run_model.specs.declared.refusals.Refusal.{Refusal}
use Rattle.run_model.specs.declared.refusals.Refusal.TheVariants as refusal
use Rattle.run_model.specs.declared.scopes.Kind.{Kind}
use Rattle.run_model.specs.declared.scopes.Kind.TheVariants as kind
use Rattle.run_model.specs.declared.scopes.Scope.{Scope}
use Rattle.run_model.specs.Event.{Event}
use Rattle.run_model.specs.Event as event
use Rattle.run_model.specs.Replies.{and_then, answer_of, decide, decided, if_room, scope_of}
use Rattle.run_model.specs.Replies.{state_after}
use Rattle.run_model.specs.Replies.{is_full as is_too_long}
use Rattle.run_model.specs.Rules.{AreNumbered, IsConsistent}
use Rattle.run_model.specs.Scopes.{before_detached, chain, is_detached, is_done, is_root}
use Rattle.run_model.specs.Scopes.{line_within, upwards}
use Rattle.run_model.specs.Session.{Session, after_step, event_of_step, replied, replies}
use Rattle.run_model.specs.Session.{reply_of_step, session_after, with_event}
use Rattle.run_model.specs.State.{State, TreeState}
use Rattle.model_laws.proofs.Names.{place_of_name}
use Rattle.model_laws.specs.Hits.{is_on}
use Rattle.night_drive.specs.declared.names.Names.{Names}
use Rattle.night_drive.specs.Names.{belongs, is_same, night_of}
use Rattle.night_drive.specs.Searches.{last_below}
use Rattle.night_drive.specs.Seen.{is_over, is_scope}
use Rattle.night_drive.proofs.Hitting.{cancel_stops}
use Rattle.night_drive.proofs.Searching.{last_alike, last_passes}
use Rattle.night_drive.proofs.Staying.{KeepsScopes, night_stays, unhit}
use Rattle.drive_steps.specs.Cancels.{GroupsAreCanceled, is_full, open_scope, scope_name}
use Rattle.drive_steps.specs.Cancels.{stops_of}
use Rattle.drive_steps.specs.declared.cancels.GroupCancel.{GroupCancel}
use Rattle.drive_steps.proofs.Going.{scopes_same}
use Rattle.drive_steps.proofs.Stopping.{OnlyStops, halts_of, halts_only_stop, step_consistent}
use Rattle.drive_steps.proofs.Stopping.{stop_only_stops}
use Rattle.drive_steps.proofs.Surviving.{contains_cases}

-- The second state has the scopes of the first one, but for hits, and what was done is done.
record Kept (p x : State) : Type 0 where
  scopes : KeepsScopes p.tree.scopes x.tree.scopes
  long : length x.tree.scopes ≡ length p.tree.scopes
  over : (night : Option (List ℕ)) (group : List ℕ) → is_over p night group ≡ true
      → is_over x night group ≡ true

kept_on : (p x y : State) → Kept p x → OnlyStops x y → Kept p y
kept_on p x y kept only = record {
  scopes = λ s. only.scopes s ∙ kept.scopes s;
  long = only.long ∙ kept.long;
  over = λ night group was. only.over night group (kept.over night group was);
}

-- ---- the last scope

pub scope_alike : (p x : State) → KeepsScopes p.tree.scopes x.tree.scopes
    → (night : Option (List ℕ)) (group : List ℕ) (s : ℕ)
    → is_scope x night group s ≡ is_scope p night group s
scope_alike p x kept night group s =
    by_night (slice_get x.tree.scopes s)
    ∙ without (slice_get x.tree.scopes s)
    ∙ ap (λ o. option_map_or test o false) (kept s)
    ∙ sym (without (slice_get p.tree.scopes s))
  where
    test : Scope → Bool
    test row =
        takes_cause row.kind && (belongs group row.name && is_same (night_of p s) night)

    by_night : (o : Option Scope)
        → option_map_or (λ (row : Scope). takes_cause row.kind
        && (belongs group row.name && is_same (night_of x s) night)) o false
        ≡ option_map_or test o false
    by_night None = refl
    by_night (Some row) =
        ap (λ n. takes_cause row.kind && (belongs group row.name && is_same n night))
        (night_stays p x kept s)

    without : (o : Option Scope)
        → option_map_or test o false ≡ option_map_or test (option_map unhit o) false
    without None = refl
    without (Some row) = refl

last_same : (p x : State) → Kept p x → (night : Option (List ℕ)) (group : List ℕ) (n : ℕ)
    → last_below (is_scope p night group) (length p.tree.scopes) ≡ Some n
    → last_below (is_scope x night group) (length x.tree.scopes) ≡ Some n
last_same p x kept night group n last =
    last_alike (is_scope x night group) (is_scope p night group)
    (scope_alike p x kept.scopes night group) (length x.tree.scopes)
    ∙ ap (last_below (is_scope p night group)) kept.long ∙ last

-- There is a row, and it takes a cause.
pub record FoundScope (p : State) (n : ℕ) : Type 0 where
  pub row : Scope
  pub found : slice_get p.tree.scopes n ≡ Some row
  pub cause : takes_cause row.kind ≡ true

first_true : (a b : Bool) → (a && b) ≡ true → a ≡ true
first_true true b is = refl
first_true false b is = cc

pub found_scope : (p : State) (night : Option (List ℕ)) (group : List ℕ) (n : ℕ)
    → is_scope p night group n ≡ true → FoundScope p n
found_scope p night group n is = by_row (slice_get p.tree.scopes n) refl is
  where
    by_row : (o : Option Scope) → slice_get p.tree.scopes n ≡ o
        → option_map_or (λ (row : Scope). takes_cause row.kind
        && (belongs group row.name && is_same (night_of p n) night)) o false ≡ true
        → FoundScope p n
    by_row None found is = cc
    by_row (Some row) found is =
        record { row = row; found = found; cause = first_true (takes_cause row.kind) _ is }

-- It is found by its name.
pub named_scope : (p x : State) → KeepsScopes p.tree.scopes x.tree.scopes → AreNumbered x → (n : ℕ)
    → (at : FoundScope p n) → scope_of x (scope_name p n) ≡ n
named_scope p x kept numbered n at =
    by_row (slice_get x.tree.scopes n) refl (kept n ∙ ap (option_map unhit) at.found)
  where
    by_row : (o : Option Scope) → slice_get x.tree.scopes n ≡ o
        → option_map unhit o ≡ Some (unhit at.row) → scope_of x (scope_name p n) ≡ n
    by_row None found same = absurd (none-some (unhit at.row) same)
    by_row (Some row) found same =
        let one : unhit row ≡ unhit at.row = same_Some (unhit row) (unhit at.row) same in
        let named : scope_name p n ≡ row.name =
        ap (λ (o : Option Scope). option_map_or (λ (y : Scope). y.name) o []) at.found
        ∙ sym (ap (λ (y : Scope). y.name) one) in
        ap (scope_of x) named
        ∙ ap (λ (o : Option ℕ). unwrap_or o (length x.tree.scopes))
        (place_of_name (λ (y : Scope). y.name) x.tree.scopes n row
        (λ m k a b one other same. numbered.scope_names m k a b one other same) found)

-- ---- a cancel

cancellable : (k : Kind) → takes_cause k ≡ true → is_cancellable k ≡ true
cancellable kind.Cause is = refl
cancellable kind.Root is = cc
cancellable kind.Cancel is = refl
cancellable (kind.Deadline moment cause) is = refl
cancellable (kind.Value key text) is = cc
cancellable kind.Detached is = cc
cancellable kind.Group is = cc

attached : (k : Kind) → takes_cause k ≡ true → is_detached k ≡ false
attached kind.Cause is = refl
attached kind.Root is = refl
attached kind.Cancel is = refl
attached (kind.Deadline moment cause) is = refl
attached (kind.Value key text) is = refl
attached kind.Detached is = cc
attached kind.Group is = refl

-- A scope stands on its own chain.
on_itself : (rows : List Scope) (n : ℕ) (row : Scope) → slice_get rows n ≡ Some row
    → is_detached row.kind ≡ false → is_on n (chain rows n) ≡ true
on_itself rows n row found not =
    ap (λ (o : Option Scope). is_on n (before_detached (upwards (line_within n rows) n o))) found
    ∙ ap (λ b. is_on n (cond b [] ((n, row) ∷ before_detached
    (cond (is_root row.kind) [] (line_within n rows row.parent))))) not
    ∙ ap (λ b. b || is_on n (before_detached
    (cond (is_root row.kind) [] (line_within n rows row.parent)))) (eq-eqb n n refl)

-- The tests of a cancel of a scope that is there, takes a cause, and isn't done.
tests_pass : (x : State) (n : ℕ) (why : List ℕ) (rest : Result (Option Event) Refusal)
    → FoundScope x n → is_done x.tree.scopes n ≡ false
    → cond (not (has_row x.tree.scopes n)) (Err refusal.NoSuchScope)
    (cond (not (has_kind is_cancellable x.tree n)) (Err refusal.NotCancellable)
    (cond (is_some (Some why) && not (has_kind takes_cause x.tree n)) (Err refusal.CauseNotTaken)
    (cond (is_done x.tree.scopes n) (Err refusal.AlreadyDone) rest))) ≡ rest
tests_pass x n why rest at open_still =
    let there : has_row x.tree.scopes n ≡ true =
    lt-ltb n (length x.tree.scopes) (slice_get_within x.tree.scopes n at.row at.found) in
    let can : has_kind is_cancellable x.tree n ≡ true =
    ap (λ (o : Option Scope). option_map_or (λ (y : Scope). is_cancellable y.kind) o false) at.found
    ∙ cancellable at.row.kind at.cause in
    let takes : has_kind takes_cause x.tree n ≡ true =
    ap (λ (o : Option Scope). option_map_or (λ (y : Scope). takes_cause y.kind) o false) at.found
    ∙ at.cause in
    ap (λ b. cond (not b) (Err refusal.NoSuchScope)
    (cond (not (has_kind is_cancellable x.tree n)) (Err refusal.NotCancellable)
    (cond (is_some (Some why) && not (has_kind takes_cause x.tree n)) (Err refusal.CauseNotTaken)
    (cond (is_done x.tree.scopes n) (Err refusal.AlreadyDone) rest)))) there
    ∙ ap (λ b. cond (not b) (Err refusal.NotCancellable)
    (cond (is_some (Some why) && not (has_kind takes_cause x.tree n)) (Err refusal.CauseNotTaken)
    (cond (is_done x.tree.scopes n) (Err refusal.AlreadyDone) rest))) can
    ∙ ap (λ b. cond (is_some (Some why) && not b) (Err refusal.CauseNotTaken)
    (cond (is_done x.tree.scopes n) (Err refusal.AlreadyDone) rest)) takes
    ∙ ap (λ b. cond b (Err refusal.AlreadyDone) rest) open_still

-- After the cancel of its last scope a group is done, if the log had room.
cancel_ends : (x : Session) (night : Option (List ℕ)) (group : List ℕ) (n : ℕ)
    (name why : List ℕ) → AreNumbered x.state
    → last_below (is_scope x.state night group) (length x.state.tree.scopes) ≡ Some n
    → scope_of x.state name ≡ n
    → is_full (reply_of_step x (step.Command (call.Cancel name (Some why)))) ≡ false
    → is_over (after_step x (step.Command (call.Cancel name (Some why)))).state night group ≡ true
cancel_ends x night group n name why numbered last named room =
    by_done (is_done x.state.tree.scopes n) refl
  where
    p : State
    p = x.state

    asked : Step
    asked = step.Command (call.Cancel name (Some why))

    at : FoundScope p n
    at = found_scope p night group n
        (last_passes (is_scope p night group) (length p.tree.scopes) n last)

    made : Event
    made = event.Cancel n (Some why)

    by_room : (b : Bool) → is_too_long p x.log made ≡ b
        → decide p x.log (call.Cancel name (Some why)) ≡ if_room p x.log made
        → is_over (after_step x asked).state night group ≡ true
    by_room true long decided =
        let refused : decide p x.log (call.Cancel name (Some why)) ≡ Err refusal.SessionFull =
        decided ∙ ap (λ b. cond b (Err refusal.SessionFull) (Ok (Some made))) long in
        let says : is_full (reply_of_step x asked) ≡ true =
        ap (λ (r : Result (Option Event) Refusal). is_full (replied reply.Answer
        (and_then r (λ e. Ok (answer_of p (state_after p e) (call.Cancel name (Some why)))))))
        refused in
        absurd (false≢true (sym room ∙ says))
    by_room false long decided =
        let accepted : event_of_step x asked ≡ Some made =
        ap (λ r. result_unwrap_or r None)
        (decided ∙ ap (λ b. cond b (Err refusal.SessionFull) (Ok (Some made))) long) in
        ap (λ (y : Session). is_over y.state night group) (ap (with_event x) accepted)
        ∙ cancel_stops p n (Some why) night group
        ∙ ap (λ b. is_over p night group || b)
        (ap (λ o. option_map_or (λ s. is_on n (chain p.tree.scopes s)) o false) last
        ∙ on_itself p.tree.scopes n at.row at.found (attached at.row.kind at.cause))
        ∙ or-true (is_over p night group)

    by_done : (b : Bool) → is_done p.tree.scopes n ≡ b
        → is_over (after_step x asked).state night group ≡ true
    by_done true is =
        (stop_only_stops x name (Some why) numbered).over night group
        (ap (λ o. option_map_or (is_done p.tree.scopes) o false) last ∙ is)
    by_done false is =
        by_room (is_too_long p x.log made) refl
        (ap (λ (m : ℕ). decided p x.log (event.Cancel m (Some why))) named
        ∙ tests_pass p n why (if_room p x.log made) at is)

-- ---- all of them

no_first : (a b : Bool) → (a || b) ≡ false → (a ≡ false) × (b ≡ false)
no_first true b is = cc
no_first false b is = (refl, is)

groups_end : (groups : List GroupCancel) (p : State) (names : Names) (now : ℕ) (x : Session)
    → Kept p x.state → IsConsistent x.state
    → list_any is_full (replies x (halts_of p names groups now)) ≡ false
    → (cancel : GroupCancel) (group : List ℕ) (n : ℕ) → Contains groups cancel
    → slice_get names.groups.items cancel.group ≡ Some group
    → last_below (is_scope p names.night group) (length p.tree.scopes) ≡ Some n
    → is_over (session_after x (halts_of p names groups now)).state names.night group ≡ true
groups_end [] p names now x kept consistent room cancel group n (k, less, is) at last =
    absurd (omega (arith, less))
groups_end (c ∷ groups) p names now x kept consistent room cancel group n listed at last =
    by_place (contains_cases c cancel groups listed)
    (λ y is_kept are has more. groups_end groups p names now y is_kept are has cancel group n more
    at last)
  where
    Later : Type 0
    Later =
        (y : Session) → Kept p y.state → IsConsistent y.state
        → list_any is_full (replies y (halts_of p names groups now)) ≡ false
        → Contains groups cancel
        → is_over (session_after y (halts_of p names groups now)).state names.night group ≡ true

    made_of : ℕ → Step
    made_of m = step.Command (call.Cancel (scope_name p m) (Some c.why))

    halts_by : Option ℕ → List Step
    halts_by o =
        cons_option (option_map made_of o) (stops_of p names groups)
        ++ step.Command (call.Advance now) ∷ []

    -- Another group is canceled first.
    by_other : (o : Option ℕ) → list_any is_full (replies x (halts_by o)) ≡ false → Later
        → Contains groups cancel
        → is_over (session_after x (halts_by o)).state names.night group ≡ true
    by_other None has later more = later x kept consistent has more
    by_other (Some m) has later more =
        let y : Session = after_step x (made_of m) in
        let parts = no_first (is_full (reply_of_step x (made_of m)))
        (list_any is_full (replies y (halts_of p names groups now))) has in
        later y
        (kept_on p x.state y.state kept
        (stop_only_stops x (scope_name p m) (Some c.why) consistent.numbered))
        (step_consistent x (made_of m) consistent) parts.1 more

    -- Its scope is done already, or is canceled now.
    by_own : (b : Bool) → is_done p.tree.scopes n ≡ b
        → list_any is_full (replies x (halts_by (cond b None (Some n)))) ≡ false
        → is_over (session_after x (halts_by (cond b None (Some n)))).state names.night group
        ≡ true
    by_own true is has =
        (halts_only_stop groups p names now x consistent).over names.night group
        (kept.over names.night group
        (ap (λ o. option_map_or (is_done p.tree.scopes) o false) last ∙ is))
    by_own false is has =
        let y : Session = after_step x (made_of n) in
        let parts = no_first (is_full (reply_of_step x (made_of n)))
        (list_any is_full (replies y (halts_of p names groups now))) has in
        let found : FoundScope p n = found_scope p names.night group n
        (last_passes (is_scope p names.night group) (length p.tree.scopes) n last) in
        (halts_only_stop groups p names now y (step_consistent x (made_of n) consistent)).over
        names.night group
        (cancel_ends x names.night group n (scope_name p n) c.why consistent.numbered
        (last_same p x.state kept names.night group n last)
        (named_scope p x.state kept.scopes consistent.numbered n found) parts.0)

    own_scope : c ≡ cancel
        → open_scope p names.night (unwrap_or (slice_get names.groups.items c.group) [])
        ≡ cond (is_done p.tree.scopes n) None (Some n)
    own_scope same =
        ap (λ (y : GroupCancel). open_scope p names.night
        (unwrap_or (slice_get names.groups.items y.group) [])) same
        ∙ ap (λ (o : Option (List ℕ)). open_scope p names.night (unwrap_or o [])) at
        ∙ ap (option_and_then (λ s. cond (is_done p.tree.scopes s) None (Some s))) last

    by_place : (c ≡ cancel) ⊎ Contains groups cancel → Later
        → is_over (session_after x (halts_by
        (open_scope p names.night (unwrap_or (slice_get names.groups.items c.group) [])))).state
        names.night group ≡ true
    by_place (inl same) later =
        subst (λ (o : Option ℕ). is_over (session_after x (halts_by o)).state names.night group
        ≡ true) (sym (own_scope same))
        (by_own (is_done p.tree.scopes n) refl
        (subst (λ (o : Option ℕ). list_any is_full (replies x (halts_by o)) ≡ false)
        (own_scope same) room))
    by_place (inr more) later =
        by_other (open_scope p names.night (unwrap_or (slice_get names.groups.items c.group) []))
        room later more

no_full : (b : Bool) → not b ≡ true → b ≡ false
no_full true is = cc
no_full false is = refl

pub groups_are_canceled : GroupsAreCanceled
groups_are_canceled p s names groups now cancel group scope same consistent room listed at last =
    groups_end groups p names now s (record {
      scopes = scopes_same p s.state same;
      long = ap (λ (t : TreeState). length t.scopes) same;
      over = λ night other was.
          ap (λ (t : TreeState). is_over (record p { tree = t }) night other) same ∙ was;
    }) consistent (no_full (list_any is_full (replies s (halts_of p names groups now))) room) cancel
    group scope listed at last
