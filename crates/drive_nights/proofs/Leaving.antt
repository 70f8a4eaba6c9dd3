-- Groups of other nights are waited for, and scopes are canceled that don't hold a night. That
-- leaves the night as it is.
use Rattle.std.proofs.Common.{◌≡◌, ◌≢◌, ◌<◌, ◌≤◌, ◌∙◌, ◌&&◌, ◌||◌, ◌==◌, ℕ, zero, suc, ◌+◌, ◌-◌}
use Rattle.std.proofs.Common.{not, Bool, true, false, cond}
use Rattle.std.proofs.Common.{List, [], ◌∷◌, ◌++◌, Option, Some, None, Result, Ok, Err, length}
use Rattle.std.proofs.Common.{slice_get}
use Rattle.std.proofs.Common.{is_some, ap, refl, sym, subst, arith, nat_lt, inl, inr, ◌⊎◌}
use Rattle.std.proofs.Common.{unwrap_or}
use Rattle.std.proofs.lemmas.Bool.{and_parts, eq-eqb, false≢true, ne_eqb}
use Rattle.std.proofs.lemmas.Option.{none-some, same_Some, slice_get_past}
use Rattle.std.proofs.Math.Bool.{or-true}
use Rattle.std.proofs.lemmas.Bool.Decides.{nat_tests}
use Rattle.std.specs.Option.{option_map, option_map_or}
use Rattle.std.specs.Result.{result_unwrap_or}
use Rattle.run_model.proofs.Common.{ltb-true}
use Rattle.run_model.proofs.RowLemmas.{length-at_row, map-at_row, slice_get-at_row_other}
use Rattle.run_model.specs.declared.commands.Command.{Command}
use Rattle.run_model.specs.declared.commands.Command.TheVariants as call
use Rattle.run_model.specs.declared.commands.Step.{Step}
use Rattle.run_model.specs.declared.commands.Step.TheVariants as step
use Rattle.run_model.specs.declared.groups.Group.{Group}
use Rattle.run_model.specs.declared.refusals.Refusal.{Refusal}
use Rattle.run_model.specs.declared.scopes.Reason.TheVariants.{Canceled}
use Rattle.run_model.specs.declared.scopes.Scope.{Scope}
use Rattle.run_model.specs.Event.{Event}
use Rattle.run_model.specs.Event as event
use Rattle.run_model.specs.Replies.{decide, event_of, group_of, scope_of}
use Rattle.run_model.specs.Rows.{at_row}
use Rattle.run_model.specs.Rules.{AreNumbered, IsConsistent}
use Rattle.run_model.specs.Scopes.{before_detached, hit_at, is_done, is_root, least_hit, line}
use Rattle.run_model.specs.Scopes.{line_within, upwards}
use Rattle.run_model.specs.Allowed.{takes_cause}
use Rattle.std.specs.List.{filter_map, prefix_len}
use Rattle.std.specs.Str.{bytes_eq}
use Rattle.std.specs.Prelude.{codes, nat_le}
use Rattle.run_model.specs.Session.{Session, after_step, session_after, with_event}
use Rattle.run_model.specs.State.{State, TreeState, scope_named}
use Rattle.run_model.specs.Step as change
use Rattle.run_model.specs.Step.{own_scope}
use Rattle.run_model.specs.TreeChanges.{after_cancel, new_hit, with_hit}
use Rattle.run_model.specs.WorkChanges.{with_wait}
use Rattle.model_laws.proofs.Names.{place_of_name}
use Rattle.model_laws.proofs.Passing.{command_leads}
use Rattle.model_laws.specs.Hits.{is_on}
use Rattle.night_drive.specs.Names.{belongs, is_same, night_of}
use Rattle.night_drive.specs.PlanTurns.{AreBare}
use Rattle.night_drive.specs.Searches.{last_below}
use Rattle.night_drive.proofs.Leaving.{others_leave}
use Rattle.night_drive.proofs.Staying.{KeepsGroups, KeepsScopes, cancel_keeps, row_by_row}
use Rattle.night_drive.proofs.Staying.{same_groups}
use Rattle.night_drive.proofs.Staying.{same_scopes, unhit, unmarked}
use Rattle.night_drive.proofs.Searching.{last_alike, last_passes}
use Rattle.night_drive.proofs.Staying.{night_stays, owned_stays}
use Rattle.night_drive.specs.Seen.{is_over, is_owned, is_scope, known_of}
use Rattle.drive_steps.proofs.Ceasing.{scope_alike}
use Rattle.drive_nights.specs.Endings.{cancel_of, cancels_at, cancels_below, cause_of, endings_of}
use Rattle.drive_nights.specs.Endings.{holds, is_elsewhere, is_left, top_at, wait_at, waits_below}
use Rattle.drive_nights.specs.Nights.{base_of, is_base, is_base_row, is_ended, name_at}
use Rattle.drive_nights.specs.Nights.{night_text}
use Rattle.drive_nights.specs.Nights.{parent_of, top_above}
use Rattle.drive_nights.specs.declared.names.Role.TheVariants.{Ended}
use Rattle.drive_nights.specs.Names.{role_name}
use Rattle.drive_nights.specs.Rooms.{last_room}
use Rattle.drive_nights.specs.Untouched.{EndingsLeaveNights}
use Rattle.drive_nights.proofs.Making.{own_of, unmarked_owns}
use Rattle.drive_nights.proofs.Taking.{consistent_after}

-- ---- what is left alone

-- From the first state to the second one groups of other nights may have been waited for, and
-- scopes that don't hold night n may have been hit. Nothing else has changed.
pub record Spares (p q : State) (n : ℕ) : Type 0 where
  pub clock : q.tree.clock ≡ p.tree.clock
  pub tasks : q.work.tasks ≡ p.work.tasks
  pub scopes : KeepsScopes p.tree.scopes q.tree.scopes
  pub long : length q.tree.scopes ≡ length p.tree.scopes
  pub held : (t : ℕ) → holds p n t ≡ true
      → slice_get q.tree.scopes t ≡ slice_get p.tree.scopes t
  pub groups : KeepsGroups p.work.groups q.work.groups
  pub many : length q.work.groups ≡ length p.work.groups
  pub rooms : (g : ℕ) (row : Group) → slice_get p.work.groups g ≡ Some row
      → is_elsewhere p n row.scope ≡ false → slice_get q.work.groups g ≡ Some row
  pub bare : AreBare q.work
  pub known : (ended : ℕ → ℕ) (night : Option (List ℕ)) (group key : List ℕ)
      → known_of q ended night group key ≡ known_of p ended night group key

pub spares_all : (p : State) (n : ℕ) → AreBare p.work → Spares p p n
spares_all p n bare = record {
  clock = refl;
  tasks = refl;
  scopes = same_scopes p.tree.scopes;
  long = refl;
  held = λ t is. refl;
  groups = same_groups p.work.groups;
  many = refl;
  rooms = λ g row found here. found;
  bare = bare;
  known = λ ended night group key. refl;
}

-- ---- a group of another night

-- Group g of the store stands in another night.
pub record IsOthers (p : State) (n g : ℕ) (name : List ℕ) : Type 0 where
  pub row : Group
  pub found : slice_get p.work.groups g ≡ Some row
  pub other : is_elsewhere p n row.scope ≡ true
  pub named : row.name ≡ name

-- It is found by its name.
group_at : (p x : State) (n g : ℕ) (name : List ℕ) → Spares p x n → AreNumbered x
    → IsOthers p n g name → group_of x name ≡ g
group_at p x n g name spares numbered at =
    by_row (slice_get x.work.groups g) refl (spares.groups g ∙ ap (option_map unmarked) at.found)
  where
    by_row : (o : Option Group) → slice_get x.work.groups g ≡ o
        → option_map unmarked o ≡ Some (unmarked at.row) → group_of x name ≡ g
    by_row None found same = absurd (none-some (unmarked at.row) same)
    by_row (Some row) found same =
        let one : unmarked row ≡ unmarked at.row =
        same_Some (unmarked row) (unmarked at.row) same in
        let named : name ≡ row.name = sym at.named ∙ sym (ap (λ (y : Group). y.name) one) in
        ap (group_of x) named
        ∙ ap (λ (o : Option ℕ). unwrap_or o (length x.work.groups))
        (place_of_name (λ (y : Group). y.name) x.work.groups g row
        (λ m k a b one other same. numbered.group_names m k a b one other same) found)

waited_spares : (p x : State) (n g : ℕ) (name : List ℕ) → Spares p x n → AreNumbered x
    → IsOthers p n g name → Spares p (change.step x (event.Wait g)) n
waited_spares p x n g name spares numbered at = record {
  clock = ap (λ (t : TreeState). t.clock) tree ∙ spares.clock;
  tasks = spares.tasks;
  scopes = λ s. ap (λ (t : TreeState). option_map unhit (slice_get t.scopes s)) tree
      ∙ spares.scopes s;
  long = ap (λ (t : TreeState). length t.scopes) tree ∙ spares.long;
  held = λ t is. ap (λ (y : TreeState). slice_get y.scopes t) tree ∙ spares.held t is;
  groups = λ h. rows h ∙ spares.groups h;
  many = length-at_row with_wait g x.work.groups ∙ spares.many;
  rooms = λ h row found here.
      slice_get-at_row_other with_wait g h x.work.groups (apart h row found here)
      ∙ spares.rooms h row found here;
  bare = λ h.
      unmarked_owns (slice_get (at_row with_wait g x.work.groups) h) ∙ ap own_of (rows h)
      ∙ sym (unmarked_owns (slice_get x.work.groups h)) ∙ spares.bare h;
  known = λ ended night group key.
      others_leave x (event.Wait g) ended night group key numbered refl refl refl
      ∙ spares.known ended night group key;
}
  where
    tree : (change.step x (event.Wait g)).tree ≡ x.tree
    tree =
        ap (λ (o : Option ℕ).
        option_map_or (λ s. after_cancel (x.count + 1) s None x.tree) o x.tree) (spares.bare g)

    rows : (h : ℕ)
        → option_map unmarked (slice_get (at_row with_wait g x.work.groups) h)
        ≡ option_map unmarked (slice_get x.work.groups h)
    rows =
        row_by_row unmarked x.work.groups (at_row with_wait g x.work.groups)
        (map-at_row unmarked with_wait g x.work.groups (λ row. refl))

    apart : (h : ℕ) (row : Group) → slice_get p.work.groups h ≡ Some row
        → is_elsewhere p n row.scope ≡ false → h ≢ g
    apart h row found here same =
        let one : row ≡ at.row =
        same_Some row at.row (sym found ∙ ap (slice_get p.work.groups) same ∙ at.found) in
        false≢true (sym here ∙ ap (λ (r : Group). is_elsewhere p n r.scope) one ∙ at.other)

-- ---- a scope that doesn't hold the night

canceled_spares : (p x : State) (n s : ℕ) (cause : Option (List ℕ)) → Spares p x n
    → AreNumbered x → holds p n s ≡ false → Spares p (change.step x (event.Cancel s cause)) n
canceled_spares p x n s cause spares numbered free = record {
  clock = spares.clock;
  tasks = spares.tasks;
  scopes = λ t. cancel_keeps (x.count + 1) s cause x.tree t ∙ spares.scopes t;
  long = length-at_row hit s x.tree.scopes ∙ spares.long;
  held = λ t is.
      slice_get-at_row_other hit s t x.tree.scopes
      (λ same. false≢true (sym free ∙ ap (holds p n) (sym same) ∙ is))
      ∙ spares.held t is;
  groups = spares.groups;
  many = spares.many;
  rooms = spares.rooms;
  bare = spares.bare;
  known = λ ended night group key.
      others_leave x (event.Cancel s cause) ended night group key numbered refl refl refl
      ∙ spares.known ended night group key;
}
  where
    hit : Scope → Scope
    hit = with_hit (new_hit (x.count + 1) x.tree.clock Canceled cause)

-- Scope s doesn't hold night n.
pub record IsFree (p : State) (n s : ℕ) (name : List ℕ) : Type 0 where
  pub row : Scope
  pub found : slice_get p.tree.scopes s ≡ Some row
  pub free : holds p n s ≡ false
  pub named : row.name ≡ name

-- It is found by its name.
scope_at : (p x : State) (n s : ℕ) (name : List ℕ) → Spares p x n → AreNumbered x
    → IsFree p n s name → scope_of x name ≡ s
scope_at p x n s name spares numbered at =
    by_row (slice_get x.tree.scopes s) refl (spares.scopes s ∙ ap (option_map unhit) at.found)
  where
    by_row : (o : Option Scope) → slice_get x.tree.scopes s ≡ o
        → option_map unhit o ≡ Some (unhit at.row) → scope_of x name ≡ s
    by_row None found same = absurd (none-some (unhit at.row) same)
    by_row (Some row) found same =
        let one : unhit row ≡ unhit at.row = same_Some (unhit row) (unhit at.row) same in
        let named : name ≡ row.name = sym at.named ∙ sym (ap (λ (y : Scope). y.name) one) in
        ap (scope_of x) named
        ∙ ap (λ (o : Option ℕ). unwrap_or o (length x.tree.scopes))
        (place_of_name (λ (y : Scope). y.name) x.tree.scopes s row
        (λ m k a b one other same. numbered.scope_names m k a b one other same) found)

-- ---- steps

-- A step that ends something of another night: a wait for one of its groups, or the cancel of a
-- scope that doesn't hold this night.
pub record IsWait (p : State) (n : ℕ) (x : Step) : Type 0 where
  pub g : ℕ
  pub name : List ℕ
  pub others : IsOthers p n g name
  pub is : x ≡ step.Command (call.Wait name)

pub record IsCancel (p : State) (n : ℕ) (x : Step) : Type 0 where
  pub s : ℕ
  pub name : List ℕ
  pub cause : Option (List ℕ)
  pub free : IsFree p n s name
  pub is : x ≡ step.Command (call.Cancel name cause)

-- A call that leads to this event, or to none, leaves the night alone if the event does.
spares_call : (p : State) (x : Session) (n : ℕ) (c : Command) → Spares p x.state n
    → Spares p (change.step x.state (event_of x.state c)) n
    → Spares p (after_step x (step.Command c)).state n
spares_call p x n c before after = by_result (decide x.state x.log c) refl
  where
    by_result : (r : Result (Option Event) Refusal) → decide x.state x.log c ≡ r
        → Spares p (with_event x (result_unwrap_or r None)).state n
    by_result (Err why) is = before
    by_result (Ok None) is = before
    by_result (Ok (Some made)) is =
        subst (λ (e : Event). Spares p (change.step x.state e) n)
        (command_leads x.state x.log c made is).asks after

spares_step : (p : State) (x : Session) (n : ℕ) (y : Step) → Spares p x.state n
    → AreNumbered x.state → IsWait p n y ⊎ IsCancel p n y → Spares p (after_step x y).state n
spares_step p x n y spares numbered (inl it) =
    subst (λ (z : Step). Spares p (after_step x z).state n) (sym it.is)
    (spares_call p x n (call.Wait it.name) spares
    (subst (λ (g : ℕ). Spares p (change.step x.state (event.Wait g)) n)
    (sym (group_at p x.state n it.g it.name spares numbered it.others))
    (waited_spares p x.state n it.g it.name spares numbered it.others)))
spares_step p x n y spares numbered (inr it) =
    subst (λ (z : Step). Spares p (after_step x z).state n) (sym it.is)
    (spares_call p x n (call.Cancel it.name it.cause) spares
    (subst (λ (s : ℕ). Spares p (change.step x.state (event.Cancel s it.cause)) n)
    (sym (scope_at p x.state n it.s it.name spares numbered it.free))
    (canceled_spares p x.state n it.s it.cause spares numbered it.free.free)))

-- Each of these steps ends something of another night.
abbrev pub AreEndings : State → (n : ℕ) → List Step → Type 0
AreEndings p n [] = Unit {0}
AreEndings p n (y ∷ steps) = (IsWait p n y ⊎ IsCancel p n y) × AreEndings p n steps

pub endings_join : (p : State) (n : ℕ) (first second : List Step) → AreEndings p n first
    → AreEndings p n second → AreEndings p n (first ++ second)
endings_join p n [] second one two = two
endings_join p n (y ∷ first) second one two =
    (one.0, endings_join p n first second one.1 two)

pub spares_steps : (p : State) (n : ℕ) (steps : List Step) (x : Session) → Spares p x.state n
    → IsConsistent x.state → AreEndings p n steps → Spares p (session_after x steps).state n
spares_steps p n [] x spares consistent all = spares
spares_steps p n (y ∷ steps) x spares consistent all =
    spares_steps p n steps (after_step x y)
    (spares_step p x n y spares consistent.numbered all.0)
    (consistent_after x (y ∷ []) consistent) all.1

-- ---- lines

-- The rows on this line are the same in both.
lines_alike : (old new : List Scope) (most s : ℕ)
    → ((t : ℕ) → slice_get old t ≡ None → slice_get new t ≡ None)
    → ((t : ℕ) → is_on t (line_within most old s) ≡ true → slice_get new t ≡ slice_get old t)
    → line_within most new s ≡ line_within most old s
lines_alike old new zero s none same = refl
lines_alike old new (suc most) s none same =
    by_row (λ t each. lines_alike old new most t none each) (slice_get old s) refl
  where
    Above : Type 0
    Above =
        (t : ℕ) → ((u : ℕ) → is_on u (line_within most old t) ≡ true
        → slice_get new u ≡ slice_get old u)
        → line_within most new t ≡ line_within most old t

    f : ℕ → List (ℕ × Scope)
    f = line_within most new

    g : ℕ → List (ℕ × Scope)
    g = line_within most old

    by_row : Above → (o : Option Scope) → slice_get old s ≡ o
        → upwards (line_within most new) s (slice_get new s)
        ≡ upwards (line_within most old) s (slice_get old s)
    by_row rest None found =
        ap (upwards f s) (none s found) ∙ sym (ap (upwards g s) found)
    by_row rest (Some row) found =
        ap (upwards f s) (same s here ∙ found)
        ∙ by_root (is_root row.kind) refl ∙ sym (ap (upwards g s) found)
      where
        whole : line_within (suc most) old s
            ≡ (s, row) ∷ cond (is_root row.kind) [] (line_within most old row.parent)
        whole = ap (upwards (line_within most old) s) found

        here : is_on s (line_within (suc most) old s) ≡ true
        here =
            ap (is_on s) whole
            ∙ ap (λ b. b || is_on s (cond (is_root row.kind) [] (line_within most old row.parent)))
            (eq-eqb s s refl)

        above : (t : ℕ) → is_root row.kind ≡ false
            → is_on t (line_within most old row.parent) ≡ true → slice_get new t ≡ slice_get old t
        above t root is =
            same t (ap (is_on t) whole
            ∙ ap (λ b. (s == t) || is_on t (cond b [] (line_within most old row.parent))) root
            ∙ ap (λ b. (s == t) || b) is ∙ or-true (s == t))

        by_root : (b : Bool) → is_root row.kind ≡ b
            → ((s, row) ∷ cond b [] (line_within most new row.parent))
            ≡ ((s, row) ∷ cond b [] (line_within most old row.parent))
        by_root true root = refl
        by_root false root =
            ap (λ (rows : List (ℕ × Scope)). (s, row) ∷ rows)
            (rest row.parent (λ t is. above t root is))

-- ---- a scope of the night

-- A number below the end passes the test, so there is a last one.
some_last : (test : ℕ → Bool) (most s : ℕ) → s < most → test s ≡ true
    → is_some (last_below test most) ≡ true
some_last test zero s less passes = absurd (omega (arith, less))
some_last test (suc most) s less passes =
    by (λ lower. some_last test most s lower passes) (test most) refl
  where
    by : (s < most → is_some (last_below test most) ≡ true) → (b : Bool) → test most ≡ b
        → is_some (cond b (Some most) (last_below test most)) ≡ true
    by rest true is = refl
    by rest false is = rest (smaller (λ same. false≢true (sym is ∙ ap test (sym same) ∙ passes)))
      where
        smaller : s ≢ most → s < most
        smaller other = omega (arith, less)

-- What stands above a scope of the night holds it.
held_above : (p : State) (n s t : ℕ) → s < length p.tree.scopes → is_elsewhere p n s ≡ false
    → is_on t (line p.tree.scopes s) ≡ true → holds p n t ≡ true
held_above p n s t less here above =
    some_last (λ x. not (is_elsewhere p n x) && is_on t (line p.tree.scopes x))
    (length p.tree.scopes) s less
    (ap (λ b. not b && is_on t (line p.tree.scopes s)) here ∙ above)

no_row : (o : Option Scope) → option_map unhit o ≡ None → o ≡ None
no_row None is = refl
no_row (Some row) is = absurd (cc)

pub spared_lines : (p q : State) (n s : ℕ) → Spares p q n → is_elsewhere p n s ≡ false
    → line q.tree.scopes s ≡ line p.tree.scopes s
spared_lines p q n s spares here = by_there (nat_lt s (length p.tree.scopes)) refl
  where
    none : (t : ℕ) → slice_get p.tree.scopes t ≡ None → slice_get q.tree.scopes t ≡ None
    none t found =
        no_row (slice_get q.tree.scopes t) (spares.scopes t ∙ ap (option_map unhit) found)

    by_there : (b : Bool) → nat_lt s (length p.tree.scopes) ≡ b
        → line q.tree.scopes s ≡ line p.tree.scopes s
    by_there true less =
        lines_alike p.tree.scopes q.tree.scopes (suc s) s none
        (λ t above. spares.held t (held_above p n s t (ltb-true _ _ less) here above))
    by_there false past =
        let over : length p.tree.scopes ≤ s = grind (arith, nat_tests, past) in
        let lacks : slice_get p.tree.scopes s ≡ None = slice_get_past p.tree.scopes s over in
        ap (upwards (line_within s q.tree.scopes) s) (none s lacks)
        ∙ sym (ap (upwards (line_within s p.tree.scopes) s) lacks)

-- ---- the endings

no_or : (a b : Bool) → (a || b) ≡ false → b ≡ false
no_or true b is = cc
no_or false b is = is

waits_end : (p : State) (n g : ℕ) → AreEndings p n (wait_at p n g)
waits_end p n g = by_row (slice_get p.work.groups g) refl
  where
    by_row : (o : Option Group) → slice_get p.work.groups g ≡ o
        → AreEndings p n (option_map_or (λ (row : Group).
        cond (is_left p n row) (step.Command (call.Wait row.name) ∷ []) []) o [])
    by_row None found = tt
    by_row (Some row) found = by_left (is_left p n row) refl
      where
        by_left : (b : Bool) → is_left p n row ≡ b
            → AreEndings p n (cond b (step.Command (call.Wait row.name) ∷ []) [])
        by_left false left = tt
        by_left true left =
            let parts = and_parts (not row.waited) (is_elsewhere p n row.scope) left in (
              inl (record {
                g = g;
                name = row.name;
                others = record { row = row; found = found; other = parts.1; named = refl };
                is = refl;
              }),
              tt,
            )

waits_all : (p : State) (n k : ℕ) → AreEndings p n (waits_below p n k)
waits_all p n zero = tt
waits_all p n (suc k) =
    endings_join p n (waits_below p n k) (wait_at p n k) (waits_all p n k) (waits_end p n k)

cancel_ends : (p : State) (n s : ℕ) → AreEndings p n (cancel_of p n s)
cancel_ends p n s = by_row (slice_get p.tree.scopes s) refl
  where
    by_row : (o : Option Scope) → slice_get p.tree.scopes s ≡ o
        → AreEndings p n (option_map_or (λ (row : Scope). option_map_or (λ cause.
        cond (is_done p.tree.scopes s || holds p n s) []
        (step.Command (call.Cancel row.name cause) ∷ [])) (cause_of row.kind) []) o [])
    by_row None found = tt
    by_row (Some row) found = by_cause (cause_of row.kind)
      where
        by_free : (cause : Option (List ℕ)) (b : Bool)
            → (is_done p.tree.scopes s || holds p n s) ≡ b
            → AreEndings p n (cond b [] (step.Command (call.Cancel row.name cause) ∷ []))
        by_free cause true is = tt
        by_free cause false is = (
          inr (record {
            s = s;
            name = row.name;
            cause = cause;
            free = record {
              row = row;
              found = found;
              free = no_or (is_done p.tree.scopes s) (holds p n s) is;
              named = refl;
            };
            is = refl;
          }),
          tt,
        )

        by_cause : (o : Option (Option (List ℕ)))
            → AreEndings p n (option_map_or (λ cause.
            cond (is_done p.tree.scopes s || holds p n s) []
            (step.Command (call.Cancel row.name cause) ∷ [])) o [])
        by_cause None = tt
        by_cause (Some cause) = by_free cause (is_done p.tree.scopes s || holds p n s) refl

cancels_end : (p : State) (n s : ℕ) → AreEndings p n (cancels_at p n s)
cancels_end p n s = by_top (top_at p s)
  where
    by_other : (top : ℕ) (b : Bool)
        → AreEndings p n (cond b (cancel_of p n top ++ cancel_of p n (parent_of p top)) [])
    by_other top true =
        endings_join p n (cancel_of p n top) (cancel_of p n (parent_of p top))
        (cancel_ends p n top) (cancel_ends p n (parent_of p top))
    by_other top false = tt

    by_top : (o : Option ℕ)
        → AreEndings p n (option_map_or (λ top. cond (is_elsewhere p n s)
        (cancel_of p n top ++ cancel_of p n (parent_of p top)) []) o [])
    by_top None = tt
    by_top (Some top) = by_other top (is_elsewhere p n s)

cancels_all : (p : State) (n k : ℕ) → AreEndings p n (cancels_below p n k)
cancels_all p n zero = tt
cancels_all p n (suc k) =
    endings_join p n (cancels_below p n k) (cancels_at p n k) (cancels_all p n k)
    (cancels_end p n k)

-- ---- what is read from rows without their hits

-- A function of a row that ignores its hit.
read_alike : {X : Type 0} (p q : State) → KeepsScopes p.tree.scopes q.tree.scopes
    → (read : Scope → X) (none : X) → ((row : Scope) → read row ≡ read (unhit row)) → (s : ℕ)
    → option_map_or read (slice_get q.tree.scopes s) none
    ≡ option_map_or read (slice_get p.tree.scopes s) none
read_alike {X} p q kept read none ignores s =
    without (slice_get q.tree.scopes s)
    ∙ ap (λ (o : Option Scope). option_map_or read o none) (kept s)
    ∙ sym (without (slice_get p.tree.scopes s))
  where
    without : (o : Option Scope)
        → option_map_or read o none ≡ option_map_or read (option_map unhit o) none
    without None = refl
    without (Some row) = ignores row

-- How many rows come before that of a name.
before_alike : (name : List ℕ) (old new : List Scope) → KeepsScopes old new
    → prefix_len (λ (row : Scope). not (bytes_eq name row.name)) new
    ≡ prefix_len (λ (row : Scope). not (bytes_eq name row.name)) old
before_alike name [] [] kept = refl
before_alike name [] (y ∷ new) kept = absurd (none-some (unhit y) (sym (kept 0)))
before_alike name (x ∷ old) [] kept = absurd (none-some (unhit x) (kept 0))
before_alike name (x ∷ old) (y ∷ new) kept =
    let same : unhit y ≡ unhit x = same_Some (unhit y) (unhit x) (kept 0) in
    ap (λ (row : Scope). cond (not (bytes_eq name row.name))
    (1 + prefix_len (λ (z : Scope). not (bytes_eq name z.name)) new) 0) same
    ∙ ap (λ (n : ℕ). cond (not (bytes_eq name x.name)) (1 + n) 0)
    (before_alike name old new (λ s. kept (suc s)))

base_alike : (p q : State) (n : ℕ) → KeepsScopes p.tree.scopes q.tree.scopes
    → length q.tree.scopes ≡ length p.tree.scopes → base_of q n ≡ base_of p n
base_alike p q n kept long =
    last_alike (is_base q n) (is_base p n) same (length q.tree.scopes)
    ∙ ap (last_below (is_base p n)) long
  where
    row_is : ℕ → Bool
    row_is s = option_map_or (is_base_row n) (slice_get p.tree.scopes s) false

    same : (s : ℕ) → is_base q n s ≡ is_base p n s
    same s =
        ap (λ (b : Bool). b && is_same (night_of q s) (night_text n))
        (read_alike p q kept (is_base_row n) false (λ row. refl) s)
        ∙ ap (λ (o : Option (List ℕ)). row_is s && is_same o (night_text n))
        (night_stays p q kept s)

ended_alike : (p q : State) (n : ℕ) → KeepsScopes p.tree.scopes q.tree.scopes
    → length q.tree.scopes ≡ length p.tree.scopes → is_ended q n ≡ is_ended p n
ended_alike p q n kept long =
    ap (λ (o : Option ℕ). option_map_or (marked q) o false) (base_alike p q n kept long)
    ∙ by_base (base_of p n)
  where
    marked : State → ℕ → Bool
    marked x s =
        is_some (scope_named x.tree (role_name (name_at x (top_above x n s)) Ended))

    place_alike : (name : List ℕ) → scope_named q.tree name ≡ scope_named p.tree name
    place_alike name =
        let at : ℕ → ℕ → Option ℕ = λ k most. cond (nat_lt k most) (Some k) None in
        ap (λ (k : ℕ). at k (length q.tree.scopes))
        (before_alike name p.tree.scopes q.tree.scopes kept)
        ∙ ap (at (prefix_len (λ (row : Scope). not (bytes_eq name row.name)) p.tree.scopes)) long

    by_base : (o : Option ℕ)
        → option_map_or (λ s. is_some (scope_named q.tree
        (role_name (name_at q (top_above q n s)) Ended))) o false
        ≡ option_map_or (λ s. is_some (scope_named p.tree
        (role_name (name_at p (top_above p n s)) Ended))) o false
    by_base None = refl
    by_base (Some s) =
        let top : top_above q n s ≡ top_above p n s =
        ap (λ (m : ℕ). cond (nat_le n 1) s m)
        (read_alike p q kept (λ (row : Scope). row.parent) 0 (λ row. refl) s) in
        let name : name_at q (top_above q n s) ≡ name_at p (top_above p n s) =
        read_alike p q kept (λ (row : Scope). row.name) (codes "root") (λ row. refl)
        (top_above q n s) ∙ ap (name_at p) top in
        ap (λ (x : List ℕ). is_some (scope_named q.tree (role_name x Ended))) name
        ∙ ap (λ (o : Option ℕ). is_some o)
        (place_alike (role_name (name_at p (top_above p n s)) Ended))

-- ---- all of it

-- The line of a done scope has a hit before the first detached row.
abbrev is_hit : List (ℕ × Scope) → Bool
is_hit rows =
    is_some (option_map (λ a. a.1) (least_hit (filter_map hit_at (before_detached rows))))

spared_over : (p q : State) (n : ℕ) (group : List ℕ) → Spares p q n
    → is_over q (night_text n) group ≡ is_over p (night_text n) group
spared_over p q n group spares =
    ap (λ (o : Option ℕ). option_map_or (is_done q.tree.scopes) o false) last
    ∙ by_last (last_below (is_scope p (night_text n) group) (length p.tree.scopes)) refl
  where
    last : last_below (is_scope q (night_text n) group) (length q.tree.scopes)
        ≡ last_below (is_scope p (night_text n) group) (length p.tree.scopes)
    last =
        last_alike (is_scope q (night_text n) group) (is_scope p (night_text n) group)
        (scope_alike p q spares.scopes (night_text n) group) (length q.tree.scopes)
        ∙ ap (last_below (is_scope p (night_text n) group)) spares.long

    tonight : (s : ℕ) → is_scope p (night_text n) group s ≡ true → is_elsewhere p n s ≡ false
    tonight s passes = by_row (slice_get p.tree.scopes s) passes
      where
        by_row : (o : Option Scope)
            → option_map_or (λ (row : Scope). takes_cause row.kind
            && (belongs group row.name && is_same (night_of p s) (night_text n))) o false ≡ true
            → is_elsewhere p n s ≡ false
        by_row None is = cc
        by_row (Some row) is =
            let first = and_parts (takes_cause row.kind)
            (belongs group row.name && is_same (night_of p s) (night_text n)) is in
            let second = and_parts (belongs group row.name)
            (is_same (night_of p s) (night_text n)) first.1 in
            ap not second.1

    by_last : (o : Option ℕ)
        → last_below (is_scope p (night_text n) group) (length p.tree.scopes) ≡ o
        → option_map_or (is_done q.tree.scopes) o false
        ≡ option_map_or (is_done p.tree.scopes) o false
    by_last None is = refl
    by_last (Some s) is =
        ap is_hit (spared_lines p q n s spares (tonight s
        (last_passes (is_scope p (night_text n) group) (length p.tree.scopes) s is)))

spared_room : (p q : State) (n : ℕ) (group : List ℕ) → Spares p q n
    → last_room q n group ≡ last_room p n group
spared_room p q n group spares =
    last_alike (is_owned q (night_text n) group) (is_owned p (night_text n) group)
    (owned_stays p q spares.scopes spares.groups (night_text n) group) (length q.work.groups)
    ∙ ap (last_below (is_owned p (night_text n) group)) spares.many

pub endings_leave_nights : EndingsLeaveNights
endings_leave_nights s n consistent bare = record {
  lines = λ t here. spared_lines p q n t spares here;
  groups = spares.rooms;
  tasks = spares.tasks;
  clock = spares.clock;
  base = base_alike p q n spares.scopes spares.long;
  ended = ended_alike p q n spares.scopes spares.long;
  over = λ group. spared_over p q n group spares;
  room = λ group. spared_room p q n group spares;
  known = spares.known;
}
  where
    p : State
    p = s.state

    q : State
    q = (session_after s (endings_of s.state n)).state

    spares : Spares s.state (session_after s (endings_of s.state n)).state n
    spares =
        spares_steps s.state n (endings_of s.state n) s (spares_all s.state n bare) consistent
        (endings_join s.state n (waits_below s.state n (length s.state.work.groups))
        (cancels_below s.state n (length s.state.tree.scopes))
        (waits_all s.state n (length s.state.work.groups))
        (cancels_all s.state n (length s.state.tree.scopes)))

-- ---- up a line

-- The line goes on above a row that isn't the one.
pub line_goes_up : (rows : List Scope) (most s top : ℕ) (row : Scope) (b : Bool) → 0 < most
    → slice_get rows s ≡ Some row → s ≢ top → is_root row.kind ≡ false
    → is_on top (line_within most rows s) ≡ b
    → is_on top (line_within (most - 1) rows row.parent) ≡ b
line_goes_up rows zero s top row b some found other root is = absurd (omega (arith, some))
line_goes_up rows (suc most) s top row b some found other root is =
    let less : suc most - 1 ≡ most = omega arith in
    ap (λ (m : ℕ). is_on top (line_within m rows row.parent)) less
    ∙ sym (ap (λ (o : Option Scope). is_on top (upwards (line_within most rows) s o)) found
    ∙ ap (λ (x : Bool). is_on top ((s, row) ∷ cond x [] (line_within most rows row.parent))) root
    ∙ ap (λ (x : Bool). x || is_on top (line_within most rows row.parent)) (ne_eqb s top other))
    ∙ is
