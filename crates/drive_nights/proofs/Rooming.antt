-- The scopes and groups of the store that a group of the plan needs are made.
use Rattle.std.proofs.Common.{◌≡◌, ◌<◌, ◌∙◌, ◌&&◌, ◌||◌, ◌+◌, ◌^◌, ℕ, zero, suc}
use Rattle.std.proofs.Common.{Bool, true, false, cond, List, [], ◌∷◌, Option, Some, None}
use Rattle.std.proofs.Common.{length, length-append, slice_get, is_some, nat_le, codes, ap, refl}
use Rattle.std.proofs.Common.{sym}
use Rattle.std.proofs.Common.{subst, arith}
use Rattle.std.proofs.Math.Bool.{or-false}
use Rattle.std.proofs.lemmas.Bool.{and_parts, false≢true}
use Rattle.std.specs.List.{list_all}
use Rattle.std.specs.Option.{option_and_then, option_map_or}
use Rattle.run_model.proofs.Common.{and_from}
use Rattle.run_model.proofs.RowLemmas.{slice_get-push_last}
use Rattle.run_model.specs.Allowed.{takes_cause}
use Rattle.run_model.specs.declared.commands.Command.TheVariants as call
use Rattle.run_model.specs.declared.commands.Step.{Step}
use Rattle.run_model.specs.declared.commands.Step.TheVariants as step
use Rattle.run_model.specs.declared.commands.Wish.TheVariants as wish
use Rattle.run_model.specs.declared.groups.Group.{Group}
use Rattle.run_model.specs.declared.scopes.Kind.TheVariants as kind
use Rattle.run_model.specs.declared.scopes.Hit.{Hit}
use Rattle.run_model.specs.declared.scopes.Scope.{Scope}
use Rattle.run_model.specs.Event.{Event}
use Rattle.run_model.specs.Event as event
use Rattle.run_model.specs.Replies.{decide}
use Rattle.run_model.specs.Rows.{new_group}
use Rattle.run_model.specs.Rules.{IsConsistent}
use Rattle.run_model.specs.Scopes.{is_done}
use Rattle.run_model.specs.Session.{Session, after_step, event_of_step, reply_of_step}
use Rattle.run_model.specs.Session.{session_after}
use Rattle.run_model.specs.Session.{with_event}
use Rattle.run_model.specs.State.{State, TreeState}
use Rattle.run_model.specs.Step as change
use Rattle.run_model.specs.TreeChanges.{hit_due}
use Rattle.model_laws.proofs.Passing.{command_leads}
use Rattle.model_laws.proofs.Stepping.{made_Some}
use Rattle.night_drive.specs.Distinct.{IsPlain}
use Rattle.night_drive.specs.Names.{belongs, is_same, night_of}
use Rattle.night_drive.specs.Searches.{last_below}
use Rattle.night_drive.specs.Seen.{is_over, is_owned, is_scope}
use Rattle.night_drive.proofs.Searching.{last_passes, last_within}
use Rattle.drive_nights.specs.declared.names.Role.TheVariants as role
use Rattle.drive_nights.specs.declared.untils.Until.{Until}
use Rattle.drive_nights.specs.Effects.{AreTaken, has_come, is_taken}
use Rattle.drive_nights.specs.Names.{free_name, free_round, role_name}
use Rattle.drive_nights.specs.Nights.{last_night, name_at, night_text}
use Rattle.drive_nights.specs.Rooms.{derive, is_changed, is_replaced, is_room, kept_scope}
use Rattle.drive_nights.specs.Rooms.{last_room}
use Rattle.drive_nights.specs.Rooms.{last_scope, new_room, old_room, room_steps, scope_steps}
use Rattle.drive_nights.specs.Rooms.{unlimited, unlimited_at}
use Rattle.drive_nights.proofs.Belonging.{round_belongs, round_is_of_one}
use Rattle.drive_nights.proofs.Making.{Grows, bare_grows, grows_on, is_making}
use Rattle.drive_nights.proofs.Making.{row_grows}
use Rattle.drive_nights.proofs.Placing.{Place, Stands, one_derive, place_stays, scope_at, stands_on}
use Rattle.drive_nights.proofs.Taking.{command_taken, consistent_after, steps_join, taken_join}

-- ---- a scope with its deadline

-- A scope of this name was made, and is done or isn't.
pub record Scoped (t u : State) (name : List ℕ) (night : Option (List ℕ)) (over : Bool)
    : Type 0 where
  pub consistent : IsConsistent u
  pub grows : Grows t u
  pub place : Place u name night over
  pub stands : Stands u name kind.Cause night
  pub last : last_night u ≡ last_night t
  pub own : (group : List ℕ) → belongs group name ≡ true → is_over u night group ≡ over
  pub others : (other : Option (List ℕ)) (group : List ℕ) → belongs group name ≡ false
      → is_over u other group ≡ is_over t other group

pub deadline_due : (e clock moment : ℕ) (cause : Option (List ℕ))
    → is_some (hit_due e clock (kind.Deadline moment cause)) ≡ nat_le moment clock
deadline_due e clock moment cause = by_come (nat_le moment clock) _
  where
    by_come : (b : Bool) (hit : Hit) → is_some (cond b (Some hit) None) ≡ b
    by_come true hit = refl
    by_come false hit = refl

pub scope_made : (t : Session) (name parent : List ℕ) (until : Option Until)
    (night : Option (List ℕ)) (over : Bool) → IsConsistent t.state
    → Place t.state parent night over → AreTaken t (scope_steps name parent until)
    → Scoped t.state (session_after t (scope_steps name parent until)).state name night
    (over || has_come t.state until)
scope_made t name parent None night over consistent it taken =
    let parts = and_parts (is_taken (reply_of_step t (derive name parent wish.Cause))) true taken in
    let one = one_derive t name parent wish.Cause night over false consistent it parts.0
    (record { no_root = refl; attached = refl }) refl refl in
    record {
      consistent = one.consistent;
      grows = one.grows;
      place = one.place;
      stands = one.stands;
      last = one.last;
      own = λ group own. one.own refl group own ∙ sym (or-false over);
      others = λ other group not_its. one.others other group not_its;
    }
scope_made t name parent (Some until) night over consistent it taken =
    let above : List ℕ = role_name name role.Until in
    let come : Bool = nat_le until.moment t.state.tree.clock in
    let x : Step = derive above parent (wish.Deadline until.moment (Some until.words)) in
    let y : Step = derive name above wish.Cause in
    let z : Step =
    derive (role_name name role.Said) name (wish.Value (codes "deadline") until.words) in
    let t1 : Session = after_step t x in
    let t2 : Session = after_step t1 y in
    let t3 : Session = after_step t2 z in
    let first = and_parts (is_taken (reply_of_step t x))
    (is_taken (reply_of_step t1 y) && (is_taken (reply_of_step t2 z) && true)) taken in
    let second = and_parts (is_taken (reply_of_step t1 y))
    (is_taken (reply_of_step t2 z) && true) first.1 in
    let third = and_parts (is_taken (reply_of_step t2 z)) true second.1 in
    let one = one_derive t above parent (wish.Deadline until.moment (Some until.words)) night over
    come consistent it first.0 (record { no_root = refl; attached = refl }) refl
    (deadline_due (t.state.count + 1) t.state.tree.clock until.moment (Some until.words)) in
    let two = one_derive t1 name above wish.Cause night (over || come) false one.consistent
    one.place second.0 (record { no_root = refl; attached = refl }) refl refl in
    let here : Place t2.state name night (over || come) =
    subst (λ (b : Bool). Place t2.state name night b) (or-false (over || come)) two.place in
    let three = one_derive t2 (role_name name role.Said) name
    (wish.Value (codes "deadline") until.words) night (over || come) false two.consistent here
    third.0 (record { no_root = refl; attached = refl }) refl refl in
    record {
      consistent = three.consistent;
      grows = grows_on t.state t1.state t3.state one.grows
          (grows_on t1.state t2.state t3.state two.grows three.grows);
      place = place_stays t2.state t3.state name night (over || come) three.grows here;
      stands = stands_on t2.state t3.state name kind.Cause night three.grows two.stands;
      last = three.last ∙ two.last ∙ one.last;
      own = λ group own. three.others night group refl ∙ two.own refl group own;
      others = λ other group not_its.
          three.others other group refl ∙ two.others other group not_its
          ∙ one.others other group refl;
    }

-- ---- a group of the store

-- A group of the plan has a group of the store.
pub record Housed (q : State) (night : Option (List ℕ)) (group : List ℕ) : Type 0 where
  pub number : ℕ
  pub within : number < length q.work.groups
  pub owned : is_owned q night group number ≡ true

pub housed_stays : (p q : State) (night : Option (List ℕ)) (group : List ℕ) → Grows p q
    → Housed p night group → Housed q night group
housed_stays p q night group grows it =
    let less : it.number < length p.work.groups = it.within in
    record {
      number = it.number;
      within = omega (arith, less, grows.more);
      owned = grows.owned night group it.number less ∙ it.owned;
    }

pub last_found : (test : ℕ → Bool) (most n : ℕ) → n < most → test n ≡ true
    → is_some (last_below test most) ≡ true
last_found test zero n less passes = absurd (omega (arith, less))
last_found test (suc most) n less passes =
    by_test (test most) refl (λ earlier. last_found test most n earlier passes)
  where
    by_test : (b : Bool) → test most ≡ b
        → (n < most → is_some (last_below test most) ≡ true)
        → is_some (cond b (Some most) (last_below test most)) ≡ true
    by_test true is before = refl
    by_test false is before =
        before (by_place (λ same. false≢true (sym is ∙ ap test (sym same) ∙ passes)))
      where
        by_place : (n ≡ most → ⊥) → n < most
        by_place other = omega (arith, less, other)

-- A bare group was made.
pub record Bared (t u : State) (name : List ℕ) (night : Option (List ℕ)) : Type 0 where
  pub consistent : IsConsistent u
  pub grows : Grows t u
  pub tree : u.tree ≡ t.tree
  pub housed : (group : List ℕ) → belongs group name ≡ true → Housed u night group

pub bare_made : (t : Session) (name scope : List ℕ) (night : Option (List ℕ)) (over : Bool)
    → IsConsistent t.state → Place t.state scope night over
    → is_taken (reply_of_step t (step.Command (call.Bare name scope))) ≡ true
    → Bared t.state (after_step t (step.Command (call.Bare name scope))).state name night
bare_made t name scope night over consistent it taken =
    let q : State = t.state in
    let x : Step = step.Command (call.Bare name scope) in
    let to : after_step t x ≡ with_event t (Some (event.Bare name it.place)) =
    command_taken t (call.Bare name scope) refl taken
    ∙ ap (λ (s : ℕ). with_event t (Some (event.Bare name s)))
    (scope_at q scope night over consistent.numbered it) in
    let u : State = change.step q (event.Bare name it.place) in
    let after : IsConsistent u =
    subst (λ (y : Session). IsConsistent y.state) to (consistent_after t (x ∷ []) consistent) in
    let new : Group = new_group name it.place true in
    let here : Bared q u name night = record {
      consistent = after;
      grows = bare_grows q name it.place consistent.numbered;
      tree = refl;
      housed = λ group own. record {
        number = length q.work.groups;
        within = omega (arith, length-append q.work.groups (new ∷ []));
        owned = ap (λ o. option_map_or (λ (row : Group). belongs group row.name
            && is_same (night_of q row.scope) night) o false)
            (slice_get-push_last q.work.groups new)
            ∙ and_from (belongs group name) (is_same (night_of q it.place) night) own it.of;
      };
    } in
    subst (λ (y : Session). Bared q y.state name night) (sym to) here

-- Which night is the last one follows from the tree.
pub last_by_tree : (t u : State) → u.tree ≡ t.tree → last_night u ≡ last_night t
last_by_tree t u same = ap (λ (tree : TreeState). last_night (record t { tree = tree })) same

-- Whether a group is done follows from the tree.
pub over_by_tree : (t u : State) → u.tree ≡ t.tree → (night : Option (List ℕ)) (group : List ℕ)
    → is_over u night group ≡ is_over t night group
over_by_tree t u same night group =
    ap (λ (tree : TreeState). is_over (record t { tree = tree }) night group) same

-- ---- a group of the plan

-- A group of the plan has what it needs. No other one has changed.
pub record Roomed (t u : State) (n : ℕ) (group : List ℕ) (over : Bool) : Type 0 where
  pub consistent : IsConsistent u
  pub grows : Grows t u
  pub housed : Housed u (night_text n) group
  pub last : last_night u ≡ last_night t
  pub over_is : is_over u (night_text n) group ≡ over
  pub others : (night : Option (List ℕ)) (other : List ℕ) → IsPlain other → (group ≡ other → ⊥)
      → is_over u night other ≡ is_over t night other

-- The state at which the steps were made, and the session that has come from it.
pub record Comes (p : State) (t : Session) : Type 0 where
  pub consistent : IsConsistent t.state
  pub clock : t.state.tree.clock ≡ p.tree.clock
  pub places : (name : List ℕ) (night : Option (List ℕ)) (over : Bool) → Place p name night over
      → Place t.state name night over
  pub housed : (night : Option (List ℕ)) (group : List ℕ) → Housed p night group
      → Housed t.state night group

pub comes_on : (p : State) (t u : Session) → Comes p t → IsConsistent u.state
    → Grows t.state u.state → Comes p u
comes_on p t u comes consistent grows = record {
  consistent = consistent;
  clock = grows.clock ∙ comes.clock;
  places = λ name night over it.
      place_stays t.state u.state name night over grows (comes.places name night over it);
  housed = λ night group it.
      housed_stays t.state u.state night group grows (comes.housed night group it);
}

come_alike : (p : State) (t : Session) → Comes p t → (until : Option Until)
    → has_come t.state until ≡ has_come p until
come_alike p t comes None = refl
come_alike p t comes (Some until) = ap (nat_le until.moment) comes.clock

-- What stays of two choices.
pub kept_is : (f : ℕ → Bool) (o : Option ℕ) (s : ℕ)
    → option_and_then (λ x. cond (f x) None (Some x)) o ≡ Some s → o ≡ Some s
kept_is f None s e = cc
kept_is f (Some x) s e = by_test (f x) e
  where
    by_test : (b : Bool) → cond b None (Some x) ≡ Some s → Some x ≡ Some s
    by_test true e = cc
    by_test false e = e

-- The last scope of a group stands in the night.
pub scope_place : (p : State) (n : ℕ) (group : List ℕ) (s : ℕ) → last_scope p n group ≡ Some s
    → Place p (name_at p s) (night_text n) (is_done p.tree.scopes s)
scope_place p n group s last =
    by_row (slice_get p.tree.scopes s) refl
    (last_passes (is_scope p (night_text n) group) (length p.tree.scopes) s last)
  where
    by_row : (o : Option Scope) → slice_get p.tree.scopes s ≡ o
        → option_map_or (λ row. takes_cause row.kind
        && (belongs group row.name && is_same (night_of p s) (night_text n))) o false ≡ true
        → Place p (name_at p s) (night_text n) (is_done p.tree.scopes s)
    by_row None found passes = absurd (false≢true passes)
    by_row (Some row) found passes =
        let parts = and_parts (takes_cause row.kind)
        (belongs group row.name && is_same (night_of p s) (night_text n)) passes in
        record {
          place = s;
          row = row;
          found = found;
          called = sym (ap (λ (o : Option Scope). option_map_or (λ (x : Scope). x.name) o
              (codes "root")) found);
          of = (and_parts (belongs group row.name) (is_same (night_of p s) (night_text n))
              parts.1).1;
          done = refl;
        }

-- A limit changes no scope.
pub limit_tree : (t : Session) (name : List ℕ) (limit : Option ℕ)
    → (after_step t (step.Command (call.SetLimit name limit))).state.tree ≡ t.state.tree
limit_tree t name limit = by_event (event_of_step t x) refl
  where
    x : Step
    x = step.Command (call.SetLimit name limit)

    by_event : (o : Option Event) → event_of_step t (step.Command (call.SetLimit name limit)) ≡ o
        → (with_event t o).state.tree ≡ t.state.tree
    by_event None at = refl
    by_event (Some made) at =
        let leads = command_leads t.state t.log (call.SetLimit name limit) made
        (made_Some (decide t.state t.log (call.SetLimit name limit)) made at) in
        sym (ap (λ (e : Event). (change.step t.state e).tree) leads.asks)

pub unlimited_makes : (o : Option Group) → list_all is_making (option_map_or unlimited o []) ≡ true
unlimited_makes None = refl
unlimited_makes (Some row) = by_limit (is_some row.limit)
  where
    by_limit : (b : Bool)
        → list_all is_making
        (cond b (step.Command (call.SetLimit row.name None) ∷ []) []) ≡ true
    by_limit true = refl
    by_limit false = refl

pub unlimited_tree : (t : Session) (o : Option Group)
    → (session_after t (option_map_or unlimited o [])).state.tree ≡ t.state.tree
unlimited_tree t None = refl
unlimited_tree t (Some row) = by_limit (is_some row.limit)
  where
    by_limit : (b : Bool)
        → (session_after t
        (cond b (step.Command (call.SetLimit row.name None) ∷ []) [])).state.tree ≡ t.state.tree
    by_limit true = limit_tree t row.name None
    by_limit false = refl

-- A group that keeps its scope.
old_made : (p : State) (t : Session) (n : ℕ) (group : List ℕ) (s : ℕ) → Comes p t → n < 2 ^ 64
    → last_scope p n group ≡ Some s → AreTaken t (old_room p n group s)
    → Roomed t.state (session_after t (old_room p n group s)).state n group
    (is_over t.state (night_text n) group)
old_made p t n group s comes small last taken =
    by_room (last_room p n group) refl
    (option_map_or (is_room p s) (last_room p n group) false) refl taken
  where
    night : Option (List ℕ)
    night = night_text n

    by_row : (g : ℕ) → last_room p n group ≡ Some g
        → Roomed t.state (session_after t (unlimited_at p g)).state n group
        (is_over t.state (night_text n) group)
    by_row g is =
        let row : List Step = unlimited_at p g in
        let u : State = (session_after t row).state in
        let grows : Grows t.state u =
        row_grows row t (unlimited_makes (slice_get p.work.groups g)) comes.consistent in
        let same : u.tree ≡ t.state.tree = unlimited_tree t (slice_get p.work.groups g) in
        let own : Housed p night group = record {
          number = g;
          within = last_within (is_owned p night group) (length p.work.groups) g is;
          owned = last_passes (is_owned p night group) (length p.work.groups) g is;
        } in
        record {
          consistent = consistent_after t row comes.consistent;
          grows = grows;
          housed = housed_stays t.state u night group grows (comes.housed night group own);
          last = last_by_tree t.state u same;
          over_is = over_by_tree t.state u same night group;
          others = λ other_night other plain apart.
              over_by_tree t.state u same other_night other;
        }

    by_bare : AreTaken t (step.Command (call.Bare (free_name p group n) (name_at p s)) ∷ [])
        → Roomed t.state (session_after t
        (step.Command (call.Bare (free_name p group n) (name_at p s)) ∷ [])).state n group
        (is_over t.state (night_text n) group)
    by_bare taken =
        let x : Step = step.Command (call.Bare (free_name p group n) (name_at p s)) in
        let parts = and_parts (is_taken (reply_of_step t x)) true taken in
        let over : Bool = is_done p.tree.scopes s in
        let made = bare_made t (free_name p group n) (name_at p s) (night_text n) over
        comes.consistent
        (comes.places (name_at p s) (night_text n) over (scope_place p n group s last)) parts.0 in
        let u : State = (after_step t x).state in
        record {
          consistent = made.consistent;
          grows = made.grows;
          housed = made.housed group (round_belongs group n (free_round p group n) small);
          last = last_by_tree t.state u made.tree;
          over_is = over_by_tree t.state u made.tree (night_text n) group;
          others = λ other_night other plain apart.
              over_by_tree t.state u made.tree other_night other;
        }

    by_room : (o : Option ℕ) → last_room p n group ≡ o → (b : Bool)
        → option_map_or (is_room p s) o false ≡ b
        → AreTaken t (cond b (option_map_or (unlimited_at p) o [])
        (step.Command (call.Bare (free_name p group n) (name_at p s)) ∷ []))
        → Roomed t.state (session_after t (cond b (option_map_or (unlimited_at p) o [])
        (step.Command (call.Bare (free_name p group n) (name_at p s)) ∷ []))).state n group
        (is_over t.state (night_text n) group)
    by_room o is false room taken = by_bare taken
    by_room None is true room taken = absurd (false≢true room)
    by_room (Some g) is true room taken = by_row g is

-- A group that gets a new scope.
new_made : (p : State) (t : Session) (n : ℕ) (group base : List ℕ) (until : Option Until)
    (over : Bool) → Comes p t → n < 2 ^ 64 → IsPlain group
    → Place t.state base (night_text n) over
    → AreTaken t (new_room (free_name p group n) base until)
    → Roomed t.state (session_after t (new_room (free_name p group n) base until)).state n group
    (over || has_come p until)
new_made p t n group base until over comes small plain it taken =
    let night : Option (List ℕ) = night_text n in
    let name : List ℕ = free_name p group n in
    let own : belongs group name ≡ true = round_belongs group n (free_round p group n) small in
    let first : List Step = scope_steps name base until in
    let last : List Step = step.Command (call.Bare name name) ∷ [] in
    let parts = taken_join first last t taken in
    let t1 : Session = session_after t first in
    let one = scope_made t name base until night over comes.consistent it parts.0 in
    let bare = and_parts (is_taken (reply_of_step t1 (step.Command (call.Bare name name)))) true
    parts.1 in
    let two = bare_made t1 name name night (over || has_come t.state until) one.consistent one.place
    bare.0 in
    let u : State = (session_after t1 last).state in
    let here : Roomed t.state u n group (over || has_come p until) = record {
      consistent = two.consistent;
      grows = grows_on t.state t1.state u one.grows two.grows;
      housed = two.housed group own;
      last = last_by_tree t1.state u two.tree ∙ one.last;
      over_is = over_by_tree t1.state u two.tree night group ∙ one.own group own
          ∙ ap (λ b. over || b) (come_alike p t comes until);
      others = λ other_night other plain_other apart.
          over_by_tree t1.state u two.tree other_night other
          ∙ one.others other_night other
          (round_is_of_one group other n (free_round p group n) small plain plain_other apart);
    } in
    subst (λ (x : Session). Roomed t.state x.state n group (over || has_come p until))
    (sym (steps_join first last t)) here

-- What a group needs is made.
pub room_made : (p : State) (t : Session) (n : ℕ) (group base : List ℕ) (until : Option Until)
    (moved over : Bool) → Comes p t → n < 2 ^ 64 → IsPlain group
    → Place t.state base (night_text n) over
    → AreTaken t (room_steps p n base moved group until)
    → Roomed t.state (session_after t (room_steps p n base moved group until)).state n group
    (cond (is_some (kept_scope p n group until moved)) (is_over t.state (night_text n) group)
    (over || has_come p until))
room_made p t n group base until moved over comes small plain it taken =
    by_kept (kept_scope p n group until moved) refl taken
  where
    by_kept : (o : Option ℕ) → kept_scope p n group until moved ≡ o
        → AreTaken t (option_map_or (old_room p n group) o
        (new_room (free_name p group n) base until))
        → Roomed t.state (session_after t (option_map_or (old_room p n group) o
        (new_room (free_name p group n) base until))).state n group
        (cond (is_some o) (is_over t.state (night_text n) group) (over || has_come p until))
    by_kept None is taken = new_made p t n group base until over comes small plain it taken
    by_kept (Some s) is taken =
        old_made p t n group s comes small
        (kept_is (λ x. is_replaced p x (moved || is_changed p x until)) (last_scope p n group) s is)
        taken
