-- A scope of a night is found by its name, and scopes are made below it.
use Rattle.std.proofs.Common.{◌≡◌, ◌<◌, ◌∙◌, ◌&&◌, ◌||◌, ◌+◌, ℕ, suc, Bool, true, false}
use Rattle.std.proofs.Common.{cond, List, [], ◌∷◌, Option, Some, None, length, slice_get}
use Rattle.std.proofs.Common.{arith, is_some, codes, ap, length-append, max, refl, sym, subst}
use Rattle.std.proofs.Math.Bool.{or-false, or-true}
use Rattle.std.proofs.Math.Nat.{max-eq_left}
use Rattle.std.proofs.lemmas.Option.{slice_get_within}
use Rattle.std.proofs.lemmas.Slice.Eq.{bytes_eq-Decides}
use Rattle.std.specs.Option.{option_map, option_map_or}
use Rattle.std.specs.Prelude.{unwrap_or}
use Rattle.run_model.proofs.RowLemmas.{slice_get-push_last}
use Rattle.run_model.specs.Allowed.{takes_cause}
use Rattle.run_model.specs.declared.commands.Command.TheVariants as call
use Rattle.run_model.specs.declared.commands.Step.{Step}
use Rattle.run_model.specs.declared.commands.Wish.{Wish}
use Rattle.run_model.specs.declared.commands.Wish.TheVariants as wish
use Rattle.run_model.specs.declared.scopes.Hit.{Hit}
use Rattle.run_model.specs.declared.scopes.Kind.{Kind}
use Rattle.run_model.specs.declared.scopes.Kind.TheVariants as kind
use Rattle.run_model.specs.declared.scopes.Scope.{Scope}
use Rattle.run_model.specs.Event as event
use Rattle.run_model.specs.Replies.{kind_made, scope_of}
use Rattle.run_model.specs.Rows.{new_scope, root}
use Rattle.run_model.specs.Rules.{AreNumbered, IsConsistent}
use Rattle.run_model.specs.Scopes.{AreOrdered, first_hit, is_detached, is_done, is_root, text_under}
use Rattle.run_model.specs.Scopes.{value_of}
use Rattle.run_model.specs.Session.{Session, after_step, reply_of_step, with_event}
use Rattle.run_model.specs.State.{State}
use Rattle.run_model.specs.Step as change
use Rattle.run_model.specs.TreeChanges.{hit_due, with_hit}
use Rattle.model_laws.specs.Searches.{joined, nearest}
use Rattle.model_laws.proofs.Lines.{first_hit_up, value_up}
use Rattle.model_laws.proofs.Names.{place_of_name}
use Rattle.night_drive.specs.Names.{belongs, is_same, night_of}
use Rattle.night_drive.specs.Seen.{is_over}
use Rattle.night_drive.proofs.Deriving.{derives_stand_last}
use Rattle.drive_nights.specs.Effects.{is_taken}
use Rattle.drive_nights.specs.Nights.{last_night, night_at, night_under, number_in}
use Rattle.drive_nights.specs.Rooms.{derive}
use Rattle.drive_nights.specs.Searches.{greatest_below}
use Rattle.drive_nights.proofs.Making.{Grows, derive_grows}
use Rattle.drive_nights.proofs.Numbering.{greatest_least}
use Rattle.drive_nights.proofs.Searching.{greatest_alike}
use Rattle.drive_nights.proofs.Taking.{command_taken, consistent_after}

-- A scope of this name stands in this night, and is done or isn't.
pub record Place (q : State) (name : List ℕ) (night : Option (List ℕ)) (over : Bool) : Type 0 where
  pub place : ℕ
  pub row : Scope
  pub found : slice_get q.tree.scopes place ≡ Some row
  pub called : row.name ≡ name
  pub of : is_same (night_of q place) night ≡ true
  pub done : is_done q.tree.scopes place ≡ over

pub place_within : (q : State) (name : List ℕ) (night : Option (List ℕ)) (over : Bool)
    (it : Place q name night over) → it.place < length q.tree.scopes
place_within q name night over it = slice_get_within q.tree.scopes it.place it.row it.found

pub place_stays : (p q : State) (name : List ℕ) (night : Option (List ℕ)) (over : Bool)
    → Grows p q → Place p name night over → Place q name night over
place_stays p q name night over grows it =
    let less : it.place < length p.tree.scopes = place_within p name night over it in
    record {
      place = it.place;
      row = it.row;
      found = grows.scopes it.place less ∙ it.found;
      called = it.called;
      of = ap (λ n. is_same n night) (grows.nights it.place less) ∙ it.of;
      done = grows.done it.place less ∙ it.done;
    }

-- It is found by its name.
pub scope_at : (q : State) (name : List ℕ) (night : Option (List ℕ)) (over : Bool)
    → AreNumbered q → (it : Place q name night over) → scope_of q name ≡ it.place
scope_at q name night over numbered it =
    ap (scope_of q) (sym it.called)
    ∙ ap (λ (o : Option ℕ). unwrap_or o (length q.tree.scopes))
    (place_of_name (λ (row : Scope). row.name) q.tree.scopes it.place it.row numbered.scope_names
    it.found)

-- A derive that is taken makes a scope below it.
pub derive_taken : (t : Session) (name parent : List ℕ) (w : Wish) (night : Option (List ℕ))
    (over : Bool) → AreNumbered t.state → (it : Place t.state parent night over)
    → is_taken (reply_of_step t (derive name parent w)) ≡ true
    → after_step t (derive name parent w)
    ≡ with_event t (Some (event.Derive name it.place (kind_made t.state.tree.clock w)))
derive_taken t name parent w night over numbered it taken =
    command_taken t (call.Derive name parent w) refl taken
    ∙ ap (λ (s : ℕ). with_event t
    (Some (event.Derive name s (kind_made t.state.tree.clock w))))
    (scope_at t.state parent night over numbered it)

-- ---- the new scope

-- The row of a new scope that this hit ends, if there is one.
abbrev pub ticked : List ℕ → ℕ → Kind → Option Hit → Scope
ticked name s k o = option_map_or (λ hit. with_hit hit (new_scope name s k)) o (new_scope name s k)

pub ticked_name : (name : List ℕ) (s : ℕ) (k : Kind) (o : Option Hit)
    → (ticked name s k o).name ≡ name
ticked_name name s k None = refl
ticked_name name s k (Some hit) = refl

pub ticked_kind : (name : List ℕ) (s : ℕ) (k : Kind) (o : Option Hit) → (ticked name s k o).kind ≡ k
ticked_kind name s k None = refl
ticked_kind name s k (Some hit) = refl

pub ticked_parent : (name : List ℕ) (s : ℕ) (k : Kind) (o : Option Hit)
    → (ticked name s k o).parent ≡ s
ticked_parent name s k None = refl
ticked_parent name s k (Some hit) = refl

ticked_hit : (name : List ℕ) (s : ℕ) (k : Kind) (o : Option Hit) → (ticked name s k o).hit ≡ o
ticked_hit name s k None = refl
ticked_hit name s k (Some hit) = refl

-- It is an ordinary one.
pub record IsOrdinary (k : Kind) : Type 0 where
  pub no_root : is_root k ≡ false
  pub attached : is_detached k ≡ false

joined_done : (up : Option (ℕ × Hit)) (n : ℕ) (own : Option Hit)
    → is_some (option_map (λ a. a.1) (joined up n own))
    ≡ (is_some (option_map (λ a. a.1) up) || is_some own)
joined_done up n None = sym (or-false (is_some (option_map (λ a. a.1) up)))
joined_done up n (Some hit) = sym (or-true (is_some (option_map (λ a. a.1) up)))

-- The state after the derive.
abbrev pub derived : State → List ℕ → ℕ → Kind → State
derived q name s k = change.step q (event.Derive name s k)

pub new_row : (q : State) (name : List ℕ) (s : ℕ) (k : Kind)
    → slice_get (derived q name s k).tree.scopes (length q.tree.scopes)
    ≡ Some (ticked name s k (hit_due (q.count + 1) q.tree.clock k))
new_row q name s k =
    slice_get-push_last q.tree.scopes (ticked name s k (hit_due (q.count + 1) q.tree.clock k))

new_night : (q : State) (name : List ℕ) (s : ℕ) (k : Kind) → AreNumbered q
    → AreOrdered (derived q name s k).tree.scopes → s < length q.tree.scopes → IsOrdinary k
    → night_of (derived q name s k) (length q.tree.scopes)
    ≡ nearest (text_under (codes "night") k) (night_of q s)
new_night q name s k numbered ordered below ordinary =
    let o = hit_due (q.count + 1) q.tree.clock k in
    let new : Scope = ticked name s k o in
    let rows : List Scope = (derived q name s k).tree.scopes in
    let key : List ℕ = codes "night" in
    value_up key rows (length q.tree.scopes) new ordered (new_row q name s k)
    ∙ ap (λ (x : Kind). nearest (text_under key x)
    (cond (is_root x) None (value_of rows new.parent key))) (ticked_kind name s k o)
    ∙ ap (λ b. nearest (text_under key k) (cond b None (value_of rows new.parent key)))
    ordinary.no_root
    ∙ ap (λ (m : ℕ). nearest (text_under key k) (value_of rows m key)) (ticked_parent name s k o)
    ∙ ap (nearest (text_under key k)) ((derive_grows q name s k numbered).nights s below)

new_done : (q : State) (name : List ℕ) (s : ℕ) (k : Kind) → AreNumbered q
    → AreOrdered (derived q name s k).tree.scopes → s < length q.tree.scopes → IsOrdinary k
    → is_done (derived q name s k).tree.scopes (length q.tree.scopes)
    ≡ (is_done q.tree.scopes s || is_some (hit_due (q.count + 1) q.tree.clock k))
new_done q name s k numbered ordered below ordinary =
    let o = hit_due (q.count + 1) q.tree.clock k in
    let new : Scope = ticked name s k o in
    let rows : List Scope = (derived q name s k).tree.scopes in
    let n : ℕ = length q.tree.scopes in
    ap (λ (x : Option (ℕ × Hit)). is_some (option_map (λ a. a.1) x))
    (first_hit_up rows n new ordered (new_row q name s k))
    ∙ ap (λ (x : Kind). is_some (option_map (λ a. a.1) (cond (is_detached x) None
    (joined (cond (is_root x) None (first_hit rows new.parent)) n new.hit))))
    (ticked_kind name s k o)
    ∙ ap (λ b. is_some (option_map (λ a. a.1) (cond b None
    (joined (cond (is_root k) None (first_hit rows new.parent)) n new.hit)))) ordinary.attached
    ∙ ap (λ b. is_some (option_map (λ a. a.1)
    (joined (cond b None (first_hit rows new.parent)) n new.hit))) ordinary.no_root
    ∙ ap (λ (m : ℕ). is_some (option_map (λ a. a.1) (joined (first_hit rows m) n new.hit)))
    (ticked_parent name s k o)
    ∙ ap (λ (x : Option Hit). is_some (option_map (λ a. a.1) (joined (first_hit rows s) n x)))
    (ticked_hit name s k o)
    ∙ joined_done (first_hit rows s) n o
    ∙ ap (λ b. b || is_some o) ((derive_grows q name s k numbered).done s below)

-- A new scope is of the night of the one above it, and done if that is or if its deadline has come.
night_made : (q : State) (name parent : List ℕ) (k : Kind) (night : Option (List ℕ)) (over : Bool)
    → AreNumbered q → (it : Place q parent night over)
    → AreOrdered (derived q name it.place k).tree.scopes → IsOrdinary k
    → text_under (codes "night") k ≡ None
    → is_same (night_of (derived q name it.place k) (length q.tree.scopes)) night ≡ true
night_made q name parent k night over numbered it ordered ordinary plain =
    ap (λ n. is_same n night) (new_night q name it.place k numbered ordered
    (place_within q parent night over it) ordinary)
    ∙ ap (λ x. is_same (nearest x (night_of q it.place)) night) plain ∙ it.of

pub place_made : (q : State) (name parent : List ℕ) (k : Kind) (night : Option (List ℕ))
    (over : Bool) → AreNumbered q → (it : Place q parent night over)
    → AreOrdered (derived q name it.place k).tree.scopes → IsOrdinary k
    → text_under (codes "night") k ≡ None
    → Place (derived q name it.place k) name night
    (over || is_some (hit_due (q.count + 1) q.tree.clock k))
place_made q name parent k night over numbered it ordered ordinary plain =
    let below : it.place < length q.tree.scopes = place_within q parent night over it in
    record {
      place = length q.tree.scopes;
      row = ticked name it.place k (hit_due (q.count + 1) q.tree.clock k);
      found = new_row q name it.place k;
      called = ticked_name name it.place k (hit_due (q.count + 1) q.tree.clock k);
      of = night_made q name parent k night over numbered it ordered ordinary plain;
      done = new_done q name it.place k numbered ordered below ordinary
          ∙ ap (λ b. b || is_some (hit_due (q.count + 1) q.tree.clock k)) it.done;
    }

-- A scope with a number begins a night.
pub number_made : (q : State) (name parent text : List ℕ) (night : Option (List ℕ)) (over : Bool)
    → AreNumbered q → (it : Place q parent night over)
    → AreOrdered (derived q name it.place (kind.Value (codes "night") text)).tree.scopes
    → Place (derived q name it.place (kind.Value (codes "night") text)) name (Some text) over
number_made q name parent text night over numbered it ordered =
    let k : Kind = kind.Value (codes "night") text in
    let ordinary : IsOrdinary k = record { no_root = refl; attached = refl } in
    let below : it.place < length q.tree.scopes = place_within q parent night over it in
    record {
      place = length q.tree.scopes;
      row = new_scope name it.place k;
      found = new_row q name it.place k;
      called = refl;
      of = ap (λ n. is_same n (Some text)) (new_night q name it.place k numbered ordered below
          ordinary)
          ∙ (bytes_eq-Decides text text).1 refl;
      done = new_done q name it.place k numbered ordered below ordinary
          ∙ or-false (is_done q.tree.scopes it.place) ∙ it.done;
    }

-- ---- the last night

-- A new scope may begin a night, and then that may be the last one.
pub derive_greatest : (q : State) (name : List ℕ) (s : ℕ) (k : Kind) → AreNumbered q
    → last_night (derived q name s k) ≡ max (last_night q) (night_under k)
derive_greatest q name s k numbered =
    ap (greatest_below (night_at u)) longer
    ∙ ap (λ (o : Option Scope). max (greatest_below (night_at u) (length q.tree.scopes))
    (option_map_or (λ (row : Scope). night_under row.kind) o 1)) (new_row q name s k)
    ∙ ap (λ (x : Kind). max (greatest_below (night_at u) (length q.tree.scopes)) (night_under x))
    (ticked_kind name s k (hit_due (q.count + 1) q.tree.clock k))
    ∙ ap (λ m. max m (night_under k))
    (greatest_alike (night_at u) (night_at q) (length q.tree.scopes)
    (λ t less. ap (λ (o : Option Scope). option_map_or (λ (row : Scope). night_under row.kind) o 1)
    ((derive_grows q name s k numbered).scopes t less)))
  where
    u : State
    u = derived q name s k

    longer : length (derived q name s k).tree.scopes ≡ suc (length q.tree.scopes)
    longer =
        length-append q.tree.scopes (ticked name s k (hit_due (q.count + 1) q.tree.clock k) ∷ [])
        ∙ omega arith

-- One that begins none doesn't change it.
pub derive_last : (q : State) (name : List ℕ) (s : ℕ) (k : Kind) → AreNumbered q
    → text_under (codes "night") k ≡ None → last_night (derived q name s k) ≡ last_night q
derive_last q name s k numbered plain =
    derive_greatest q name s k numbered
    ∙ ap (λ (o : Option (List ℕ)). max (last_night q) (option_map_or number_in o 1)) plain
    ∙ max-eq_left (greatest_least (night_at q) (length q.tree.scopes))

-- ---- groups

-- A new scope changes no group to which it doesn't belong.
pub over_left : (q : State) (name : List ℕ) (s : ℕ) (k : Kind) (night : Option (List ℕ))
    (group : List ℕ) → AreNumbered q → s < length q.tree.scopes
    → (takes_cause k && belongs group name) ≡ false
    → is_over (derived q name s k) night group ≡ is_over q night group
over_left q name s k night group numbered below not_its =
    derives_stand_last q name s k night group numbered below
    ∙ by_both (takes_cause k) (belongs group name) not_its
  where
    by_both : (a b : Bool) → (a && b) ≡ false
        → cond (a && (b && is_same (night_of q s) night)) (is_done q.tree.scopes s)
        (is_over q night group) ≡ is_over q night group
    by_both false b none = refl
    by_both true false none = refl
    by_both true true none = cc

-- A group to which it belongs is done as the scope above it is.
pub over_gets : (q : State) (name parent : List ℕ) (k : Kind) (night : Option (List ℕ))
    (over : Bool) (group : List ℕ) → AreNumbered q → (it : Place q parent night over)
    → takes_cause k ≡ true → belongs group name ≡ true
    → is_over (derived q name it.place k) night group ≡ over
over_gets q name parent k night over group numbered it takes own =
    derives_stand_last q name it.place k night group numbered
    (place_within q parent night over it)
    ∙ ap (λ b. cond (b && (belongs group name && is_same (night_of q it.place) night))
    (is_done q.tree.scopes it.place) (is_over q night group)) takes
    ∙ ap (λ b. cond (b && is_same (night_of q it.place) night) (is_done q.tree.scopes it.place)
    (is_over q night group)) own
    ∙ ap (λ b. cond b (is_done q.tree.scopes it.place) (is_over q night group)) it.of
    ∙ it.done

-- ---- root

-- Root is of the first night, and is never done.
pub root_place : (q : State) → AreNumbered q → Place q (codes "root") None false
root_place q numbered = record {
  place = 0;
  row = root;
  found = numbered.rooted;
  called = refl;
  of = ap (λ n. is_same n None)
      (value_up (codes "night") q.tree.scopes 0 root numbered.ordered numbered.rooted);
  done = ap (λ (x : Option (ℕ × Hit)). is_some (option_map (λ a. a.1) x))
      (first_hit_up q.tree.scopes 0 root numbered.ordered numbered.rooted);
}

-- ---- one step

-- A scope of this name and kind stands in this night.
pub record Stands (q : State) (name : List ℕ) (k : Kind) (night : Option (List ℕ)) : Type 0 where
  pub place : ℕ
  pub row : Scope
  pub found : slice_get q.tree.scopes place ≡ Some row
  pub called : row.name ≡ name
  pub is : row.kind ≡ k
  pub of : is_same (night_of q place) night ≡ true

pub stands_on : (p q : State) (name : List ℕ) (k : Kind) (night : Option (List ℕ)) → Grows p q
    → Stands p name k night → Stands q name k night
stands_on p q name k night grows it =
    let less : it.place < length p.tree.scopes =
    slice_get_within p.tree.scopes it.place it.row it.found in
    record {
      place = it.place;
      row = it.row;
      found = grows.scopes it.place less ∙ it.found;
      called = it.called;
      is = it.is;
      of = ap (λ n. is_same n night) (grows.nights it.place less) ∙ it.of;
    }

-- A derive of a scope of this kind was taken, below a scope of this night.
pub record Derives (t u : State) (name : List ℕ) (night : Option (List ℕ)) (over came : Bool)
    (k : Kind) : Type 0 where
  pub consistent : IsConsistent u
  pub grows : Grows t u
  pub place : Place u name night (over || came)
  pub stands : Stands u name k night
  pub last : last_night u ≡ last_night t
  pub own : takes_cause k ≡ true → (group : List ℕ) → belongs group name ≡ true
      → is_over u night group ≡ over
  pub others : (other : Option (List ℕ)) (group : List ℕ)
      → (takes_cause k && belongs group name) ≡ false
      → is_over u other group ≡ is_over t other group

pub one_derive : (t : Session) (name parent : List ℕ) (w : Wish) (night : Option (List ℕ))
    (over came : Bool) → IsConsistent t.state → Place t.state parent night over
    → is_taken (reply_of_step t (derive name parent w)) ≡ true
    → IsOrdinary (kind_made t.state.tree.clock w)
    → text_under (codes "night") (kind_made t.state.tree.clock w) ≡ None
    → is_some (hit_due (t.state.count + 1) t.state.tree.clock (kind_made t.state.tree.clock w))
    ≡ came
    → Derives t.state (after_step t (derive name parent w)).state name night over came
    (kind_made t.state.tree.clock w)
one_derive t name parent w night over came consistent it taken ordinary plain due =
    let q : State = t.state in
    let k : Kind = kind_made q.tree.clock w in
    let to = derive_taken t name parent w night over consistent.numbered it taken in
    let after : IsConsistent (derived q name it.place k) =
    subst (λ (x : Session). IsConsistent x.state) to
    (consistent_after t (derive name parent w ∷ []) consistent) in
    let here : Derives q (derived q name it.place k) name night over came k = record {
      consistent = after;
      grows = derive_grows q name it.place k consistent.numbered;
      place = subst (λ (b : Bool). Place (derived q name it.place k) name night (over || b)) due
          (place_made q name parent k night over consistent.numbered it after.numbered.ordered
          ordinary plain);
      stands = record {
        place = length q.tree.scopes;
        row = ticked name it.place k (hit_due (q.count + 1) q.tree.clock k);
        found = new_row q name it.place k;
        called = ticked_name name it.place k (hit_due (q.count + 1) q.tree.clock k);
        is = ticked_kind name it.place k (hit_due (q.count + 1) q.tree.clock k);
        of = night_made q name parent k night over consistent.numbered it after.numbered.ordered
            ordinary plain;
      };
      last = derive_last q name it.place k consistent.numbered plain;
      own = λ takes group own.
          over_gets q name parent k night over group consistent.numbered it takes own;
      others = λ other group not_its.
          over_left q name it.place k other group consistent.numbered
          (place_within q parent night over it) not_its;
    } in
    subst (λ (x : Session). Derives q x.state name night over came k) (sym to) here

-- A value scope with the number of a night was derived.
pub number_stands : (t : Session) (name top text : List ℕ) (over : Bool) → IsConsistent t.state
    → Place t.state top None over
    → is_taken (reply_of_step t (derive name top (wish.Value (codes "night") text))) ≡ true
    → Stands (after_step t (derive name top (wish.Value (codes "night") text))).state name
    (kind.Value (codes "night") text) (Some text)
number_stands t name top text over consistent it taken =
    let q : State = t.state in
    let k : Kind = kind.Value (codes "night") text in
    let x : Step = derive name top (wish.Value (codes "night") text) in
    let to = derive_taken t name top (wish.Value (codes "night") text) None over
    consistent.numbered it taken in
    let after : IsConsistent (derived q name it.place k) =
    subst (λ (y : Session). IsConsistent y.state) to (consistent_after t (x ∷ []) consistent) in
    let here : Stands (derived q name it.place k) name k (Some text) = record {
      place = length q.tree.scopes;
      row = new_scope name it.place k;
      found = new_row q name it.place k;
      called = refl;
      is = refl;
      of = ap (λ n. is_same n (Some text)) (new_night q name it.place k consistent.numbered
          after.numbered.ordered (place_within q top None over it)
          (record { no_root = refl; attached = refl }))
          ∙ (bytes_eq-Decides text text).1 refl;
    } in
    subst (λ (y : Session). Stands y.state name k (Some text)) (sym to) here
