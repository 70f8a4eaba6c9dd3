-- A scope with its deadline is made, and is the last one of its group.
use Rattle.std.proofs.Common.{◌≡◌, ◌<◌, ◌∙◌, ◌&&◌, ◌||◌, ◌+◌, ℕ, Bool, true, false}
use Rattle.std.proofs.Common.{List, Option, Some, None, length, slice_get, nat_le, codes}
use Rattle.std.proofs.Common.{ap, refl, sym, subst}
use Rattle.std.proofs.lemmas.Bool.{and_parts}
use Rattle.std.proofs.lemmas.Option.{slice_get_within}
use Rattle.std.specs.Option.{option_and_then, option_map, option_map_or}
use Rattle.run_model.specs.declared.commands.Step.{Step}
use Rattle.run_model.specs.declared.commands.Wish.TheVariants as wish
use Rattle.run_model.specs.declared.scopes.Kind.{Kind}
use Rattle.run_model.specs.declared.scopes.Kind.TheVariants as kind
use Rattle.run_model.specs.declared.scopes.Scope.{Scope}
use Rattle.run_model.specs.Rules.{AreNumbered, IsConsistent}
use Rattle.run_model.specs.Scopes.{text_under}
use Rattle.run_model.specs.Session.{Session, after_step, reply_of_step, session_after}
use Rattle.run_model.specs.State.{State, scope_named}
use Rattle.model_laws.proofs.Names.{place_of_name}
use Rattle.night_drive.specs.Names.{belongs, is_same, night_of}
use Rattle.drive_nights.specs.declared.names.Role.TheVariants as role
use Rattle.drive_nights.specs.declared.untils.Until.{Until}
use Rattle.drive_nights.specs.Effects.{AreTaken, is_taken}
use Rattle.drive_nights.specs.Names.{role_name}
use Rattle.drive_nights.specs.Nights.{base_of, night_text, parent_of}
use Rattle.drive_nights.specs.Results.{HasDeadline, kind_at}
use Rattle.drive_nights.specs.Rooms.{derive, scope_steps, words_of}
use Rattle.drive_nights.proofs.Adding.{Adds, base_left, base_own, is_base_of, last_in, no_base}
use Rattle.drive_nights.proofs.Adding.{one_adds, place_is, scope_left, scope_own}
use Rattle.drive_nights.proofs.Making.{Grows}
use Rattle.drive_nights.proofs.Placing.{Place, one_derive}
use Rattle.drive_nights.proofs.Rooming.{deadline_due}

-- ---- the deadline of a scope

-- The scope with this deadline stands between this row and scope b, and the words stand elsewhere.
pub record Between (q : State) (row : Scope) (b : ℕ) (until : Until) : Type 0 where
  pub upper : Scope
  pub above : slice_get q.tree.scopes row.parent ≡ Some upper
  pub dated : upper.kind ≡ kind.Deadline until.moment (Some until.words)
  pub parent : upper.parent ≡ b
  pub place : ℕ
  pub said : Scope
  pub there : slice_get q.tree.scopes place ≡ Some said
  pub called : said.name ≡ role_name row.name role.Said
  pub holds : said.kind ≡ kind.Value (codes "deadline") until.words

abbrev pub Below : State → Scope → ℕ → Option Until → Type 0
Below q row b None = row.parent ≡ b
Below q row b (Some until) = Between q row b until

pub below_stays : (q r : State) (row : Scope) (b : ℕ) (until : Option Until) → Grows q r
    → Below q row b until → Below r row b until
below_stays q r row b None grows it = it
below_stays q r row b (Some until) grows it = record {
  upper = it.upper;
  above = grows.scopes row.parent (slice_get_within q.tree.scopes row.parent it.upper it.above)
      ∙ it.above;
  dated = it.dated;
  parent = it.parent;
  place = it.place;
  said = it.said;
  there = grows.scopes it.place (slice_get_within q.tree.scopes it.place it.said it.there)
      ∙ it.there;
  called = it.called;
  holds = it.holds;
}

pub below_is : (q : State) (s b : ℕ) (row : Scope) (until : Option Until) → AreNumbered q
    → slice_get q.tree.scopes s ≡ Some row → Below q row b until → HasDeadline q s b until
below_is q s b row None numbered found it =
    ap (λ (o : Option Scope). option_map_or (λ (x : Scope). x.parent) o 0) found ∙ it
below_is q s b row (Some until) numbered found it = (
  ap (kind_at q) up ∙ ap (λ (o : Option Scope). option_map (λ (x : Scope). x.kind) o) it.above
      ∙ ap (λ (k : Kind). Some k) it.dated,
  ap (parent_of q) up
      ∙ ap (λ (o : Option Scope). option_map_or (λ (x : Scope). x.parent) o 0) it.above
      ∙ it.parent,
  ap (λ (o : Option Scope). words_of q (option_map_or (λ (x : Scope). x.name) o (codes "root")))
      found
      ∙ ap (λ (o : Option ℕ). option_and_then (λ t. option_and_then (λ (x : Scope).
      text_under (codes "deadline") x.kind) (slice_get q.tree.scopes t)) o) said
      ∙ ap (λ (o : Option Scope). option_and_then (λ (x : Scope).
      text_under (codes "deadline") x.kind) o) it.there
      ∙ ap (text_under (codes "deadline")) it.holds,
)
  where
    up : parent_of q s ≡ row.parent
    up = ap (λ (o : Option Scope). option_map_or (λ (x : Scope). x.parent) o 0) found

    said : scope_named q.tree (role_name row.name role.Said) ≡ Some it.place
    said =
        ap (scope_named q.tree) (sym it.called)
        ∙ place_of_name (λ (x : Scope). x.name) q.tree.scopes it.place it.said
        numbered.scope_names it.there

-- ---- the steps

-- A scope of this name stands below scope b with its deadline, and is the last one of its group and
-- of its night.
pub record Founded (t u : State) (name : List ℕ) (b : ℕ) (until : Option Until)
    (night : Option (List ℕ)) : Type 0 where
  pub number : ℕ
  pub row : Scope
  pub found : slice_get u.tree.scopes number ≡ Some row
  pub called : row.name ≡ name
  pub below : Below u row b until
  pub work : u.work ≡ t.work
  pub of : is_same (night_of u number) night ≡ true
  pub last : (group : List ℕ) → belongs group name ≡ true → last_in u night group ≡ Some number
  pub others : (other : Option (List ℕ)) (group : List ℕ) → belongs group name ≡ false
      → last_in u other group ≡ last_in t other group
  pub based : (n : ℕ) → is_base_of n kind.Cause name ≡ true → night_text n ≡ night
      → base_of u n ≡ Some number
  pub left : (n : ℕ) → is_base_of n kind.Cause name ≡ false → base_of u n ≡ base_of t n

-- A new scope stands in the night of its place.
new_of : (t u : State) (name : List ℕ) (at : ℕ) (k : Kind) (night : Option (List ℕ))
    (over : Bool) → AreNumbered u → (adds : Adds t u name at k) → Place u name night over
    → is_same (night_of u (length t.tree.scopes)) night ≡ true
new_of t u name at k night over numbered adds it =
    subst (λ (s : ℕ). is_same (night_of u s) night ≡ true)
    (place_is u name night over numbered it (length t.tree.scopes) adds.row adds.found adds.called)
    it.of

pub scope_founded : (t : Session) (name parent : List ℕ) (until : Option Until)
    (night : Option (List ℕ)) (over : Bool) → IsConsistent t.state
    → (it : Place t.state parent night over) → (b : ℕ) → it.place ≡ b
    → AreTaken t (scope_steps name parent until)
    → Founded t.state (session_after t (scope_steps name parent until)).state name b until night
scope_founded t name parent None night over consistent it b at taken =
    let parts = and_parts (is_taken (reply_of_step t (derive name parent wish.Cause))) true taken in
    let u : State = (after_step t (derive name parent wish.Cause)).state in
    let one = one_derive t name parent wish.Cause night over false consistent it parts.0
    (record { no_root = refl; attached = refl }) refl refl in
    let adds = one_adds t name parent wish.Cause night over consistent it b at parts.0 in
    let of = new_of t.state u name b kind.Cause night (over || false) one.consistent.numbered adds
    one.place in
    record {
      number = length t.state.tree.scopes;
      row = adds.row;
      found = adds.found;
      called = adds.called;
      below = adds.parent;
      work = adds.work;
      of = of;
      last = λ group own. scope_own t.state u name b kind.Cause night group adds refl own of;
      others = λ other group not_its.
          scope_left t.state u name b kind.Cause other group adds not_its;
      based = λ n own same.
          base_own t.state u name b kind.Cause n adds own
          (ap (is_same (night_of u (length t.state.tree.scopes))) same ∙ of);
      left = λ n other. base_left t.state u name b kind.Cause n adds other;
    }
scope_founded t name parent (Some until) night over consistent it b at taken =
    let above : List ℕ = role_name name role.Until in
    let said : List ℕ = role_name name role.Said in
    let come : Bool = nat_le until.moment t.state.tree.clock in
    let x : Step = derive above parent (wish.Deadline until.moment (Some until.words)) in
    let y : Step = derive name above wish.Cause in
    let z : Step = derive said name (wish.Value (codes "deadline") until.words) in
    let t1 : Session = after_step t x in
    let t2 : Session = after_step t1 y in
    let t3 : Session = after_step t2 z in
    let first = and_parts (is_taken (reply_of_step t x))
    (is_taken (reply_of_step t1 y) && (is_taken (reply_of_step t2 z) && true)) taken in
    let second = and_parts (is_taken (reply_of_step t1 y))
    (is_taken (reply_of_step t2 z) && true) first.1 in
    let third = and_parts (is_taken (reply_of_step t2 z)) true second.1 in
    let one = one_derive t above parent (wish.Deadline until.moment (Some until.words)) night over
    come consistent it first.0 (record { no_root = refl; attached = refl }) refl
    (deadline_due (t.state.count + 1) t.state.tree.clock until.moment (Some until.words)) in
    let two = one_derive t1 name above wish.Cause night (over || come) false one.consistent
    one.place second.0 (record { no_root = refl; attached = refl }) refl refl in
    let dated : Kind = kind.Deadline until.moment (Some until.words) in
    let spoken : Kind = kind.Value (codes "deadline") until.words in
    let a : ℕ = length t.state.tree.scopes in
    let m : ℕ = length t1.state.tree.scopes in
    let up = one_adds t above parent (wish.Deadline until.moment (Some until.words)) night over
    consistent it b at first.0 in
    let mid = one_adds t1 name above wish.Cause night (over || come) one.consistent one.place a
    (place_is t1.state above night (over || come) one.consistent.numbered one.place a up.row
    up.found up.called) second.0 in
    let low = one_adds t2 said name (wish.Value (codes "deadline") until.words) night
    ((over || come) || false) two.consistent two.place m
    (place_is t2.state name night ((over || come) || false) two.consistent.numbered two.place m
    mid.row mid.found mid.called) third.0 in
    let of = new_of t1.state t2.state name a kind.Cause night ((over || come) || false)
    two.consistent.numbered mid two.place in
    let within : m < length t2.state.tree.scopes =
    slice_get_within t2.state.tree.scopes m mid.row mid.found in
    let lower : a < length t1.state.tree.scopes =
    slice_get_within t1.state.tree.scopes a up.row up.found in
    let later : a < length t2.state.tree.scopes =
    slice_get_within t2.state.tree.scopes a up.row (mid.grows.scopes a lower ∙ up.found) in
    let stays : slice_get t3.state.tree.scopes a ≡ Some up.row =
    low.grows.scopes a later ∙ mid.grows.scopes a lower ∙ up.found in
    record {
      number = m;
      row = mid.row;
      found = low.grows.scopes m within ∙ mid.found;
      called = mid.called;
      below = record {
        upper = up.row;
        above = ap (slice_get t3.state.tree.scopes) mid.parent ∙ stays;
        dated = up.is;
        parent = up.parent;
        place = length t2.state.tree.scopes;
        said = low.row;
        there = low.found;
        called = low.called ∙ ap (λ (xs : List ℕ). role_name xs role.Said) (sym mid.called);
        holds = low.is;
      };
      work = low.work ∙ mid.work ∙ up.work;
      of = ap (λ (o : Option (List ℕ)). is_same o night) (low.grows.nights m within) ∙ of;
      last = λ group own.
          scope_left t2.state t3.state said m spoken night group low refl
          ∙ scope_own t1.state t2.state name a kind.Cause night group mid refl own of;
      others = λ other group not_its.
          scope_left t2.state t3.state said m spoken other group low refl
          ∙ scope_left t1.state t2.state name a kind.Cause other group mid not_its
          ∙ scope_left t.state t1.state above b dated other group up refl;
      based = λ n own same.
          base_left t2.state t3.state said m spoken n low (no_base n spoken said refl refl)
          ∙ base_own t1.state t2.state name a kind.Cause n mid own
          (ap (is_same (night_of t2.state m)) same ∙ of);
      left = λ n other.
          base_left t2.state t3.state said m spoken n low (no_base n spoken said refl refl)
          ∙ base_left t1.state t2.state name a kind.Cause n mid other
          ∙ base_left t.state t1.state above b dated n up (no_base n dated above refl refl);
    }
