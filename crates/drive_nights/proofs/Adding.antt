-- A derive adds a scope at the end, and a bare group is added at the end, too. So the last ones of
-- a night are known.
use Rattle.std.proofs.Common.{◌≡◌, ◌<◌, ◌∙◌, ◌&&◌, ◌+◌, ℕ, suc, Bool, true, false, cond}
use Rattle.std.proofs.Common.{List, [], ◌∷◌, Option, Some, None, length, length-append, slice_get}
use Rattle.std.proofs.Common.{nat_le, codes, ap, refl, sym, subst, arith, inl, inr}
use Rattle.std.proofs.lemmas.Bool.{cases_eq}
use Rattle.std.proofs.lemmas.Option.{slice_get_within}
use Rattle.std.specs.Fmt.{decimal}
use Rattle.std.specs.Option.{option_map, option_map_or}
use Rattle.run_model.proofs.Common.{and_from}
use Rattle.run_model.proofs.RowLemmas.{slice_get-at_row_other, slice_get-at_row_same}
use Rattle.run_model.proofs.RowLemmas.{slice_get-push_last, slice_get-push_left}
use Rattle.run_model.specs.Allowed.{takes_cause}
use Rattle.run_model.specs.declared.commands.Command.TheVariants as call
use Rattle.run_model.specs.declared.commands.Step.TheVariants as step
use Rattle.run_model.specs.declared.commands.Wish.{Wish}
use Rattle.run_model.specs.declared.groups.Group.{Group}
use Rattle.run_model.specs.declared.scopes.Hit.{Hit}
use Rattle.run_model.specs.declared.scopes.Kind.{Kind}
use Rattle.run_model.specs.declared.scopes.Scope.{Scope}
use Rattle.run_model.specs.Event as event
use Rattle.run_model.specs.Replies.{kind_made}
use Rattle.run_model.specs.Rows.{at_row, new_group}
use Rattle.run_model.specs.Rules.{AreNumbered, IsConsistent}
use Rattle.run_model.specs.Scopes.{text_under}
use Rattle.run_model.specs.Session.{Session, after_step, reply_of_step, with_event}
use Rattle.run_model.specs.State.{State, TreeState, WorkState}
use Rattle.run_model.specs.Step as change
use Rattle.run_model.specs.TreeChanges.{hit_due}
use Rattle.run_model.specs.WorkChanges.{with_error, with_limit}
use Rattle.night_drive.specs.Names.{belongs, is_same, night_of}
use Rattle.night_drive.specs.Searches.{last_below}
use Rattle.night_drive.specs.Seen.{is_owned, is_scope}
use Rattle.night_drive.proofs.Searching.{last_alike_below}
use Rattle.drive_steps.specs.Rooms.{last_group}
use Rattle.drive_nights.specs.Effects.{is_taken}
use Rattle.drive_nights.specs.Nights.{base_of, is_base, is_base_row, is_first_top, night_text}
use Rattle.drive_nights.specs.Results.{IsSameGroup, KeepsGroups}
use Rattle.drive_nights.specs.Rooms.{derive}
use Rattle.drive_nights.proofs.Making.{Grows, bare_grows, derive_grows}
use Rattle.drive_nights.proofs.Placing.{Place, derive_taken, derived, new_row, scope_at, ticked}
use Rattle.drive_nights.proofs.Placing.{ticked_kind, ticked_name, ticked_parent}
use Rattle.drive_nights.proofs.Taking.{command_taken}

-- ---- the row of a name

-- A place is that of the row with its name.
pub place_is : (q : State) (name : List ℕ) (night : Option (List ℕ)) (over : Bool)
    → AreNumbered q → (it : Place q name night over) → (s : ℕ) (row : Scope)
    → slice_get q.tree.scopes s ≡ Some row → row.name ≡ name → it.place ≡ s
place_is q name night over numbered it s row found called =
    numbered.scope_names it.place s it.row row it.found found (it.called ∙ sym called)

-- ---- groups stay

pub groups_here : (p : State) → KeepsGroups p p
groups_here p g old found = (
  old,
  found,
  record { name = refl; scope = refl; bare = refl; waited = refl; limit = λ none. none },
)

pub groups_on : (p q r : State) → KeepsGroups p q → KeepsGroups q r → KeepsGroups p r
groups_on p q r first second g old found =
    let one = first g old found in
    let two = second g one.0 one.1 in (
      two.0,
      two.1,
      record {
        name = two.2.name ∙ one.2.name;
        scope = two.2.scope ∙ one.2.scope;
        bare = two.2.bare ∙ one.2.bare;
        waited = two.2.waited ∙ one.2.waited;
        limit = λ none. two.2.limit (one.2.limit none);
      },
    )

pub groups_by_work : (p q : State) → q.work ≡ p.work → KeepsGroups p q
groups_by_work p q same g old found = (
  old,
  ap (λ (w : WorkState). slice_get w.groups g) same ∙ found,
  record { name = refl; scope = refl; bare = refl; waited = refl; limit = λ none. none },
)

-- A limit is taken away.
pub groups_freed : (p : State) (h : ℕ)
    → KeepsGroups p (change.step p (event.SetLimit h None))
groups_freed p h g old found = elim (cases_eq g h) [
  | inl same ↦ (
    with_limit None old,
    ap (λ (i : ℕ). slice_get (at_row (with_limit None) h p.work.groups) i) same
        ∙ slice_get-at_row_same (with_limit None) h p.work.groups
        ∙ ap (λ (o : Option Group). option_map (with_limit None) o)
        (ap (slice_get p.work.groups) (sym same) ∙ found),
    record { name = refl; scope = refl; bare = refl; waited = refl; limit = λ none. refl },
  )
  | inr other ↦ (
    old,
    slice_get-at_row_other (with_limit None) h g p.work.groups other ∙ found,
    record { name = refl; scope = refl; bare = refl; waited = refl; limit = λ none. none },
  )
]

-- A group gets an error.
pub groups_erred : (g : ℕ) (text : List ℕ) (p : State)
    → (h : ℕ) (old : Group) → slice_get p.work.groups h ≡ Some old
    → (new : Group) × (slice_get (at_row (with_error text) g p.work.groups) h ≡ Some new)
    × IsSameGroup old new
groups_erred g text p h old found = elim (cases_eq h g) [
  | inl same ↦ (
    with_error text old,
    ap (λ (i : ℕ). slice_get (at_row (with_error text) g p.work.groups) i) same
        ∙ slice_get-at_row_same (with_error text) g p.work.groups
        ∙ ap (λ (o : Option Group). option_map (with_error text) o)
        (ap (slice_get p.work.groups) (sym same) ∙ found),
    record { name = refl; scope = refl; bare = refl; waited = refl; limit = λ none. none },
  )
  | inr other ↦ (
    old,
    slice_get-at_row_other (with_error text) g h p.work.groups other ∙ found,
    record { name = refl; scope = refl; bare = refl; waited = refl; limit = λ none. none },
  )
]

-- ---- a scope more

-- A scope with this name, of this kind, was derived below this one.
pub record Adds (t u : State) (name : List ℕ) (at : ℕ) (k : Kind) : Type 0 where
  pub grows : Grows t u
  pub work : u.work ≡ t.work
  pub longer : length u.tree.scopes ≡ suc (length t.tree.scopes)
  pub row : Scope
  pub found : slice_get u.tree.scopes (length t.tree.scopes) ≡ Some row
  pub called : row.name ≡ name
  pub parent : row.parent ≡ at
  pub is : row.kind ≡ k

pub one_adds : (t : Session) (name parent : List ℕ) (w : Wish) (night : Option (List ℕ))
    (over : Bool) → IsConsistent t.state → (it : Place t.state parent night over) → (at : ℕ)
    → it.place ≡ at → is_taken (reply_of_step t (derive name parent w)) ≡ true
    → Adds t.state (after_step t (derive name parent w)).state name at
    (kind_made t.state.tree.clock w)
one_adds t name parent w night over consistent it at is taken =
    subst (λ (x : Session). Adds q x.state name at k)
    (sym (derive_taken t name parent w night over consistent.numbered it taken))
    (subst (λ (s : ℕ). Adds q (derived q name it.place k) name s k) is here)
  where
    q : State
    q = t.state

    k : Kind
    k = kind_made t.state.tree.clock w

    o : Option Hit
    o = hit_due (t.state.count + 1) t.state.tree.clock (kind_made t.state.tree.clock w)

    here : Adds t.state (derived t.state name it.place (kind_made t.state.tree.clock w)) name
        it.place (kind_made t.state.tree.clock w)
    here = record {
      grows = derive_grows q name it.place k consistent.numbered;
      work = refl;
      longer = length-append q.tree.scopes (ticked name it.place k o ∷ []) ∙ omega arith;
      row = ticked name it.place k o;
      found = new_row q name it.place k;
      called = ticked_name name it.place k o;
      parent = ticked_parent name it.place k o;
      is = ticked_kind name it.place k o;
    }

-- ---- the last scope of a group

pub scope_alike : (t u : State) (night : Option (List ℕ)) (group : List ℕ) → Grows t u → (s : ℕ)
    → s < length t.tree.scopes → is_scope u night group s ≡ is_scope t night group s
scope_alike t u night group grows s less =
    ap (λ (o : Option Scope). option_map_or (λ row. takes_cause row.kind
    && (belongs group row.name && is_same (night_of u s) night)) o false) (grows.scopes s less)
    ∙ ap (λ (x : Option (List ℕ)). option_map_or (λ row. takes_cause row.kind
    && (belongs group row.name && is_same x night)) (slice_get t.tree.scopes s) false)
    (grows.nights s less)

-- The last scope of a group in a night.
abbrev pub last_in : State → Option (List ℕ) → List ℕ → Option ℕ
last_in p night group = last_below (is_scope p night group) (length p.tree.scopes)

scope_more : (t u : State) (name : List ℕ) (at : ℕ) (k : Kind) (night : Option (List ℕ))
    (group : List ℕ) → Adds t u name at k
    → last_in u night group
    ≡ cond (is_scope u night group (length t.tree.scopes)) (Some (length t.tree.scopes))
    (last_in t night group)
scope_more t u name at k night group it =
    ap (last_below (is_scope u night group)) it.longer
    ∙ ap (λ (o : Option ℕ). cond (is_scope u night group (length t.tree.scopes))
    (Some (length t.tree.scopes)) o)
    (last_alike_below (is_scope u night group) (is_scope t night group) (length t.tree.scopes)
    (scope_alike t u night group it.grows))

new_test : (t u : State) (name : List ℕ) (at : ℕ) (k : Kind) (night : Option (List ℕ))
    (group : List ℕ) → Adds t u name at k
    → is_scope u night group (length t.tree.scopes)
    ≡ (takes_cause k
    && (belongs group name && is_same (night_of u (length t.tree.scopes)) night))
new_test t u name at k night group it =
    let same : Bool = is_same (night_of u (length t.tree.scopes)) night in
    ap (λ (o : Option Scope). option_map_or (λ row. takes_cause row.kind
    && (belongs group row.name && same)) o false) it.found
    ∙ ap (λ (x : Kind). takes_cause x && (belongs group it.row.name && same)) it.is
    ∙ ap (λ (x : List ℕ). takes_cause k && (belongs group x && same)) it.called

-- A scope that isn't one of the group.
pub scope_left : (t u : State) (name : List ℕ) (at : ℕ) (k : Kind) (night : Option (List ℕ))
    (group : List ℕ) → Adds t u name at k → (takes_cause k && belongs group name) ≡ false
    → last_in u night group ≡ last_in t night group
scope_left t u name at k night group it other =
    scope_more t u name at k night group it
    ∙ ap (λ b. cond b (Some (length t.tree.scopes)) (last_in t night group))
    (new_test t u name at k night group it
    ∙ by_both (takes_cause k) (belongs group name)
    (is_same (night_of u (length t.tree.scopes)) night) other)
  where
    by_both : (a b c : Bool) → (a && b) ≡ false → (a && (b && c)) ≡ false
    by_both false b c none = refl
    by_both true false c none = refl
    by_both true true c none = cc

-- One that is.
pub scope_own : (t u : State) (name : List ℕ) (at : ℕ) (k : Kind) (night : Option (List ℕ))
    (group : List ℕ) → Adds t u name at k → takes_cause k ≡ true → belongs group name ≡ true
    → is_same (night_of u (length t.tree.scopes)) night ≡ true
    → last_in u night group ≡ Some (length t.tree.scopes)
scope_own t u name at k night group it takes own of =
    scope_more t u name at k night group it
    ∙ ap (λ b. cond b (Some (length t.tree.scopes)) (last_in t night group))
    (new_test t u name at k night group it
    ∙ and_from (takes_cause k)
    (belongs group name && is_same (night_of u (length t.tree.scopes)) night) takes
    (and_from (belongs group name) (is_same (night_of u (length t.tree.scopes)) night) own of))

-- ---- the base of a night

-- A scope with this name and of this kind can be the base of night n.
abbrev pub is_base_of : ℕ → Kind → List ℕ → Bool
is_base_of n k name =
    cond (nat_le n 1) (takes_cause k && is_first_top name)
    (is_same (text_under (codes "night") k) (night_text n))

base_alike : (t u : State) (n : ℕ) → Grows t u → (s : ℕ) → s < length t.tree.scopes
    → is_base u n s ≡ is_base t n s
base_alike t u n grows s less =
    ap (λ (o : Option Scope). option_map_or (is_base_row n) o false
    && is_same (night_of u s) (night_text n)) (grows.scopes s less)
    ∙ ap (λ (x : Option (List ℕ)). option_map_or (is_base_row n) (slice_get t.tree.scopes s) false
    && is_same x (night_text n)) (grows.nights s less)

base_more : (t u : State) (name : List ℕ) (at : ℕ) (k : Kind) (n : ℕ) → Adds t u name at k
    → base_of u n
    ≡ cond (is_base u n (length t.tree.scopes)) (Some (length t.tree.scopes)) (base_of t n)
base_more t u name at k n it =
    ap (last_below (is_base u n)) it.longer
    ∙ ap (λ (o : Option ℕ). cond (is_base u n (length t.tree.scopes))
    (Some (length t.tree.scopes)) o)
    (last_alike_below (is_base u n) (is_base t n) (length t.tree.scopes)
    (base_alike t u n it.grows))

base_test : (t u : State) (name : List ℕ) (at : ℕ) (k : Kind) (n : ℕ) → Adds t u name at k
    → is_base u n (length t.tree.scopes)
    ≡ (is_base_of n k name && is_same (night_of u (length t.tree.scopes)) (night_text n))
base_test t u name at k n it =
    let same : Bool = is_same (night_of u (length t.tree.scopes)) (night_text n) in
    ap (λ (o : Option Scope). option_map_or (is_base_row n) o false && same) it.found
    ∙ ap (λ (x : Kind). is_base_of n x it.row.name && same) it.is
    ∙ ap (λ (x : List ℕ). is_base_of n k x && same) it.called

pub base_left : (t u : State) (name : List ℕ) (at : ℕ) (k : Kind) (n : ℕ) → Adds t u name at k
    → is_base_of n k name ≡ false → base_of u n ≡ base_of t n
base_left t u name at k n it none =
    base_more t u name at k n it
    ∙ ap (λ b. cond b (Some (length t.tree.scopes)) (base_of t n))
    (base_test t u name at k n it
    ∙ ap (λ b. b && is_same (night_of u (length t.tree.scopes)) (night_text n)) none)

pub base_own : (t u : State) (name : List ℕ) (at : ℕ) (k : Kind) (n : ℕ) → Adds t u name at k
    → is_base_of n k name ≡ true
    → is_same (night_of u (length t.tree.scopes)) (night_text n) ≡ true
    → base_of u n ≡ Some (length t.tree.scopes)
base_own t u name at k n it own of =
    base_more t u name at k n it
    ∙ ap (λ b. cond b (Some (length t.tree.scopes)) (base_of t n))
    (base_test t u name at k n it
    ∙ and_from (is_base_of n k name)
    (is_same (night_of u (length t.tree.scopes)) (night_text n)) own of)

-- A scope of a kind that neither takes a cause nor has the number of a night is no base.
pub no_base : (n : ℕ) (k : Kind) (name : List ℕ) → takes_cause k ≡ false
    → text_under (codes "night") k ≡ None → is_base_of n k name ≡ false
no_base n k name takes plain =
    ap (λ b. cond (nat_le n 1) (b && is_first_top name)
    (is_same (text_under (codes "night") k) (night_text n))) takes
    ∙ ap (λ (x : Option (List ℕ)). cond (nat_le n 1) false (is_same x (night_text n))) plain
    ∙ by_number (nat_le n 1)
  where
    by_number : (b : Bool) → cond b false (is_same None (cond b None (Some (decimal n)))) ≡ false
    by_number true = refl
    by_number false = refl

-- ---- the last group of the store

pub owned_more : (t u : State) (night : Option (List ℕ)) (group : List ℕ) → Grows t u
    → length u.work.groups ≡ suc (length t.work.groups)
    → last_group u night group
    ≡ cond (is_owned u night group (length t.work.groups)) (Some (length t.work.groups))
    (last_group t night group)
owned_more t u night group grows longer =
    ap (last_below (is_owned u night group)) longer
    ∙ ap (λ (o : Option ℕ). cond (is_owned u night group (length t.work.groups))
    (Some (length t.work.groups)) o)
    (last_alike_below (is_owned u night group) (is_owned t night group) (length t.work.groups)
    (grows.owned night group))

-- No group more.
pub owned_same : (t u : State) (night : Option (List ℕ)) (group : List ℕ) → Grows t u
    → length u.work.groups ≡ length t.work.groups
    → last_group u night group ≡ last_group t night group
owned_same t u night group grows same =
    ap (last_below (is_owned u night group)) same
    ∙ last_alike_below (is_owned u night group) (is_owned t night group) (length t.work.groups)
    (grows.owned night group)

-- A bare group with this name was made in this scope.
pub record Houses (t u : State) (name : List ℕ) (at : ℕ) : Type 0 where
  pub grows : Grows t u
  pub tree : u.tree ≡ t.tree
  pub groups : KeepsGroups t u
  pub longer : length u.work.groups ≡ suc (length t.work.groups)
  pub found : slice_get u.work.groups (length t.work.groups) ≡ Some (new_group name at true)

pub one_houses : (t : Session) (name scope : List ℕ) (night : Option (List ℕ)) (over : Bool)
    → IsConsistent t.state → (it : Place t.state scope night over) → (at : ℕ) → it.place ≡ at
    → is_taken (reply_of_step t (step.Command (call.Bare name scope))) ≡ true
    → Houses t.state (after_step t (step.Command (call.Bare name scope))).state name at
one_houses t name scope night over consistent it at is taken =
    subst (λ (x : Session). Houses q x.state name at) (sym to)
    (subst (λ (s : ℕ). Houses q (change.step q (event.Bare name it.place)) name s) is here)
  where
    q : State
    q = t.state

    to : after_step t (step.Command (call.Bare name scope))
        ≡ with_event t (Some (event.Bare name it.place))
    to =
        command_taken t (call.Bare name scope) refl taken
        ∙ ap (λ (s : ℕ). with_event t (Some (event.Bare name s)))
        (scope_at q scope night over consistent.numbered it)

    new : Group
    new = new_group name it.place true

    here : Houses t.state (change.step t.state (event.Bare name it.place)) name it.place
    here = record {
      grows = bare_grows q name it.place consistent.numbered;
      tree = refl;
      groups = λ g old found. (
        old,
        slice_get-push_left q.work.groups new g (slice_get_within q.work.groups g old found)
            ∙ found,
        record { name = refl; scope = refl; bare = refl; waited = refl; limit = λ none. none },
      );
      longer = length-append q.work.groups (new ∷ []) ∙ omega arith;
      found = slice_get-push_last q.work.groups new;
    }

owned_test : (t u : State) (name : List ℕ) (at : ℕ) (night : Option (List ℕ)) (group : List ℕ)
    → Houses t u name at
    → is_owned u night group (length t.work.groups)
    ≡ (belongs group name && is_same (night_of u at) night)
owned_test t u name at night group it =
    ap (λ (o : Option Group). option_map_or (λ row. belongs group row.name
    && is_same (night_of u row.scope) night) o false) it.found

pub room_own : (t u : State) (name : List ℕ) (at : ℕ) (night : Option (List ℕ)) (group : List ℕ)
    → Houses t u name at → belongs group name ≡ true → is_same (night_of u at) night ≡ true
    → last_group u night group ≡ Some (length t.work.groups)
room_own t u name at night group it own of =
    owned_more t u night group it.grows it.longer
    ∙ ap (λ b. cond b (Some (length t.work.groups)) (last_group t night group))
    (owned_test t u name at night group it
    ∙ and_from (belongs group name) (is_same (night_of u at) night) own of)

pub room_left : (t u : State) (name : List ℕ) (at : ℕ) (night : Option (List ℕ)) (group : List ℕ)
    → Houses t u name at → belongs group name ≡ false
    → last_group u night group ≡ last_group t night group
room_left t u name at night group it other =
    owned_more t u night group it.grows it.longer
    ∙ ap (λ b. cond b (Some (length t.work.groups)) (last_group t night group))
    (owned_test t u name at night group it
    ∙ ap (λ b. b && is_same (night_of u at) night) other)

-- ---- what follows from the tree

pub last_in_tree : (t u : State) (night : Option (List ℕ)) (group : List ℕ) → u.tree ≡ t.tree
    → last_in u night group ≡ last_in t night group
last_in_tree t u night group same =
    ap (λ (tree : TreeState). last_in (record t { tree = tree }) night group) same

pub base_in_tree : (t u : State) (n : ℕ) → u.tree ≡ t.tree → base_of u n ≡ base_of t n
base_in_tree t u n same = ap (λ (tree : TreeState). base_of (record t { tree = tree }) n) same

pub owned_by_work : (t u : State) (night : Option (List ℕ)) (group : List ℕ) → Grows t u
    → u.work ≡ t.work → last_group u night group ≡ last_group t night group
owned_by_work t u night group grows same =
    owned_same t u night group grows (ap (λ (w : WorkState). length w.groups) same)
