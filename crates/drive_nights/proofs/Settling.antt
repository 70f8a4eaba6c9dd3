-- A group of the plan has a scope and a group of the store for its tasks, and the others have what
-- they had.
use Rattle.std.proofs.Common.{◌≡◌, ◌<◌, ◌∙◌, ◌==◌, ◌&&◌, ◌||◌, ◌^◌, not, ℕ, Bool, true, false, cond}
use Rattle.std.proofs.Common.{List, [], ◌∷◌, ◌++◌, Option, Some, None, length, slice_get, nat_le}
use Rattle.std.proofs.Common.{codes, drop, take, ap, refl, sym, subst, is_some}
use Rattle.std.proofs.Math.Bool.{or-true}
use Rattle.std.proofs.lemmas.Bool.{and_parts, eq-eqb, false_from_ne_true, false≢true}
use Rattle.std.proofs.lemmas.List.{take-append-drop}
use Rattle.std.proofs.lemmas.Slice.Eq.{bytes_eq-Decides}
use Rattle.std.specs.Fmt.{decimal}
use Rattle.std.specs.Option.{option_map, option_map_or}
use Rattle.std.specs.Prelude.{is_none, unwrap_or}
use Rattle.std.specs.Str.{bytes_eq}
use Rattle.run_model.proofs.Common.{and_from}
use Rattle.run_model.proofs.RowLemmas.{length-at_row, row_there, slice_get-at_row_same}
use Rattle.run_model.specs.declared.commands.Command.TheVariants as call
use Rattle.run_model.specs.declared.commands.Step.{Step}
use Rattle.run_model.specs.declared.commands.Step.TheVariants as step
use Rattle.run_model.specs.declared.groups.Group.{Group}
use Rattle.run_model.specs.declared.scopes.Kind.TheVariants as kind
use Rattle.run_model.specs.declared.scopes.Scope.{Scope}
use Rattle.run_model.specs.Event as event
use Rattle.run_model.specs.Replies.{group_of}
use Rattle.run_model.specs.Scopes.{is_done}
use Rattle.run_model.specs.Session.{Session, after_step, reply_of_step, session_after, with_event}
use Rattle.run_model.specs.State.{State, TreeState}
use Rattle.run_model.specs.Step as change
use Rattle.run_model.specs.WorkChanges.{with_limit}
use Rattle.model_laws.proofs.Names.{place_of_name}
use Rattle.night_drive.specs.Distinct.{IsPlain}
use Rattle.night_drive.specs.Names.{begins, belongs, is_round, is_same, night_of}
use Rattle.night_drive.specs.Seen.{is_scope}
use Rattle.night_drive.proofs.Searching.{last_within}
use Rattle.drive_nights.specs.declared.untils.Until.{Until}
use Rattle.drive_nights.specs.Effects.{AreTaken, TakesTasks, has_come, is_taken}
use Rattle.drive_nights.specs.Names.{free_name, free_round}
use Rattle.drive_nights.specs.Nights.{base_of, is_first_top, name_at, night_text}
use Rattle.drive_nights.specs.Results.{IsSameGroup, KeepsGroups}
use Rattle.drive_nights.specs.Rooms.{is_changed, is_replaced, is_room, kept_scope, last_room}
use Rattle.drive_nights.specs.Rooms.{last_scope, new_room, old_room, room_steps, scope_steps}
use Rattle.drive_nights.specs.Rooms.{unlimited, unlimited_at}
use Rattle.drive_nights.proofs.Adding.{base_in_tree, groups_by_work, groups_freed, groups_here}
use Rattle.drive_nights.proofs.Adding.{groups_on, is_base_of, last_in_tree, one_houses}
use Rattle.drive_nights.proofs.Adding.{owned_by_work, owned_same, place_is, room_left, room_own}
use Rattle.drive_nights.proofs.Belonging.{follows, round_belongs, round_is_of_one}
use Rattle.drive_nights.proofs.Founding.{Below, below_stays, scope_founded}
use Rattle.drive_nights.proofs.Making.{Grows, limit_grows}
use Rattle.drive_nights.proofs.Opening.{night_plain}
use Rattle.drive_nights.proofs.Placing.{Place}
use Rattle.drive_nights.proofs.Rooming.{Comes, kept_is, scope_made, scope_place}
use Rattle.drive_nights.proofs.Taking.{command_taken, steps_join, taken_join}

-- ---- the name of a group is that of no top

round_one : (rest : List ℕ) → is_round (codes "--1-" ++ rest) ≡ true
round_one rest = or-true (length (codes "--1-" ++ rest) == 0)

-- The name of a first top belongs to `night`.
top_belongs : (name : List ℕ) → is_first_top name ≡ true → belongs (codes "night") name ≡ true
top_belongs name is = by_whole (bytes_eq name (codes "night")) refl is
  where
    by_whole : (b : Bool) → bytes_eq name (codes "night") ≡ b
        → (b || begins name (codes "night--1-")) ≡ true → belongs (codes "night") name ≡ true
    by_whole true whole is =
        ap (belongs (codes "night")) ((bytes_eq-Decides name (codes "night")).0 whole)
    by_whole false whole is =
        let parts = and_parts (nat_le (length (codes "night--1-")) (length name))
        (bytes_eq (take (length (codes "night--1-")) name) (codes "night--1-")) is in
        let first : take 9 name ≡ codes "night--1-" =
        (bytes_eq-Decides (take 9 name) (codes "night--1-")).0 parts.1 in
        ap (belongs (codes "night"))
        (sym (take-append-drop 9 name) ∙ ap (λ xs. xs ++ drop 9 name) first)
        ∙ follows (codes "night") (codes "--1-" ++ drop 9 name) (round_one (drop 9 name))

pub not_a_top : (group : List ℕ) (n k : ℕ) (name : List ℕ) → (codes "night" ≡ group → ⊥)
    → belongs (codes "night") name ≡ false → is_base_of n kind.Cause name ≡ false
not_a_top group n k name apart not_its =
    ap (λ b. cond (nat_le n 1) b (is_same None (night_text n)))
    (false_from_ne_true (is_first_top name)
    (λ is. false≢true (sym not_its ∙ top_belongs name is)))
    ∙ by_number (nat_le n 1)
  where
    by_number : (b : Bool) → cond b false (is_same None (cond b None (Some (decimal n)))) ≡ false
    by_number true = refl
    by_number false = refl

-- ---- rows of groups

pub room_stays : (u v : State) (s g : ℕ) → KeepsGroups u v → is_room u s g ≡ true
    → is_room v s g ≡ true
room_stays u v s g keeps takes = by_row (slice_get u.work.groups g) refl takes
  where
    by_row : (o : Option Group) → slice_get u.work.groups g ≡ o
        → option_map_or (λ (row : Group). row.scope == s && not row.waited) o false ≡ true
        → is_room v s g ≡ true
    by_row None found takes = absurd (false≢true takes)
    by_row (Some old) found takes =
        let it = keeps g old found in
        ap (λ (o : Option Group). option_map_or (λ row. row.scope == s && not row.waited) o false)
        it.1
        ∙ ap (λ (x : ℕ). x == s && not it.0.waited) it.2.scope
        ∙ ap (λ b. old.scope == s && not b) it.2.waited ∙ takes

-- Group g has no limit.
abbrev is_free : State → ℕ → Bool
is_free p g =
    option_map_or (λ (row : Group). is_none row.limit) (slice_get p.work.groups g) false

pub free_stays : (u v : State) (g : ℕ) → KeepsGroups u v → is_free u g ≡ true
    → is_free v g ≡ true
free_stays u v g keeps free = by_row (slice_get u.work.groups g) refl free
  where
    by_row : (o : Option Group) → slice_get u.work.groups g ≡ o
        → option_map_or (λ (row : Group). is_none row.limit) o false ≡ true → is_free v g ≡ true
    by_row None found free = absurd (false≢true free)
    by_row (Some old) found free =
        let it = keeps g old found in
        ap (λ (o : Option Group). option_map_or (λ (row : Group). is_none row.limit) o false) it.1
        ∙ it.2.limit free

-- ---- one group of the plan

-- The group has what it needs.
pub record Settled (u : State) (n b : ℕ) (group : List ℕ) (until : Option Until)
    (kept : Option ℕ) : Type 0 where
  pub takes : TakesTasks u n group
  pub stays : (s : ℕ) → kept ≡ Some s → takes.scope ≡ s
  pub new : kept ≡ None
      → (row : Scope) × (slice_get u.tree.scopes takes.scope ≡ Some row) × Below u row b until

-- The last scope and the last group of the store of a group are the same.
abbrev pub IsUnmoved : (t u : State) (n : ℕ) (group : List ℕ) → Type 0
IsUnmoved t u n group =
    (last_scope u n group ≡ last_scope t n group) × (last_room u n group ≡ last_room t n group)

pub settled_stays : (u v : State) (n b : ℕ) (group : List ℕ) (until : Option Until)
    (kept : Option ℕ) → Grows u v → KeepsGroups u v → IsUnmoved u v n group
    → Settled u n b group until kept → Settled v n b group until kept
settled_stays u v n b group until kept grows keeps unmoved it = record {
  takes = record {
    scope = it.takes.scope;
    room = it.takes.room;
    last = unmoved.0 ∙ it.takes.last;
    is = unmoved.1 ∙ it.takes.is;
    takes = room_stays u v it.takes.scope it.takes.room keeps it.takes.takes;
    unlimited = free_stays u v it.takes.room keeps it.takes.unlimited;
  };
  stays = it.stays;
  new = λ none.
      let row = it.new none in (
        row.0,
        grows.scopes it.takes.scope
            (last_within (is_scope u (night_text n) group) (length u.tree.scopes) it.takes.scope
            it.takes.last) ∙ row.1,
        below_stays u v row.0 b until grows row.2,
      );
}

-- From one state to the other the group got what it needs, and the others have what they had.
pub record Settles (t u : State) (n b : ℕ) (group : List ℕ) (until : Option Until)
    (kept : Option ℕ) : Type 0 where
  pub own : Settled u n b group until kept
  pub groups : KeepsGroups t u
  pub others : (other : List ℕ) → IsPlain other → (group ≡ other → ⊥) → IsUnmoved t u n other
  pub base : base_of u n ≡ base_of t n

-- The state at which the steps were made, and the session that has come from it.
pub record From (p : State) (t : Session) : Type 0 where
  pub comes : Comes p t
  pub scopes : (s : ℕ) → s < length p.tree.scopes
      → slice_get t.state.tree.scopes s ≡ slice_get p.tree.scopes s
  pub groups : KeepsGroups p t.state

-- A group that gets a new scope.
settle_new : (p : State) (t : Session) (n b : ℕ) (group base : List ℕ) (until : Option Until)
    (over : Bool) → Comes p t → n < 2 ^ 64 → IsPlain group → (codes "night" ≡ group → ⊥)
    → (it : Place t.state base (night_text n) over) → it.place ≡ b
    → AreTaken t (new_room (free_name p group n) base until)
    → Settles t.state (session_after t (new_room (free_name p group n) base until)).state n b group
    until None
settle_new p t n b group base until over comes small plain apart it at taken =
    let night : Option (List ℕ) = night_text n in
    let name : List ℕ = free_name p group n in
    let own : belongs group name ≡ true = round_belongs group n (free_round p group n) small in
    let first : List Step = scope_steps name base until in
    let last : List Step = step.Command (call.Bare name name) ∷ [] in
    let parts = taken_join first last t taken in
    let t1 : Session = session_after t first in
    let u : State = (session_after t1 last).state in
    let one = scope_made t name base until night over comes.consistent it parts.0 in
    let founded = scope_founded t name base until night over comes.consistent it b at parts.0 in
    let s : ℕ = founded.number in
    let bare = and_parts (is_taken (reply_of_step t1 (step.Command (call.Bare name name)))) true
    parts.1 in
    let houses = one_houses t1 name name night (over || has_come t.state until) one.consistent
    one.place s (place_is t1.state name night (over || has_come t.state until)
    one.consistent.numbered one.place s founded.row founded.found founded.called) bare.0 in
    let of : is_same (night_of u s) night ≡ true =
    ap (λ (tree : TreeState). is_same (night_of (record t1.state { tree = tree }) s) night)
    houses.tree ∙ founded.of in
    let not_night : belongs (codes "night") name ≡ false =
    round_is_of_one group (codes "night") n (free_round p group n) small plain night_plain
    (λ same. apart (sym same)) in
    let here : Settles t.state u n b group until None = record {
      own = record {
        takes = record {
          scope = s;
          room = length t1.state.work.groups;
          last = last_in_tree t1.state u night group houses.tree ∙ founded.last group own;
          is = room_own t1.state u name s night group houses own of;
          takes = ap (λ (o : Option Group). option_map_or (λ row. row.scope == s
              && not row.waited) o false) houses.found
              ∙ and_from (s == s) true (eq-eqb s s refl) refl;
          unlimited = ap (λ (o : Option Group). option_map_or (λ (row : Group).
              is_none row.limit) o false) houses.found;
        };
        stays = λ x some. cc;
        new = λ none. (
          founded.row,
          ap (λ (tree : TreeState). slice_get tree.scopes s) houses.tree ∙ founded.found,
          below_stays t1.state u founded.row b until houses.grows founded.below,
        );
      };
      groups = groups_on t.state t1.state u (groups_by_work t.state t1.state founded.work)
          houses.groups;
      others = λ other plain_other else.
          let not_its : belongs other name ≡ false =
          round_is_of_one group other n (free_round p group n) small plain plain_other else in (
            last_in_tree t1.state u night other houses.tree ∙ founded.others night other not_its,
            room_left t1.state u name s night other houses not_its
                ∙ owned_by_work t.state t1.state night other one.grows founded.work,
          );
      base = base_in_tree t1.state u n houses.tree
          ∙ founded.left n (not_a_top group n (free_round p group n) name apart not_night);
    } in
    subst (λ (x : Session). Settles t.state x.state n b group until None)
    (sym (steps_join first last t)) here

-- ---- a group that keeps its scope

-- A limit that was taken away.
pub record Freed (t u : State) (g : ℕ) : Type 0 where
  pub grows : Grows t u
  pub tree : u.tree ≡ t.tree
  pub groups : KeepsGroups t u
  pub many : length u.work.groups ≡ length t.work.groups
  pub free : is_free u g ≡ true

freed_by : (p : State) (t : Session) (g : ℕ) (row : Group) → From p t
    → slice_get p.work.groups g ≡ Some row
    → is_taken (reply_of_step t (step.Command (call.SetLimit row.name None))) ≡ true
    → Freed t.state (after_step t (step.Command (call.SetLimit row.name None))).state g
freed_by p t g row from found taken =
    subst (λ (x : Session). Freed q x.state g) (sym to) here
  where
    q : State
    q = t.state

    kept : (new : Group) × (slice_get t.state.work.groups g ≡ Some new) × IsSameGroup row new
    kept = from.groups g row found

    at : group_of t.state row.name ≡ g
    at =
        ap (group_of q) (sym kept.2.name)
        ∙ ap (λ (o : Option ℕ). unwrap_or o (length q.work.groups))
        (place_of_name (λ (x : Group). x.name) q.work.groups g kept.0
        from.comes.consistent.numbered.group_names kept.1)

    to : after_step t (step.Command (call.SetLimit row.name None))
        ≡ with_event t (Some (event.SetLimit g None))
    to =
        command_taken t (call.SetLimit row.name None) refl taken
        ∙ ap (λ (h : ℕ). with_event t (Some (event.SetLimit h None))) at

    here : Freed t.state (change.step t.state (event.SetLimit g None)) g
    here = record {
      grows = limit_grows q g None from.comes.consistent.numbered;
      tree = refl;
      groups = groups_freed q g;
      many = length-at_row (with_limit None) g q.work.groups;
      free = ap (λ (o : Option Group). option_map_or (λ (x : Group). is_none x.limit) o false)
          (slice_get-at_row_same (with_limit None) g q.work.groups
          ∙ ap (option_map (with_limit None)) kept.1);
    }

-- A group of the store that takes tasks is kept.
room_kept : (p : State) (t : Session) (n b s g : ℕ) (group : List ℕ) (until : Option Until)
    → From p t → last_scope p n group ≡ Some s → last_room p n group ≡ Some g
    → is_room p s g ≡ true → IsUnmoved p t.state n group → AreTaken t (unlimited_at p g)
    → Settles t.state (session_after t (unlimited_at p g)).state n b group until (Some s)
room_kept p t n b s g group until from last is takes unmoved taken =
    by_row (slice_get p.work.groups g) refl taken
  where
    -- What holds once the group has no limit.
    settled : (u : State) → u.tree ≡ t.state.tree → KeepsGroups t.state u
        → ((other : List ℕ) → last_room u n other ≡ last_room t.state n other)
        → is_free u g ≡ true → Settles t.state u n b group until (Some s)
    settled u same keeps rooms free = record {
      own = record {
        takes = record {
          scope = s;
          room = g;
          last = last_in_tree t.state u (night_text n) group same ∙ unmoved.0 ∙ last;
          is = rooms group ∙ unmoved.1 ∙ is;
          takes = room_stays t.state u s g keeps (room_stays p t.state s g from.groups takes);
          unlimited = free;
        };
        stays = λ x some. cc;
        new = λ none. cc;
      };
      groups = keeps;
      others = λ other plain else. (
        last_in_tree t.state u (night_text n) other same,
        rooms other,
      );
      base = base_in_tree t.state u n same;
    }

    by_limit : (row : Group) → slice_get p.work.groups g ≡ Some row → (limit : Option ℕ)
        → row.limit ≡ limit
        → AreTaken t (cond (is_some limit) (step.Command (call.SetLimit row.name None) ∷ []) [])
        → Settles t.state (session_after t
        (cond (is_some limit) (step.Command (call.SetLimit row.name None) ∷ []) [])).state n b
        group until (Some s)
    by_limit row found None none taken =
        settled t.state refl (groups_here t.state) (λ other. refl)
        (free_stays p t.state g from.groups
        (ap (λ (o : Option Group). option_map_or (λ (x : Group). is_none x.limit) o false) found
        ∙ ap is_none none))
    by_limit row found (Some most) some taken =
        let parts = and_parts
        (is_taken (reply_of_step t (step.Command (call.SetLimit row.name None)))) true taken in
        let freed = freed_by p t g row from found parts.0 in
        settled (after_step t (step.Command (call.SetLimit row.name None))).state freed.tree
        freed.groups
        (λ other. owned_same t.state
        (after_step t (step.Command (call.SetLimit row.name None))).state (night_text n) other
        freed.grows freed.many)
        freed.free

    by_row : (o : Option Group) → slice_get p.work.groups g ≡ o
        → AreTaken t (option_map_or unlimited o [])
        → Settles t.state (session_after t (option_map_or unlimited o [])).state n b group until
        (Some s)
    by_row None found taken =
        absurd (false≢true (sym (ap (λ (o : Option Group). option_map_or (λ (row : Group).
        row.scope == s && not row.waited) o false) found) ∙ takes))
    by_row (Some row) found taken = by_limit row found row.limit refl taken

-- Another one is made in the scope that stays.
room_more : (p : State) (t : Session) (n b s : ℕ) (group : List ℕ) (until : Option Until)
    → From p t → n < 2 ^ 64 → IsPlain group → last_scope p n group ≡ Some s
    → IsUnmoved p t.state n group
    → AreTaken t (step.Command (call.Bare (free_name p group n) (name_at p s)) ∷ [])
    → Settles t.state (session_after t
    (step.Command (call.Bare (free_name p group n) (name_at p s)) ∷ [])).state n b group until
    (Some s)
room_more p t n b s group until from small plain last unmoved taken =
    let night : Option (List ℕ) = night_text n in
    let name : List ℕ = free_name p group n in
    let x : Step = step.Command (call.Bare name (name_at p s)) in
    let parts = and_parts (is_taken (reply_of_step t x)) true taken in
    let over : Bool = is_done p.tree.scopes s in
    let was = scope_place p n group s last in
    let it = from.comes.places (name_at p s) night over was in
    let within : s < length p.tree.scopes =
    last_within (is_scope p night group) (length p.tree.scopes) s last in
    let row = row_there p.tree.scopes s within in
    let found : slice_get t.state.tree.scopes s ≡ Some row.0 =
    from.scopes s within ∙ row.1 in
    let called : row.0.name ≡ name_at p s =
    sym (ap (λ (o : Option Scope). option_map_or (λ (r : Scope). r.name) o (codes "root"))
    row.1) in
    let at : it.place ≡ s =
    place_is t.state (name_at p s) night over from.comes.consistent.numbered it s row.0 found
    called in
    let houses = one_houses t name (name_at p s) night over from.comes.consistent it s at parts.0 in
    let u : State = (after_step t x).state in
    let own : belongs group name ≡ true = round_belongs group n (free_round p group n) small in
    let of : is_same (night_of u s) night ≡ true =
    ap (λ (tree : TreeState). is_same (night_of (record t.state { tree = tree }) s) night)
    houses.tree ∙ subst (λ (m : ℕ). is_same (night_of t.state m) night ≡ true) at it.of in
    record {
      own = record {
        takes = record {
          scope = s;
          room = length t.state.work.groups;
          last = last_in_tree t.state u night group houses.tree ∙ unmoved.0 ∙ last;
          is = room_own t.state u name s night group houses own of;
          takes = ap (λ (o : Option Group). option_map_or (λ row. row.scope == s
              && not row.waited) o false) houses.found
              ∙ and_from (s == s) true (eq-eqb s s refl) refl;
          unlimited = ap (λ (o : Option Group). option_map_or (λ (row : Group).
              is_none row.limit) o false) houses.found;
        };
        stays = λ x some. cc;
        new = λ none. cc;
      };
      groups = houses.groups;
      others = λ other plain_other else. (
        last_in_tree t.state u night other houses.tree,
        room_left t.state u name s night other houses
            (round_is_of_one group other n (free_round p group n) small plain plain_other else),
      );
      base = base_in_tree t.state u n houses.tree;
    }

settle_old : (p : State) (t : Session) (n b s : ℕ) (group : List ℕ) (until : Option Until)
    → From p t → n < 2 ^ 64 → IsPlain group → last_scope p n group ≡ Some s
    → IsUnmoved p t.state n group → AreTaken t (old_room p n group s)
    → Settles t.state (session_after t (old_room p n group s)).state n b group until (Some s)
settle_old p t n b s group until from small plain last unmoved taken =
    by_room (last_room p n group) refl
    (option_map_or (is_room p s) (last_room p n group) false) refl taken
  where
    by_room : (o : Option ℕ) → last_room p n group ≡ o → (takes : Bool)
        → option_map_or (is_room p s) o false ≡ takes
        → AreTaken t (cond takes (option_map_or (unlimited_at p) o [])
        (step.Command (call.Bare (free_name p group n) (name_at p s)) ∷ []))
        → Settles t.state (session_after t (cond takes (option_map_or (unlimited_at p) o [])
        (step.Command (call.Bare (free_name p group n) (name_at p s)) ∷ []))).state n b group until
        (Some s)
    by_room o is false room taken =
        room_more p t n b s group until from small plain last unmoved taken
    by_room None is true room taken = absurd (false≢true room)
    by_room (Some g) is true room taken =
        room_kept p t n b s g group until from last is room unmoved taken

-- What a group needs is made.
pub settle : (p : State) (t : Session) (n b : ℕ) (group base : List ℕ) (until : Option Until)
    (moved over : Bool) → From p t → n < 2 ^ 64 → IsPlain group → (codes "night" ≡ group → ⊥)
    → (it : Place t.state base (night_text n) over) → it.place ≡ b → IsUnmoved p t.state n group
    → AreTaken t (room_steps p n base moved group until)
    → Settles t.state (session_after t (room_steps p n base moved group until)).state n b group
    until (kept_scope p n group until moved)
settle p t n b group base until moved over from small plain apart it at unmoved taken =
    by_kept (kept_scope p n group until moved) refl taken
  where
    by_kept : (o : Option ℕ) → kept_scope p n group until moved ≡ o
        → AreTaken t (option_map_or (old_room p n group) o
        (new_room (free_name p group n) base until))
        → Settles t.state (session_after t (option_map_or (old_room p n group) o
        (new_room (free_name p group n) base until))).state n b group until o
    by_kept None is taken =
        settle_new p t n b group base until over from.comes small plain apart it at taken
    by_kept (Some s) is taken =
        settle_old p t n b s group until from small plain
        (kept_is (λ x. is_replaced p x (moved || is_changed p x until)) (last_scope p n group) s is)
        unmoved taken
