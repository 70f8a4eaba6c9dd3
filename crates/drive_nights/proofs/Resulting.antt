-- All that the plan asks for is there after an opening.
use Rattle.std.proofs.Common.{◌≡◌, ◌<◌, ◌≤◌, ◌∙◌, ◌&&◌, ◌||◌, ◌^◌, ℕ, zero, suc, Bool, true, false}
use Rattle.std.proofs.Common.{cond, List, [], ◌∷◌, ◌++◌, Option, Some, None, length, slice_get}
use Rattle.std.proofs.Common.{nat_le, codes, ap, refl, sym, subst, inl, inr, arith, is_some}
use Rattle.std.proofs.lemmas.Bool.{cases_eq}
use Rattle.std.proofs.lemmas.Option.{same_Some, slice_get_within}
use Rattle.std.proofs.lemmas.Slice.Eq.{bytes_eq-Decides}
use Rattle.std.specs.Fmt.{decimal}
use Rattle.std.specs.Option.{option_map_or}
use Rattle.std.specs.Prelude.{is_none}
use Rattle.run_model.proofs.RowLemmas.{row_there}
use Rattle.run_model.specs.Allowed.{takes_cause}
use Rattle.run_model.specs.declared.commands.Step.{Step}
use Rattle.run_model.specs.declared.commands.Step.TheVariants as step
use Rattle.run_model.specs.declared.commands.Wish.TheVariants as wish
use Rattle.run_model.specs.declared.scopes.Kind.{Kind}
use Rattle.run_model.specs.declared.scopes.Kind.TheVariants as kind
use Rattle.run_model.specs.declared.scopes.Scope.{Scope}
use Rattle.run_model.specs.declared.tasks.Task.{Task}
use Rattle.run_model.specs.Rows.{root}
use Rattle.run_model.specs.Rules.{IsConsistent}
use Rattle.run_model.specs.Scopes.{text_under}
use Rattle.run_model.specs.Session.{Session, after_step, reply_of_step, session_after}
use Rattle.run_model.specs.State.{State, TreeState}
use Rattle.night_drive.specs.Distinct.{IsPlain}
use Rattle.night_drive.specs.Names.{belongs, is_same, night_of}
use Rattle.night_drive.specs.Searches.{last_below}
use Rattle.night_drive.specs.Seen.{is_over, is_owned}
use Rattle.night_drive.proofs.Searching.{last_alike, last_within}
use Rattle.drive_nights.specs.declared.untils.Until.{Until}
use Rattle.drive_nights.specs.Effects.{AreNamed, AreTaken, has_come, is_base_over, is_taken}
use Rattle.drive_nights.specs.Names.{free_round}
use Rattle.drive_nights.specs.Nights.{base_of, is_base, is_first_top, night_text}
use Rattle.drive_nights.specs.Nights.{top_above}
use Rattle.drive_nights.specs.Openings.{base_name, base_named, base_steps, new_base, new_top}
use Rattle.drive_nights.specs.Openings.{opening_of, rooms_below, top_steps, until_at}
use Rattle.drive_nights.specs.Openings.{withdrawals_below}
use Rattle.drive_nights.specs.Results.{HasDeadline, HasRoom, IsMade, KeepsGroups, OpeningsMakeAll}
use Rattle.drive_nights.specs.Rooms.{is_changed, is_replaced, kept_base, kept_scope}
use Rattle.drive_nights.specs.Rooms.{last_scope, room_steps}
use Rattle.drive_nights.proofs.Adding.{base_own, groups_by_work, groups_on, is_base_of, last_in}
use Rattle.drive_nights.proofs.Adding.{last_in_tree, one_adds, owned_by_work, place_is, scope_left}
use Rattle.drive_nights.proofs.Basing.{first_top}
use Rattle.drive_nights.proofs.Belonging.{round_is_of_one}
use Rattle.drive_nights.proofs.Founding.{Below, Founded, below_is, below_stays, scope_founded}
use Rattle.drive_nights.proofs.Making.{Grows, grows_on}
use Rattle.drive_nights.proofs.Opening.{AreRoomed, after_withdrawals, base_made, night_plain}
use Rattle.drive_nights.proofs.Opening.{number_step, rooms_made}
use Rattle.drive_nights.proofs.Placing.{Place, place_stays, root_place}
use Rattle.drive_nights.proofs.Rooming.{Comes, comes_on, kept_is, over_by_tree, room_made}
use Rattle.drive_nights.proofs.Rooming.{scope_made}
use Rattle.drive_nights.proofs.Settling.{From, IsUnmoved, Settled, Settles, settle, settled_stays}
use Rattle.drive_nights.proofs.Taking.{consistent_after, steps_join, taken_join}
use Rattle.drive_nights.proofs.Topping.{round_of, top_by, top_first, top_number}
use Rattle.drive_nights.proofs.Withdrawing.{all_withdrawn}

-- ---- the base

-- The top above a new base has the deadline of all groups together.
record Topped (u : State) (n base : ℕ) (all : Option Until) : Type 0 where
  top : ℕ
  row : Scope
  found : slice_get u.tree.scopes top ≡ Some row
  below : Below u row 0 all
  above : top_above u n base ≡ top

-- The base stands in the night, and no group's scope is another one.
record Grounds (t u : State) (n : ℕ) (all : Option Until) (name : List ℕ) (kept : Option ℕ)
    : Type 0 where
  base : ℕ
  row : Scope
  found : slice_get u.tree.scopes base ≡ Some row
  called : row.name ≡ name
  is : base_of u n ≡ Some base
  work : u.work ≡ t.work
  old : (s : ℕ) → kept ≡ Some s → base ≡ s
  new : kept ≡ None → Topped u n base all
  others : (night : Option (List ℕ)) (group : List ℕ) → IsPlain group
      → (codes "night" ≡ group → ⊥) → last_in u night group ≡ last_in t night group

top_grounds : (p : State) (t : Session) (n : ℕ) (all : Option Until) → IsConsistent t.state
    → 1 ≤ n → n < 2 ^ 64 → AreTaken t (top_steps p n all)
    → Grounds t.state (session_after t (top_steps p n all)).state n all (new_base p n) None
top_grounds p t n all consistent least small taken =
    top_by (λ (x : Session) (name : List ℕ) (night : Option (List ℕ)). Grounds t.state x.state n all
    name None) p t n all taken in_first in_later
  where
    top : List ℕ
    top = new_top p n

    t1 : Session
    t1 = session_after t (top_first p n all)

    founded : AreTaken t (top_first p n all)
        → Founded t.state (session_after t (top_first p n all)).state (new_top p n) 0 all None
    founded taken =
        scope_founded t (new_top p n) (codes "root") all None false consistent
        (root_place t.state consistent.numbered) 0
        (place_is t.state (codes "root") None false consistent.numbered
        (root_place t.state consistent.numbered) 0 root consistent.numbered.rooted refl) taken

    not_its : (group : List ℕ) → IsPlain group → (codes "night" ≡ group → ⊥)
        → belongs group (new_top p n) ≡ false
    not_its group plain apart =
        round_is_of_one (codes "night") group n (free_round p (codes "night") n) small night_plain
        plain apart

    in_first : nat_le n 1 ≡ true → AreTaken t (top_first p n all)
        → Grounds t.state (session_after t (top_first p n all)).state n all (new_top p n) None
    in_first is taken =
        let it = founded taken in
        let own : is_base_of n kind.Cause top ≡ true =
        ap (λ b. cond b (is_first_top top) (is_same None (night_text n))) is
        ∙ first_top n (free_round p (codes "night") n) least is in
        record {
          base = it.number;
          row = it.row;
          found = it.found;
          called = it.called;
          is = it.based n own (ap (λ b. cond b None (Some (decimal n))) is);
          work = it.work;
          old = λ s some. cc;
          new = λ none. record {
            top = it.number;
            row = it.row;
            found = it.found;
            below = it.below;
            above = ap (λ b. cond b it.number (option_map_or (λ (row : Scope). row.parent)
                (slice_get t1.state.tree.scopes it.number) 0)) is;
          };
          others = λ night group plain apart. it.others night group (not_its group plain apart);
        }

    in_later : nat_le n 1 ≡ false → AreTaken t (top_first p n all)
        → is_taken (reply_of_step (session_after t (top_first p n all)) (top_number p n)) ≡ true
        → Grounds t.state
        (after_step (session_after t (top_first p n all)) (top_number p n)).state n all
        (round_of p n) None
    in_later is taken last =
        let one = scope_made t top (codes "root") all None false consistent
        (root_place t.state consistent.numbered) taken in
        let it = founded taken in
        let name : List ℕ = round_of p n in
        let over : Bool = has_come t.state all in
        let k : Kind = kind.Value (codes "night") (decimal n) in
        let two = number_step t1 name top (decimal n) over one.consistent one.place last in
        let s : ℕ = it.number in
        let adds = one_adds t1 name top (wish.Value (codes "night") (decimal n)) None over
        one.consistent one.place s
        (place_is t1.state top None over one.consistent.numbered one.place s it.row it.found
        it.called) last in
        let u : State = (after_step t1 (top_number p n)).state in
        let m : ℕ = length t1.state.tree.scopes in
        let numbered : night_text n ≡ Some (decimal n) =
        ap (λ b. cond b None (Some (decimal n))) is in
        let same : is_same (Some (decimal n)) (Some (decimal n)) ≡ true =
        (bytes_eq-Decides (decimal n) (decimal n)).1 refl in
        let own : is_base_of n k name ≡ true =
        ap (λ b. cond b (takes_cause k && is_first_top name)
        (is_same (text_under (codes "night") k) (night_text n))) is
        ∙ ap (is_same (Some (decimal n))) numbered ∙ same in
        let of : is_same (night_of u m) (night_text n) ≡ true =
        ap (is_same (night_of u m)) numbered
        ∙ subst (λ (x : ℕ). is_same (night_of u x) (Some (decimal n)) ≡ true)
        (place_is u name (Some (decimal n)) over two.consistent.numbered two.place m adds.row
        adds.found adds.called) two.place.of in
        let within : s < length t1.state.tree.scopes =
        slice_get_within t1.state.tree.scopes s it.row it.found in
        record {
          base = m;
          row = adds.row;
          found = adds.found;
          called = adds.called;
          is = base_own t1.state u name s k n adds own of;
          work = adds.work ∙ it.work;
          old = λ s some. cc;
          new = λ none. record {
            top = s;
            row = it.row;
            found = adds.grows.scopes s within ∙ it.found;
            below = below_stays t1.state u it.row 0 all adds.grows it.below;
            above = ap (λ b. cond b m (option_map_or (λ (row : Scope). row.parent)
                (slice_get u.tree.scopes m) 0)) is
                ∙ ap (λ (o : Option Scope). option_map_or (λ (row : Scope). row.parent) o 0)
                adds.found
                ∙ adds.parent;
          };
          others = λ night group plain apart.
              scope_left t1.state u name s k night group adds refl
              ∙ it.others night group (not_its group plain apart);
        }

base_grounds : (p : State) (t : Session) (n : ℕ) (all : Option Until) → IsConsistent t.state
    → t.state.tree ≡ p.tree → 1 ≤ n → n < 2 ^ 64 → AreTaken t (base_steps p n all)
    → Grounds t.state (session_after t (base_steps p n all)).state n all (base_name p n all)
    (kept_base p n all)
base_grounds p t n all consistent same least small taken = by_kept (kept_base p n all) refl taken
  where
    by_kept : (o : Option ℕ) → kept_base p n all ≡ o
        → AreTaken t (cond (is_none o) (top_steps p n all) [])
        → Grounds t.state (session_after t (cond (is_none o) (top_steps p n all) [])).state n all
        (base_named p n o) o
    by_kept None is taken = top_grounds p t n all consistent least small taken
    by_kept (Some s) is taken =
        let last : base_of p n ≡ Some s =
        kept_is (λ x. is_replaced p (top_above p n x) (is_changed p (top_above p n x) all))
        (base_of p n) s is in
        let row = row_there p.tree.scopes s
        (last_within (is_base p n) (length p.tree.scopes) s last) in
        record {
          base = s;
          row = row.0;
          found = ap (λ (tree : TreeState). slice_get tree.scopes s) same ∙ row.1;
          called = sym (ap (λ (o : Option Scope). option_map_or (λ (x : Scope). x.name) o
              (codes "root")) row.1);
          is = ap (λ (tree : TreeState). base_of (record p { tree = tree }) n) same ∙ last;
          work = refl;
          old = λ x some. cc;
          new = λ none. cc;
          others = λ night group plain apart. refl;
        }

-- ---- the groups

-- The groups below this number have what they need, and the others have what they had.
record AreSettled (p t u : State) (n b : ℕ) (groups : List (List ℕ))
    (untils : List (Option Until)) (moved : Bool) (most : ℕ) : Type 0 where
  keeps : KeepsGroups t u
  base : base_of u n ≡ base_of t n
  settled : (g : ℕ) (group : List ℕ) → g < most → slice_get groups g ≡ Some group
      → Settled u n b group (until_at untils g) (kept_scope p n group (until_at untils g) moved)
  left : (g : ℕ) (group : List ℕ) → most ≤ g → slice_get groups g ≡ Some group
      → IsUnmoved p u n group

-- One group more, with number k.
one_settled : (p t u v : State) (n b : ℕ) (groups : List (List ℕ))
    (untils : List (Option Until)) (moved : Bool) (k : ℕ) (group : List ℕ) → AreNamed groups
    → slice_get groups k ≡ Some group → AreSettled p t u n b groups untils moved k
    → Grows u v
    → Settles u v n b group (until_at untils k) (kept_scope p n group (until_at untils k) moved)
    → AreSettled p t v n b groups untils moved (suc k)
one_settled p t u v n b groups untils moved k group named at before grows here = record {
  keeps = groups_on t u v before.keeps here.groups;
  base = here.base ∙ before.base;
  settled = λ g other less there. elim (cases_eq g k) [
    | inl same ↦
        let it : group ≡ other =
        same_Some group other (sym at ∙ ap (slice_get groups) (sym same) ∙ there) in
        subst (λ (m : ℕ). Settled v n b other (until_at untils m)
        (kept_scope p n other (until_at untils m) moved)) (sym same)
        (subst (λ (x : List ℕ). Settled v n b x (until_at untils k)
        (kept_scope p n x (until_at untils k) moved)) it here.own)
    | inr apart ↦
        settled_stays u v n b other (until_at untils g)
        (kept_scope p n other (until_at untils g) moved) grows here.groups
        (unmoved g other there apart) (before.settled g other (omega (arith, less, apart)) there)
  ];
  left = λ g other more there.
      let apart : g ≡ k → ⊥ = λ same. omega (arith, more, same) in
      let here_too = unmoved g other there apart in
      let was = before.left g other (omega (arith, more)) there in
      (here_too.0 ∙ was.0, here_too.1 ∙ was.1);
}
  where
    unmoved : (g : ℕ) (other : List ℕ) → slice_get groups g ≡ Some other → (g ≡ k → ⊥)
        → IsUnmoved u v n other
    unmoved g other there apart =
        here.others other (named.plain g other there)
        (λ same. apart (named.apart g k other there (at ∙ ap (λ (x : List ℕ). Some x) same)))

rooms_settled : (p : State) (t : Session) (n b : ℕ) (all : Option Until) (base : List ℕ)
    (groups : List (List ℕ)) (untils : List (Option Until)) (k : ℕ) → From p t → n < 2 ^ 64
    → AreNamed groups → (it : Place t.state base (night_text n) (is_base_over p n all))
    → it.place ≡ b
    → ((g : ℕ) (group : List ℕ) → slice_get groups g ≡ Some group
    → is_over t.state (night_text n) group ≡ is_over p (night_text n) group)
    → ((g : ℕ) (group : List ℕ) → slice_get groups g ≡ Some group → IsUnmoved p t.state n group)
    → AreTaken t (rooms_below p n base (is_none (kept_base p n all)) groups untils k)
    → AreSettled p t.state
    (session_after t (rooms_below p n base (is_none (kept_base p n all)) groups untils k)).state n
    b groups untils (is_none (kept_base p n all)) k
rooms_settled p t n b all base groups untils zero from small named it at same unmoved taken =
    record {
      keeps = groups_by_work t.state t.state refl;
      base = refl;
      settled = λ g group less there. absurd (omega (arith, less));
      left = λ g group more there. unmoved g group there;
    }
rooms_settled p t n b all base groups untils (suc k) from small named it at same unmoved taken =
    by_group (slice_get groups k) refl taken
    (λ first. rooms_settled p t n b all base groups untils k from small named it at same unmoved
    first)
  where
    moved : Bool
    moved = is_none (kept_base p n all)

    before : List Step
    before = rooms_below p n base (is_none (kept_base p n all)) groups untils k

    u : Session
    u = session_after t before

    here : List ℕ → List Step
    here group =
        room_steps p n base (is_none (kept_base p n all)) group (until_at untils k)

    none_here : {group : List ℕ} → None ≡ Some group → ⊥
    none_here e = cc

    by_option : (o : Option (List ℕ)) → slice_get groups k ≡ o
        → AreRoomed p t.state u.state n all groups untils k
        → AreSettled p t.state u.state n b groups untils moved k
        → AreTaken u (option_map_or here o [])
        → AreSettled p t.state (session_after u (option_map_or here o [])).state n b groups untils
        moved (suc k)
    by_option None there roomed done taken = record {
      keeps = done.keeps;
      base = done.base;
      settled = λ g group less so. elim (cases_eq g k) [
        | inl same_g ↦
            absurd (none_here (sym there ∙ ap (slice_get groups) (sym same_g) ∙ so))
        | inr apart ↦ done.settled g group (omega (arith, less, apart)) so
      ];
      left = λ g group more so. done.left g group (omega (arith, more)) so;
    }
    by_option (Some group) there roomed done taken =
        let v : Session = session_after u (here group) in
        let until : Option Until = until_at untils k in
        let over : Bool = is_base_over p n all in
        let comes = comes_on p t u from.comes roomed.consistent roomed.grows in
        let place : Place u.state base (night_text n) over =
        place_stays t.state u.state base (night_text n) over roomed.grows it in
        let plain = named.plain k group there in
        let here_still : place.place ≡ b =
        place_is u.state base (night_text n) over roomed.consistent.numbered place it.place it.row
        (roomed.grows.scopes it.place
        (slice_get_within t.state.tree.scopes it.place it.row it.found) ∙ it.found) it.called
        ∙ at in
        let room = room_made p u n group base until moved over comes small plain place taken in
        let night : codes "night" ≡ group → ⊥ =
        λ e. named.free k (there ∙ ap (λ (x : List ℕ). Some x) (sym e)) in
        one_settled p t.state u.state v.state n b groups untils moved k group named there done
        room.grows
        (settle p u n b group base until moved over (record {
          comes = comes;
          scopes = λ s less.
              let within : s < length t.state.tree.scopes =
              slice_get_within t.state.tree.scopes s (row_there p.tree.scopes s less).0
              (from.scopes s less ∙ (row_there p.tree.scopes s less).1) in
              roomed.grows.scopes s within ∙ from.scopes s less;
          groups = groups_on p t.state u.state from.groups done.keeps;
        }) small plain night place here_still (done.left k group (omega arith) there) taken)

    by_group : (o : Option (List ℕ)) → slice_get groups k ≡ o
        → AreTaken t (before ++ option_map_or here o [])
        → (AreTaken t before → AreSettled p t.state u.state n b groups untils moved k)
        → AreSettled p t.state (session_after t (before ++ option_map_or here o [])).state n b
        groups untils moved (suc k)
    by_group o there taken first =
        let parts = taken_join before (option_map_or here o []) t taken in
        subst (λ (x : Session). AreSettled p t.state x.state n b groups untils moved (suc k))
        (sym (steps_join before (option_map_or here o []) t))
        (by_option o there
        (rooms_made p t n all base groups untils k from.comes small named it same parts.0)
        (first parts.0) parts.1)

-- ---- the opening

-- What a group has, in terms of the rows.
has_room : (p q : State) (n base : ℕ) (all : Option Until) (group : List ℕ)
    (until : Option Until) → IsConsistent q
    → Settled q n base group until (kept_scope p n group until (is_none (kept_base p n all)))
    → HasRoom p q n base all group until
has_room p q n base all group until consistent it = record {
  takes = it.takes;
  kept = by_kept (kept_scope p n group until moved) refl it.stays;
  new = by_new (kept_scope p n group until moved) it.new;
}
  where
    moved : Bool
    moved = is_none (kept_base p n all)

    by_kept : (o : Option ℕ) → kept_scope p n group until moved ≡ o
        → ((s : ℕ) → o ≡ Some s → it.takes.scope ≡ s) → is_some o ≡ true
        → last_scope p n group ≡ Some it.takes.scope
    by_kept None is stays some = cc
    by_kept (Some s) is stays some =
        kept_is (λ x. is_replaced p x (moved || is_changed p x until)) (last_scope p n group) s is
        ∙ ap (λ (x : ℕ). Some x) (sym (stays s refl))

    by_new : (o : Option ℕ)
        → (o ≡ None → (row : Scope) × (slice_get q.tree.scopes it.takes.scope ≡ Some row)
        × Below q row base until)
        → is_some o ≡ false → HasDeadline q it.takes.scope base until
    by_new (Some s) new none = cc
    by_new None new none =
        let row = new refl in
        below_is q it.takes.scope base row.0 until consistent.numbered row.1 row.2

pub openings_make_all : OpeningsMakeAll
openings_make_all s n groups untils all least opening =
    subst (λ (x : Session). IsMade p x.state n groups untils all) (sym joined) here
  where
    p : State
    p = s.state

    w : List Step
    w = withdrawals_below s.state (length s.state.work.tasks)

    b : List Step
    b = base_steps s.state n all

    r : List Step
    r =
        rooms_below s.state n (base_name s.state n all) (is_none (kept_base s.state n all)) groups
        untils (length groups)

    f : List Step
    f = step.Flush ∷ []

    t0 : Session
    t0 = session_after s w

    t1 : Session
    t1 = session_after t0 b

    t2 : Session
    t2 = session_after t1 r

    joined : session_after s (opening_of s.state n groups untils all) ≡ t2
    joined =
        steps_join (w ++ b ++ r) f s ∙ steps_join (w ++ b) r s
        ∙ ap (λ (x : Session). session_after x r) (steps_join w b s)

    here : IsMade p t2.state n groups untils all
    here =
        let one = taken_join (w ++ b ++ r) f s opening.taken in
        let two = taken_join (w ++ b) r s one.0 in
        let three = taken_join w b s two.0 in
        let taken_r : AreTaken t1 r =
        subst (λ (x : Session). AreTaken x r) (steps_join w b s) two.1 in
        let withdrawn = all_withdrawn s opening.bare three.0 in
        let came : IsConsistent t0.state = consistent_after s w opening.consistent in
        let comes : Comes p t0 = after_withdrawals p t0 (length p.work.tasks) came withdrawn in
        let based = base_made p t0 n all comes opening.number three.1 in
        let grounds = base_grounds p t0 n all came withdrawn.tree least opening.number three.1 in
        let base : ℕ = grounds.base in
        let name : List ℕ = base_name p n all in
        let night : Option (List ℕ) = night_text n in
        let apart = λ (g : ℕ) (group : List ℕ) (at : slice_get groups g ≡ Some group)
        (same : codes "night" ≡ group).
        opening.named.free g (at ∙ ap (λ (x : List ℕ). Some x) (sym same)) in
        let left = λ (g : ℕ) (group : List ℕ) (at : slice_get groups g ≡ Some group).
        based.others night group (opening.named.plain g group at) (apart g group at)
        ∙ over_by_tree p t0.state withdrawn.tree night group in
        let unmoved = λ (g : ℕ) (group : List ℕ) (at : slice_get groups g ≡ Some group).
        let it : IsUnmoved p t1.state n group = (
          grounds.others night group (opening.named.plain g group at) (apart g group at)
              ∙ last_in_tree p t0.state night group withdrawn.tree,
          owned_by_work t0.state t1.state night group based.grows grounds.work
              ∙ last_alike (is_owned t0.state night group) (is_owned p night group)
              (withdrawn.owned night group) (length t0.state.work.groups)
              ∙ ap (λ m. last_below (is_owned p night group) m) withdrawn.groups,
        ) in
        it in
        let tree_rows = λ (x : ℕ) (less : x < length p.tree.scopes).
        based.grows.scopes x
        (subst (λ (tree : TreeState). x < length tree.scopes) (sym withdrawn.tree) less)
        ∙ ap (λ (tree : TreeState). slice_get tree.scopes x) withdrawn.tree in
        let from : From p t1 = record {
          comes = comes_on p t0 t1 comes based.consistent based.grows;
          scopes = tree_rows;
          groups = groups_on p t0.state t1.state withdrawn.keeps
              (groups_by_work t0.state t1.state grounds.work);
        } in
        let at : based.place.place ≡ base =
        place_is t1.state name night (is_base_over p n all) based.consistent.numbered based.place
        base grounds.row grounds.found grounds.called in
        let roomed = rooms_made p t1 n all name groups untils (length groups) from.comes
        opening.number opening.named based.place left taken_r in
        let settled = rooms_settled p t1 n base all name groups untils (length groups) from
        opening.number opening.named based.place at left unmoved taken_r in
        let grows : Grows t0.state t2.state =
        grows_on t0.state t1.state t2.state based.grows roomed.grows in
        let within : base < length t1.state.tree.scopes =
        slice_get_within t1.state.tree.scopes base grounds.row grounds.found in
        record {
          base = base;
          based = record {
            is = settled.base ∙ grounds.is;
            kept = λ old is. grounds.old old is;
            new = λ none.
                let top = grounds.new none in
                let above : top_above t2.state n base ≡ top.top =
                ap (λ (o : Option Scope). cond (nat_le n 1) base
                (option_map_or (λ (row : Scope). row.parent) o 0))
                (roomed.grows.scopes base within) ∙ top.above in
                subst (λ (x : ℕ). HasDeadline t2.state x 0 all) (sym above)
                (below_is t2.state top.top 0 top.row all roomed.consistent.numbered
                (roomed.grows.scopes top.top
                (slice_get_within t1.state.tree.scopes top.top top.row top.found) ∙ top.found)
                (below_stays t1.state t2.state top.row 0 all roomed.grows top.below));
          };
          rooms = λ g group there.
              has_room p t2.state n base all group (until_at untils g) roomed.consistent
              (settled.settled g group (slice_get_within groups g group there) there);
          rest = record {
            clock = grows.clock ∙ ap (λ (tree : TreeState). tree.clock) withdrawn.tree;
            scopes = λ x less.
                roomed.grows.scopes x (slice_get_within t1.state.tree.scopes x
                (row_there p.tree.scopes x less).0
                (tree_rows x less ∙ (row_there p.tree.scopes x less).1))
                ∙ tree_rows x less;
            groups = groups_on p t1.state t2.state from.groups settled.keeps;
            tasks = λ m stale.
                ap (λ (tasks : List Task). slice_get tasks m) grows.tasks
                ∙ withdrawn.same m stale;
            many = ap (λ (tasks : List Task). length tasks) grows.tasks ∙ withdrawn.many;
          };
        }
