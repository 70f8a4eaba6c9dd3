-- After an opening a night is open.
use Rattle.std.proofs.Common.{◌≡◌, ◌<◌, ◌≤◌, ◌∙◌, ◌||◌, ◌^◌, ℕ, zero, suc, Bool, true, false}
use Rattle.std.proofs.Common.{cond, List, [], ◌∷◌, ◌++◌, Option, Some, None, length, slice_get}
use Rattle.std.proofs.Common.{nat_le, codes, ap, max, refl, sym, subst, inl, inr, arith}
use Rattle.std.proofs.lemmas.Bool.{and_parts, cases_eq, false≢true}
use Rattle.std.proofs.lemmas.Option.{same_Some, slice_get_within}
use Rattle.std.specs.Fmt.{decimal}
use Rattle.std.specs.Option.{option_map_or}
use Rattle.std.specs.Prelude.{is_none}
use Rattle.run_model.specs.declared.commands.Step.{Step}
use Rattle.run_model.specs.declared.commands.Step.TheVariants as step
use Rattle.run_model.specs.declared.commands.Wish.TheVariants as wish
use Rattle.run_model.specs.declared.scopes.Kind.TheVariants as kind
use Rattle.run_model.specs.declared.scopes.Scope.{Scope}
use Rattle.run_model.specs.declared.tasks.Task.{Task}
use Rattle.run_model.specs.Event as event
use Rattle.run_model.specs.Rules.{IsConsistent}
use Rattle.run_model.specs.Scopes.{is_done}
use Rattle.run_model.specs.Session.{Session, after_step, reply_of_step, session_after}
use Rattle.run_model.specs.State.{State, TreeState}
use Rattle.run_model.specs.Step as change
use Rattle.run_model.specs.Tasks.{is_fresh, is_running}
use Rattle.night_drive.specs.Distinct.{IsPlain}
use Rattle.night_drive.specs.Names.{belongs, is_same, night_of}
use Rattle.night_drive.specs.Seen.{is_over, is_owned}
use Rattle.night_drive.proofs.Searching.{last_passes}
use Rattle.drive_nights.specs.declared.untils.Until.{Until}
use Rattle.drive_nights.specs.Effects.{AreNamed, AreTaken, IsOpen, OpeningsOpen, has_come}
use Rattle.drive_nights.specs.Effects.{is_base_over, is_kept, is_over_after, is_taken}
use Rattle.drive_nights.specs.Names.{free_round}
use Rattle.drive_nights.specs.Nights.{base_of, is_base, is_base_row, last_night, name_at}
use Rattle.drive_nights.specs.Nights.{night_text, top_above}
use Rattle.drive_nights.specs.Openings.{base_name, base_named, base_steps, new_base, new_top}
use Rattle.drive_nights.specs.Openings.{opening_of, rooms_below, top_steps, until_at}
use Rattle.drive_nights.specs.Openings.{withdrawals_below}
use Rattle.drive_nights.specs.Rooms.{derive, is_changed, is_replaced, kept_base}
use Rattle.drive_nights.specs.Rooms.{room_steps}
use Rattle.drive_nights.proofs.Basing.{HasBase, base_stays, base_stood}
use Rattle.drive_nights.proofs.Belonging.{round_is_of_one}
use Rattle.drive_nights.proofs.Making.{Grows, derive_grows, grows_nowhere, grows_on}
use Rattle.drive_nights.proofs.Placing.{Place, derive_taken, number_made}
use Rattle.drive_nights.proofs.Placing.{over_left, place_stays, place_within, root_place}
use Rattle.drive_nights.proofs.Rooming.{Comes, Housed, Roomed, Scoped, comes_on, housed_stays}
use Rattle.drive_nights.proofs.Rooming.{kept_is, last_by_tree}
use Rattle.drive_nights.proofs.Rooming.{last_found, over_by_tree, room_made, scope_made}
use Rattle.drive_nights.proofs.Taking.{consistent_after, steps_join, taken_join}
use Rattle.drive_nights.proofs.Topping.{round_of, top_by, top_first, top_number}
use Rattle.drive_nights.proofs.Withdrawing.{Withdrawn, all_withdrawn, none_waits}

-- ---- the name of the top

pub night_plain : IsPlain (codes "night")
night_plain zero one two = absurd (omega (arith, one))
night_plain (suc zero) one two = absurd (omega (arith, one))
night_plain (suc (suc zero)) one two = absurd (omega (arith, one))
night_plain (suc (suc (suc zero))) one two = absurd (omega (arith, one))
night_plain (suc (suc (suc (suc zero)))) one two = absurd (omega (arith, one))
night_plain (suc (suc (suc (suc (suc i))))) one two = absurd (omega (arith, one))

-- ---- the base

-- The base of a night is there.
pub record Based (t u : State) (base : List ℕ) (night : Option (List ℕ)) (over : Bool)
    : Type 0 where
  pub consistent : IsConsistent u
  pub grows : Grows t u
  pub place : Place u base night over
  pub others : (other : Option (List ℕ)) (group : List ℕ) → IsPlain group
      → (codes "night" ≡ group → ⊥) → is_over u other group ≡ is_over t other group

-- The base that is kept stands in the night.
pub base_place : (p : State) (n s : ℕ) → base_of p n ≡ Some s
    → Place p (name_at p s) (night_text n) (is_done p.tree.scopes s)
base_place p n s last =
    let parts = and_parts (option_map_or (is_base_row n) (slice_get p.tree.scopes s) false)
    (is_same (night_of p s) (night_text n))
    (last_passes (is_base p n) (length p.tree.scopes) s last) in
    by_row (slice_get p.tree.scopes s) refl parts.0 parts.1
  where
    by_row : (o : Option Scope) → slice_get p.tree.scopes s ≡ o
        → option_map_or (is_base_row n) o false ≡ true
        → is_same (night_of p s) (night_text n) ≡ true
        → Place p (name_at p s) (night_text n) (is_done p.tree.scopes s)
    by_row None found passes of = absurd (false≢true passes)
    by_row (Some row) found passes of = record {
      place = s;
      row = row;
      found = found;
      called = sym (ap (λ (o : Option Scope). option_map_or (λ (x : Scope). x.name) o
          (codes "root")) found);
      of = of;
      done = refl;
    }

-- The value scope with the number of a night, below its top.
pub number_step : (t : Session) (name top text : List ℕ) (over : Bool) → IsConsistent t.state
    → Place t.state top None over
    → is_taken (reply_of_step t (derive name top (wish.Value (codes "night") text))) ≡ true
    → Based t.state (after_step t (derive name top (wish.Value (codes "night") text))).state name
    (Some text) over
number_step t name top text over consistent it taken =
    let q : State = t.state in
    let x : Step = derive name top (wish.Value (codes "night") text) in
    let to = derive_taken t name top (wish.Value (codes "night") text) None over
    consistent.numbered it taken in
    let u : State = change.step q
    (event.Derive name it.place (kind.Value (codes "night") text)) in
    let after : IsConsistent u =
    subst (λ (y : Session). IsConsistent y.state) to (consistent_after t (x ∷ []) consistent) in
    let here : Based q u name (Some text) over = record {
      consistent = after;
      grows = derive_grows q name it.place (kind.Value (codes "night") text) consistent.numbered;
      place = number_made q name top text None over consistent.numbered it after.numbered.ordered;
      others = λ other group plain apart.
          over_left q name it.place (kind.Value (codes "night") text) other group
          consistent.numbered (place_within q top None over it) refl;
    } in
    subst (λ (y : Session). Based q y.state name (Some text) over) (sym to) here

-- A new top, and the base that comes with it.
pub top_made : (p : State) (t : Session) (n : ℕ) (all : Option Until) → IsConsistent t.state
    → n < 2 ^ 64 → AreTaken t (top_steps p n all)
    → Based t.state (session_after t (top_steps p n all)).state (new_base p n) (night_text n)
    (has_come t.state all)
top_made p t n all consistent small taken =
    top_by (λ (x : Session) (name : List ℕ) (night : Option (List ℕ)). Based t.state x.state name
    night (has_come t.state all)) p t n all taken in_first in_later
  where
    top : List ℕ
    top = new_top p n

    t1 : Session
    t1 = session_after t (top_first p n all)

    scoped : AreTaken t (top_first p n all)
        → Scoped t.state (session_after t (top_first p n all)).state (new_top p n) None
        (has_come t.state all)
    scoped taken =
        scope_made t (new_top p n) (codes "root") all None false consistent
        (root_place t.state consistent.numbered) taken

    left : (group : List ℕ) → IsPlain group → (codes "night" ≡ group → ⊥)
        → belongs group (new_top p n) ≡ false
    left group plain apart =
        round_is_of_one (codes "night") group n (free_round p (codes "night") n) small night_plain
        plain apart

    in_first : nat_le n 1 ≡ true → AreTaken t (top_first p n all)
        → Based t.state (session_after t (top_first p n all)).state (new_top p n) None
        (has_come t.state all)
    in_first is taken =
        let one = scoped taken in
        record {
          consistent = one.consistent;
          grows = one.grows;
          place = one.place;
          others = λ other group plain apart. one.others other group (left group plain apart);
        }

    in_later : nat_le n 1 ≡ false → AreTaken t (top_first p n all)
        → is_taken (reply_of_step (session_after t (top_first p n all)) (top_number p n)) ≡ true
        → Based t.state
        (after_step (session_after t (top_first p n all)) (top_number p n)).state (round_of p n)
        (Some (decimal n)) (has_come t.state all)
    in_later is taken last =
        let one = scoped taken in
        let two = number_step t1 (round_of p n) top (decimal n) (has_come t.state all)
        one.consistent one.place last in
        record {
          consistent = two.consistent;
          grows = grows_on t.state t1.state (after_step t1 (top_number p n)).state one.grows
              two.grows;
          place = two.place;
          others = λ other group plain apart.
              two.others other group plain apart
              ∙ one.others other group (left group plain apart);
        }

-- The base after the steps for it.
pub base_made : (p : State) (t : Session) (n : ℕ) (all : Option Until) → Comes p t → n < 2 ^ 64
    → AreTaken t (base_steps p n all)
    → Based t.state (session_after t (base_steps p n all)).state (base_name p n all)
    (night_text n) (is_base_over p n all)
base_made p t n all comes small taken = by_kept (kept_base p n all) refl taken
  where
    come : (until : Option Until) → has_come t.state until ≡ has_come p until
    come None = refl
    come (Some until) = ap (nat_le until.moment) comes.clock

    by_kept : (o : Option ℕ) → kept_base p n all ≡ o
        → AreTaken t (cond (is_none o) (top_steps p n all) [])
        → Based t.state (session_after t (cond (is_none o) (top_steps p n all) [])).state
        (base_named p n o) (night_text n)
        (option_map_or (is_done p.tree.scopes) o (has_come p all))
    by_kept None is taken =
        subst (λ (b : Bool). Based t.state (session_after t (top_steps p n all)).state
        (new_base p n) (night_text n) b) (come all)
        (top_made p t n all comes.consistent small taken)
    by_kept (Some s) is taken =
        let last : base_of p n ≡ Some s =
        kept_is (λ x. is_replaced p (top_above p n x) (is_changed p (top_above p n x) all))
        (base_of p n) s is in
        record {
          consistent = comes.consistent;
          grows = grows_nowhere t.state;
          place = comes.places (name_at p s) (night_text n) (is_done p.tree.scopes s)
              (base_place p n s last);
          others = λ other group plain apart. refl;
        }

-- ---- the groups

-- The groups below this number have what they need, and the others are as they were.
pub record AreRoomed (p t u : State) (n : ℕ) (all : Option Until) (groups : List (List ℕ))
    (untils : List (Option Until)) (most : ℕ) : Type 0 where
  pub consistent : IsConsistent u
  pub grows : Grows t u
  pub housed : (g : ℕ) (group : List ℕ) → g < most → slice_get groups g ≡ Some group
      → Housed u (night_text n) group
  pub last : last_night u ≡ last_night t
  pub made : (g : ℕ) (group : List ℕ) → g < most → slice_get groups g ≡ Some group
      → is_over u (night_text n) group ≡ is_over_after p n all group (until_at untils g)
  pub left : (g : ℕ) (group : List ℕ) → most ≤ g → slice_get groups g ≡ Some group
      → is_over u (night_text n) group ≡ is_over p (night_text n) group

-- One group more, with number k.
one_more : (p : State) (t u v : Session) (n : ℕ) (all : Option Until) (groups : List (List ℕ))
    (untils : List (Option Until)) (k : ℕ) (group : List ℕ) → AreNamed groups
    → slice_get groups k ≡ Some group
    → AreRoomed p t.state u.state n all groups untils k
    → Roomed u.state v.state n group
    (cond (is_kept p n all group (until_at untils k)) (is_over u.state (night_text n) group)
    (is_base_over p n all || has_come p (until_at untils k)))
    → AreRoomed p t.state v.state n all groups untils (suc k)
one_more p t u v n all groups untils k group named at before here = record {
  consistent = here.consistent;
  grows = grows_on t.state u.state v.state before.grows here.grows;
  last = here.last ∙ before.last;
  housed = λ g other less there. elim (cases_eq g k) [
    | inl same ↦
        let it : group ≡ other =
        same_Some group other (sym at ∙ ap (slice_get groups) (sym same) ∙ there) in
        subst (λ (x : List ℕ). Housed v.state (night_text n) x) it here.housed
    | inr apart ↦
        housed_stays u.state v.state (night_text n) other here.grows
        (before.housed g other (omega (arith, less, apart)) there)
  ];
  made = λ g other less there. elim (cases_eq g k) [
    | inl same ↦
        let it : group ≡ other =
        same_Some group other (sym at ∙ ap (slice_get groups) (sym same) ∙ there) in
        subst (λ (m : ℕ). is_over v.state (night_text n) other
        ≡ is_over_after p n all other (until_at untils m)) (sym same)
        (subst (λ (x : List ℕ). is_over v.state (night_text n) x
        ≡ is_over_after p n all x (until_at untils k)) it
        (here.over_is
        ∙ ap (λ b. cond (is_kept p n all group (until_at untils k)) b
        (is_base_over p n all || has_come p (until_at untils k)))
        (before.left k group (omega arith) at)))
    | inr apart ↦
        other_stays g other there apart
        ∙ before.made g other (omega (arith, less, apart)) there
  ];
  left = λ g other more there.
      let apart : g ≡ k → ⊥ = λ same. omega (arith, more, same) in
      other_stays g other there apart ∙ before.left g other (omega (arith, more)) there;
}
  where
    other_stays : (g : ℕ) (other : List ℕ) → slice_get groups g ≡ Some other → (g ≡ k → ⊥)
        → is_over v.state (night_text n) other ≡ is_over u.state (night_text n) other
    other_stays g other there apart =
        here.others (night_text n) other (named.plain g other there)
        (λ same. apart (named.apart g k other there (at ∙ ap (λ (x : List ℕ). Some x) same)))

pub rooms_made : (p : State) (t : Session) (n : ℕ) (all : Option Until) (base : List ℕ)
    (groups : List (List ℕ)) (untils : List (Option Until)) (k : ℕ) → Comes p t → n < 2 ^ 64
    → AreNamed groups → Place t.state base (night_text n) (is_base_over p n all)
    → ((g : ℕ) (group : List ℕ) → slice_get groups g ≡ Some group
    → is_over t.state (night_text n) group ≡ is_over p (night_text n) group)
    → AreTaken t (rooms_below p n base (is_none (kept_base p n all)) groups untils k)
    → AreRoomed p t.state
    (session_after t (rooms_below p n base (is_none (kept_base p n all)) groups untils k)).state n
    all groups untils k
rooms_made p t n all base groups untils zero comes small named place same taken = record {
  consistent = comes.consistent;
  grows = grows_nowhere t.state;
  housed = λ g group less at. absurd (omega (arith, less));
  last = refl;
  made = λ g group less at. absurd (omega (arith, less));
  left = λ g group more at. same g group at;
}
rooms_made p t n all base groups untils (suc k) comes small named place same taken =
    by_group (slice_get groups k) refl taken
    (λ first. rooms_made p t n all base groups untils k comes small named place same first)
  where
    moved : Bool
    moved = is_none (kept_base p n all)

    before : List Step
    before = rooms_below p n base (is_none (kept_base p n all)) groups untils k

    here : List ℕ → List Step
    here group =
        room_steps p n base (is_none (kept_base p n all)) group (until_at untils k)

    by_group : (o : Option (List ℕ)) → slice_get groups k ≡ o
        → AreTaken t (before ++ option_map_or here o [])
        → (AreTaken t before
        → AreRoomed p t.state (session_after t before).state n all groups untils k)
        → AreRoomed p t.state (session_after t (before ++ option_map_or here o [])).state n all
        groups untils (suc k)
    by_group o at taken first =
        let parts = taken_join before (option_map_or here o []) t taken in
        subst (λ (x : Session). AreRoomed p t.state x.state n all groups untils (suc k))
        (sym (steps_join before (option_map_or here o []) t))
        (by_option o at (first parts.0) parts.1)
      where
        u : Session
        u = session_after t before

        by_option : (o : Option (List ℕ)) → slice_get groups k ≡ o
            → AreRoomed p t.state u.state n all groups untils k
            → AreTaken u (option_map_or here o [])
            → AreRoomed p t.state (session_after u (option_map_or here o [])).state n all groups
            untils (suc k)
        by_option None at it taken = record {
          consistent = it.consistent;
          grows = it.grows;
          last = it.last;
          housed = λ g group less there. elim (cases_eq g k) [
            | inl same ↦ absurd (none_here (sym at ∙ ap (slice_get groups) (sym same) ∙ there))
            | inr apart ↦ it.housed g group (omega (arith, less, apart)) there
          ];
          made = λ g group less there. elim (cases_eq g k) [
            | inl same ↦ absurd (none_here (sym at ∙ ap (slice_get groups) (sym same) ∙ there))
            | inr apart ↦ it.made g group (omega (arith, less, apart)) there
          ];
          left = λ g group more there. it.left g group (omega (arith, more)) there;
        }
          where
            none_here : {group : List ℕ} → None ≡ Some group → ⊥
            none_here e = cc
        by_option (Some group) at it taken =
            one_more p t u (session_after u (here group)) n all groups untils k group named at it
            (room_made p u n group base (until_at untils k) moved (is_base_over p n all)
            (comes_on p t u comes it.consistent it.grows) small (named.plain k group at)
            (place_stays t.state u.state base (night_text n) (is_base_over p n all) it.grows place)
            taken)

-- ---- the opening

-- The state after the withdrawals comes from the one before.
pub after_withdrawals : (p : State) (t : Session) (k : ℕ) → IsConsistent t.state
    → Withdrawn p t.state k → Comes p t
after_withdrawals p t k consistent it = record {
  consistent = consistent;
  clock = ap (λ (tree : TreeState). tree.clock) it.tree;
  places = λ name night over place. record {
    place = place.place;
    row = place.row;
    found = ap (λ (tree : TreeState). slice_get tree.scopes place.place) it.tree ∙ place.found;
    called = place.called;
    of = ap (λ (tree : TreeState). is_same
        (night_of (record p { tree = tree }) place.place) night) it.tree ∙ place.of;
    done = ap (λ (tree : TreeState). is_done tree.scopes place.place) it.tree ∙ place.done;
  };
  housed = λ night group own.
      let less : own.number < length p.work.groups = own.within in
      record {
        number = own.number;
        within = omega (arith, less, it.groups);
        owned = it.owned night group own.number ∙ own.owned;
      };
}

pub openings_open : OpeningsOpen
openings_open s n groups untils all opening =
    subst (λ (x : Session). IsOpen p x.state n groups untils all) (sym joined) here
  where
    p : State
    p = s.state

    w : List Step
    w = withdrawals_below s.state (length s.state.work.tasks)

    b : List Step
    b = base_steps s.state n all

    r : List Step
    r =
        rooms_below s.state n (base_name s.state n all) (is_none (kept_base s.state n all)) groups
        untils (length groups)

    f : List Step
    f = step.Flush ∷ []

    t0 : Session
    t0 = session_after s w

    t1 : Session
    t1 = session_after t0 b

    t2 : Session
    t2 = session_after t1 r

    joined : session_after s (opening_of s.state n groups untils all) ≡ t2
    joined =
        steps_join (w ++ b ++ r) f s ∙ steps_join (w ++ b) r s
        ∙ ap (λ (x : Session). session_after x r) (steps_join w b s)

    here : IsOpen p t2.state n groups untils all
    here =
        let one = taken_join (w ++ b ++ r) f s opening.taken in
        let two = taken_join (w ++ b) r s one.0 in
        let three = taken_join w b s two.0 in
        let taken_r : AreTaken t1 r =
        subst (λ (x : Session). AreTaken x r) (steps_join w b s) two.1 in
        let withdrawn = all_withdrawn s opening.bare three.0 in
        let comes : Comes p t0 =
        after_withdrawals p t0 (length p.work.tasks) (consistent_after s w opening.consistent)
        withdrawn in
        let based = base_made p t0 n all comes opening.number three.1 in
        let left = λ (g : ℕ) (group : List ℕ) (at : slice_get groups g ≡ Some group).
        based.others (night_text n) group (opening.named.plain g group at)
        (λ same. opening.named.free g (at ∙ ap (λ (x : List ℕ). Some x) (sym same)))
        ∙ over_by_tree p t0.state withdrawn.tree (night_text n) group in
        let roomed = rooms_made p t1 n all (base_name p n all) groups untils (length groups)
        (comes_on p t0 t1 comes based.consistent based.grows) opening.number opening.named
        based.place left taken_r in
        let grows : Grows t0.state t2.state =
        grows_on t0.state t1.state t2.state based.grows roomed.grows in
        let stays : HasBase p n → HasBase t0.state n = λ had. record {
          number = had.number;
          within = subst (λ (tree : TreeState). had.number < length tree.scopes)
              (sym withdrawn.tree) had.within;
          is = ap (λ (tree : TreeState). is_base (record p { tree = tree }) n had.number)
              withdrawn.tree ∙ had.is;
        } in
        record {
          consistent = roomed.consistent;
          bare = grows.bare withdrawn.bare;
          none_fresh = λ m.
              ap (λ (tasks : List Task). option_map_or (λ (task : Task). is_fresh task.stage)
              (slice_get tasks m) false) grows.tasks
              ∙ none_waits p t0.state withdrawn m;
          ran = λ m runs.
              withdrawn.ran m (sym (ap (λ (tasks : List Task).
              option_map_or (λ (task : Task). is_running task.stage) (slice_get tasks m) false)
              grows.tasks) ∙ runs);
          housed = λ g group at.
              let own : Housed t2.state (night_text n) group =
              roomed.housed g group (slice_get_within groups g group at) at in
              last_found (is_owned t2.state (night_text n) group) (length t2.state.work.groups)
              own.number own.within own.owned;
          known = λ ended night group key.
              grows.known ended night group key ∙ withdrawn.known ended night group key;
          over = λ g group at. roomed.made g group (slice_get_within groups g group at) at;
          last = λ least small.
              roomed.last ∙ (base_stood p t0 n all comes.consistent least stays three.1).last small
              ∙ ap (λ m. max m n) (last_by_tree p t0.state withdrawn.tree);
          based = λ least.
              let base = base_stays t1.state t2.state n roomed.grows
              (base_stood p t0 n all comes.consistent least stays three.1).there in
              last_found (is_base t2.state n) (length t2.state.tree.scopes) base.number base.within
              base.is;
        }
