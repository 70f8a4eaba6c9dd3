-- After an opening a night has a base.
use Rattle.std.proofs.Common.{◌≡◌, ◌<◌, ◌≤◌, ◌∙◌, ◌&&◌, ◌||◌, ℕ, Bool, true, false, cond}
use Rattle.std.proofs.Common.{List, [], ◌++◌, Option, Some, None, length, slice_get, codes}
use Rattle.std.proofs.Common.{take}
use Rattle.std.proofs.Common.{nat_le, ap, max, refl, sym, subst, arith}
use Rattle.std.proofs.Math.Bool.{or-true}
use Rattle.std.proofs.Math.Nat.{max-eq_left}
use Rattle.std.proofs.lemmas.Bool.{and_parts, false≢true, le-leb, leb-true}
use Rattle.std.proofs.lemmas.Option.{slice_get_within}
use Rattle.std.proofs.lemmas.Slice.Eq.{bytes_eq-Decides}
use Rattle.std.specs.Fmt.{decimal, digits}
use Rattle.std.specs.Option.{option_map_or}
use Rattle.std.specs.Prelude.{is_none}
use Rattle.std.specs.Str.{bytes_eq}
use Rattle.run_model.proofs.Common.{and_from}
use Rattle.run_model.specs.Allowed.{takes_cause}
use Rattle.run_model.specs.declared.commands.Wish.TheVariants as wish
use Rattle.run_model.specs.declared.scopes.Kind.{Kind}
use Rattle.run_model.specs.declared.scopes.Kind.TheVariants as kind
use Rattle.run_model.specs.declared.scopes.Scope.{Scope}
use Rattle.run_model.specs.Rules.{IsConsistent}
use Rattle.run_model.specs.Scopes.{text_under}
use Rattle.run_model.specs.Session.{Session, after_step, reply_of_step, session_after}
use Rattle.run_model.specs.State.{State}
use Rattle.night_drive.specs.Names.{is_same, night_of}
use Rattle.night_drive.proofs.Searching.{last_passes, last_within}
use Rattle.drive_nights.specs.declared.nights.TheConstants.{MOST_NIGHTS}
use Rattle.drive_nights.specs.declared.untils.Until.{Until}
use Rattle.drive_nights.specs.Effects.{AreTaken, has_come, is_taken}
use Rattle.drive_nights.specs.Names.{free_round, round_name}
use Rattle.drive_nights.specs.Nights.{base_of, is_base, is_base_row, is_first_top, night_text}
use Rattle.drive_nights.specs.Nights.{last_night, night_at, number_in, top_above}
use Rattle.drive_nights.specs.Openings.{base_steps, new_top, top_steps}
use Rattle.drive_nights.specs.Rooms.{derive, is_changed, is_replaced, kept_base}
use Rattle.drive_nights.proofs.Making.{Grows}
use Rattle.drive_nights.proofs.Numbering.{greatest_least, none_is_later, number_read}
use Rattle.drive_nights.proofs.Placing.{Place, Stands, derive_greatest, derive_taken, number_stands}
use Rattle.drive_nights.proofs.Placing.{root_place}
use Rattle.drive_nights.proofs.Rooming.{Scoped, kept_is, scope_made}
use Rattle.drive_nights.proofs.Topping.{round_of, top_by, top_first, top_number}

-- A scope can be the base of the night.
pub record HasBase (q : State) (n : ℕ) : Type 0 where
  pub number : ℕ
  pub within : number < length q.tree.scopes
  pub is : is_base q n number ≡ true

pub base_stays : (p q : State) (n : ℕ) → Grows p q → HasBase p n → HasBase q n
base_stays p q n grows it =
    let less : it.number < length p.tree.scopes = it.within in
    record {
      number = it.number;
      within = omega (arith, less, grows.longer);
      is = ap (λ (o : Option Scope). option_map_or (is_base_row n) o false
          && is_same (night_of q it.number) (night_text n)) (grows.scopes it.number less)
          ∙ ap (λ (x : Option (List ℕ)). option_map_or (is_base_row n)
          (slice_get p.tree.scopes it.number) false && is_same x (night_text n))
          (grows.nights it.number less)
          ∙ it.is;
    }

-- A scope whose row can be that of a base, and which stands in the night.
base_at : (q : State) (n : ℕ) (name : List ℕ) (k : Kind) (it : Stands q name k (night_text n))
    → is_base_row n it.row ≡ true → HasBase q n
base_at q n name k it fits = record {
  number = it.place;
  within = slice_get_within q.tree.scopes it.place it.row it.found;
  is = and_from (option_map_or (is_base_row n) (slice_get q.tree.scopes it.place) false)
      (is_same (night_of q it.place) (night_text n))
      (ap (λ (o : Option Scope). option_map_or (is_base_row n) o false) it.found ∙ fits) it.of;
}

-- The base that is kept is one.
base_kept : (p : State) (n : ℕ) (all : Option Until) (s : ℕ) → kept_base p n all ≡ Some s
    → HasBase p n
base_kept p n all s is =
    let last : base_of p n ≡ Some s =
    kept_is (λ x. is_replaced p (top_above p n x) (is_changed p (top_above p n x) all))
    (base_of p n) s is in
    record {
      number = s;
      within = last_within (is_base p n) (length p.tree.scopes) s last;
      is = last_passes (is_base p n) (length p.tree.scopes) s last;
    }

-- ---- the first night

one_spelled : decimal 1 ≡ codes "1"
unfolding digits
one_spelled = refl

-- The name of a top of the first night, in any round.
pub first_top : (n k : ℕ) → 1 ≤ n → nat_le n 1 ≡ true
    → is_first_top (round_name (codes "night") n k) ≡ true
first_top n k least is =
    subst (λ (m : ℕ). is_first_top (round_name (codes "night") m k) ≡ true) one
    (by_round (nat_le k 1))
  where
    one : 1 ≡ n
    one = omega (arith, least, leb-true n 1 is)

    word : List ℕ
    word = codes "night--1-" ++ decimal k

    long : nat_le (length (codes "night--1-")) (length (codes "night--1-" ++ decimal k)) ≡ true
    long = le-leb 9 (length (codes "night--1-" ++ decimal k)) (omega arith)

    by_round : (b : Bool)
        → is_first_top (cond b (codes "night")
        (codes "night" ++ codes "--" ++ decimal 1 ++ codes "-" ++ decimal k)) ≡ true
    by_round true = refl
    by_round false =
        ap (λ xs. is_first_top (codes "night" ++ codes "--" ++ xs ++ codes "-" ++ decimal k))
        one_spelled
        ∙ ap (λ b. bytes_eq word (codes "night") || b)
        (and_from (nat_le (length (codes "night--1-")) (length word))
        (bytes_eq (take (length (codes "night--1-")) word) (codes "night--1-")) long refl)
        ∙ or-true (bytes_eq word (codes "night"))

first_there : (q : State) (n : ℕ) (top : List ℕ) → Stands q top kind.Cause (night_text n)
    → nat_le n 1 ≡ true → is_first_top top ≡ true → HasBase q n
first_there q n top it first called =
    base_at q n top kind.Cause it
    (ap (λ b. cond b (takes_cause it.row.kind && is_first_top it.row.name)
    (is_same (text_under (codes "night") it.row.kind) (night_text n))) first
    ∙ and_from (takes_cause it.row.kind) (is_first_top it.row.name) (ap takes_cause it.is)
    (ap is_first_top it.called ∙ called))

-- ---- later nights

later_there : (q : State) (n : ℕ) (name : List ℕ)
    → Stands q name (kind.Value (codes "night") (decimal n)) (night_text n)
    → nat_le n 1 ≡ false → HasBase q n
later_there q n name it later =
    base_at q n name (kind.Value (codes "night") (decimal n)) it
    (ap (λ b. cond b (takes_cause it.row.kind && is_first_top it.row.name)
    (is_same (text_under (codes "night") it.row.kind) (night_text n))) later
    ∙ ap (λ (k : Kind). is_same (text_under (codes "night") k) (night_text n)) it.is
    ∙ ap (λ b. is_same (Some (decimal n)) (cond b None (Some (decimal n)))) later
    ∙ (bytes_eq-Decides (decimal n) (decimal n)).1 refl)

-- ---- the last night

-- A night with a base isn't after the last one.
base_night : (q : State) (n : ℕ) → HasBase q n → 1 ≤ n → n ≤ MOST_NIGHTS → n ≤ last_night q
base_night q n it least small = by_number (nat_le n 1) refl
  where
    first : 1 ≤ last_night q
    first = greatest_least (night_at q) (length q.tree.scopes)

    by_night : (o : Option (List ℕ)) → night_of q it.number ≡ o
        → is_same o (Some (decimal n)) ≡ true → n ≤ last_night q
    by_night None at same = absurd (false≢true same)
    by_night (Some text) at same =
        subst (λ (m : ℕ). m ≤ last_night q)
        (ap number_in ((bytes_eq-Decides text (decimal n)).0 same) ∙ number_read n least small)
        (none_is_later q it.number text at)

    by_number : (b : Bool) → nat_le n 1 ≡ b → n ≤ last_night q
    by_number true is = omega (arith, first, leb-true n 1 is)
    by_number false is =
        let of = (and_parts
        (option_map_or (is_base_row n) (slice_get q.tree.scopes it.number) false)
        (is_same (night_of q it.number) (night_text n)) it.is).1 in
        by_night (night_of q it.number) refl
        (ap (λ b. is_same (night_of q it.number) (cond b None (Some (decimal n)))) (sym is) ∙ of)

-- A scope with the number of a night begins that.
number_last : (t : Session) (name top : List ℕ) (n : ℕ) (over : Bool) → IsConsistent t.state
    → Place t.state top None over
    → is_taken (reply_of_step t (derive name top (wish.Value (codes "night") (decimal n)))) ≡ true
    → 1 ≤ n → n ≤ MOST_NIGHTS
    → last_night (after_step t (derive name top (wish.Value (codes "night") (decimal n)))).state
    ≡ max (last_night t.state) n
number_last t name top n over consistent it taken least small =
    ap (λ (x : Session). last_night x.state)
    (derive_taken t name top (wish.Value (codes "night") (decimal n)) None over consistent.numbered
    it taken)
    ∙ derive_greatest t.state name it.place (kind.Value (codes "night") (decimal n))
    consistent.numbered
    ∙ ap (λ m. max (last_night t.state) m) (number_read n least small)

-- ---- the steps

-- After the steps for the top of night n the night has a base, and is the last one, unless there
-- was a later one.
pub record Stood (t u : State) (n : ℕ) : Type 0 where
  pub there : HasBase u n
  pub last : n ≤ MOST_NIGHTS → last_night u ≡ max (last_night t) n

-- A new top, and the base that comes with it.
top_stood : (p : State) (t : Session) (n : ℕ) (all : Option Until) → IsConsistent t.state
    → 1 ≤ n → AreTaken t (top_steps p n all)
    → Stood t.state (session_after t (top_steps p n all)).state n
top_stood p t n all consistent least taken =
    top_by (λ (x : Session) (name : List ℕ) (night : Option (List ℕ)). Stood t.state x.state n) p t
    n all taken in_first in_later
  where
    top : List ℕ
    top = new_top p n

    t1 : Session
    t1 = session_after t (top_first p n all)

    scoped : AreTaken t (top_first p n all)
        → Scoped t.state (session_after t (top_first p n all)).state (new_top p n) None
        (has_come t.state all)
    scoped taken =
        scope_made t (new_top p n) (codes "root") all None false consistent
        (root_place t.state consistent.numbered) taken

    in_first : nat_le n 1 ≡ true → AreTaken t (top_first p n all)
        → Stood t.state (session_after t (top_first p n all)).state n
    in_first is taken =
        let one = scoped taken in
        let stands : Stands t1.state top kind.Cause (night_text n) =
        subst (λ (x : Option (List ℕ)). Stands t1.state top kind.Cause x)
        (sym (ap (λ b. cond b None (Some (decimal n))) is)) one.stands in
        let once : 1 ≤ last_night t.state =
        greatest_least (night_at t.state) (length t.state.tree.scopes) in
        let below : n ≤ last_night t.state = omega (arith, once, leb-true n 1 is) in
        record {
          there = first_there t1.state n top stands is
              (first_top n (free_round p (codes "night") n) least is);
          last = λ small. one.last ∙ sym (max-eq_left below);
        }

    in_later : nat_le n 1 ≡ false → AreTaken t (top_first p n all)
        → is_taken (reply_of_step (session_after t (top_first p n all)) (top_number p n)) ≡ true
        → Stood t.state
        (after_step (session_after t (top_first p n all)) (top_number p n)).state n
    in_later is taken last =
        let one = scoped taken in
        let name : List ℕ = round_of p n in
        let t2 : Session = after_step t1 (top_number p n) in
        let made = number_stands t1 name top (decimal n) (has_come t.state all) one.consistent
        one.place last in
        let stands : Stands t2.state name (kind.Value (codes "night") (decimal n)) (night_text n) =
        subst (λ (x : Option (List ℕ)). Stands t2.state name
        (kind.Value (codes "night") (decimal n)) x)
        (sym (ap (λ b. cond b None (Some (decimal n))) is)) made in
        record {
          there = later_there t2.state n name stands is;
          last = λ small.
              number_last t1 name top n (has_come t.state all) one.consistent one.place last least
              small
              ∙ ap (λ m. max m n) one.last;
        }

-- The base that is kept, or a new one.
pub base_stood : (p : State) (t : Session) (n : ℕ) (all : Option Until) → IsConsistent t.state
    → 1 ≤ n → (HasBase p n → HasBase t.state n) → AreTaken t (base_steps p n all)
    → Stood t.state (session_after t (base_steps p n all)).state n
base_stood p t n all consistent least stays taken = by_kept (kept_base p n all) refl taken
  where
    by_kept : (o : Option ℕ) → kept_base p n all ≡ o
        → AreTaken t (cond (is_none o) (top_steps p n all) [])
        → Stood t.state (session_after t (cond (is_none o) (top_steps p n all) [])).state n
    by_kept None is taken = top_stood p t n all consistent least taken
    by_kept (Some s) is taken =
        let had : HasBase t.state n = stays (base_kept p n all s is) in
        record {
          there = had;
          last = λ small. sym (max-eq_left (base_night t.state n had least small));
        }
