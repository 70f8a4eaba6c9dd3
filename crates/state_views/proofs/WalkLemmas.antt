-- The step from one node of a tree to the next one that is drawn, and the branches above each node.
use Rattle.std.specs.Prelude.{◌≡◌, ◌≤◌, ◌<◌, ◌+◌, ◌-◌, ◌*◌, ℕ, zero, suc, Bool, true, false, nat_eq}
use Rattle.std.specs.Prelude.{if◌then◌else◌, List, [], ◌∷◌, ◌++◌, length, reverse, slice_get, take}
use Rattle.std.specs.Prelude.{Some, None, codes, drop}
use Rattle.std.specs.List.{flat_map}
use Rattle.std.specs.Option.{option_map_or}
use Rattle.std.proofs.Common.{refl, sym, ap, ◌∙◌, arith, subst, append_assoc, append-nil}
use Rattle.std.proofs.Common.{get_or, length-append}
use Rattle.std.proofs.lemmas.Grind.{flat_map-append}
use Rattle.std.proofs.Math.Dec.{eqb-suc-zero}
use Rattle.std.proofs.lemmas.List.{drop_all, length-drop, reverse-append}
use Rattle.std.proofs.Math.Seq.{drop-cons, take-append_seam}
use Rattle.std.proofs.lemmas.Bool.{eq-eqb, ne_eqb}
use Rattle.state_views.specs.Trees.{above, bar, behind, children, later_siblings}
use Rattle.state_views.specs.Trees.{parent_of, passing, places_of, upwards}
use Rattle.state_views.specs.Walks.{AreRising, IsAt, after, all_below, drawn_from, forest}
use Rattle.state_views.proofs.TreeLemmas.{AreWithin, after_same, childless, first_after}
use Rattle.state_views.proofs.TreeLemmas.{first_child, places_within}

-- ---- the first of a row

-- A row begins with this number.
pub record Begins (row : List ℕ) (n : ℕ) : Type 0 where
  pub rest : List ℕ
  pub row_is : row ≡ n ∷ rest

pub begins : (row : List ℕ) (n : ℕ) → slice_get row 0 ≡ Some n → Begins row n
begins [] n e = absurd (cc)
begins (m ∷ rest) n e =
    let same : m ≡ n = cc in record { rest = rest; row_is = ap (λ k. k ∷ rest) same }

pub empty : (row : List ℕ) → slice_get row 0 ≡ None → row ≡ []
empty [] e = refl
empty (m ∷ rest) e = absurd (cc)

-- ---- a row that is looked through

-- This place has another number, so the places after it are left.
pub places_past : (parent place : ℕ) (row : List ℕ) → place < length row
    → (get_or row place 0 ≡ parent → ⊥)
    → places_of parent place (drop place row)
    ≡ places_of parent (suc place) (drop (suc place) row)
places_past parent place row less other =
    let later = places_of parent (suc place) (drop (suc place) row) in
    ap (places_of parent place) (drop-cons row place 0 less)
    ∙ ap (λ b. if b then place ∷ later else later) (ne_eqb (get_or row place 0) parent other)

-- This place has the number, so it is the first one.
pub places_here : (parent place : ℕ) (row : List ℕ) → place < length row
    → get_or row place 0 ≡ parent
    → slice_get (places_of parent place (drop place row)) 0 ≡ Some place
places_here parent place row less same =
    let later = places_of parent (suc place) (drop (suc place) row) in
    ap (λ ns. slice_get ns 0)
    (ap (places_of parent place) (drop-cons row place 0 less)
    ∙ ap (λ b. if b then place ∷ later else later) (eq-eqb (get_or row place 0) parent same))

-- There is no place left.
pub places_end : (parent place : ℕ) (row : List ℕ) → length row ≤ place
    → slice_get (places_of parent place (drop place row)) 0 ≡ None
places_end parent place row past =
    ap (λ ns. slice_get (places_of parent place ns) 0) (drop_all place row past)

-- ---- the first node after a node that has this parent

-- The found node comes after the node and has this parent, and all others that do come after it.
pub record IsFound (parents : List ℕ) (n parent found : ℕ) : Type 0 where
  pub after_it : n < found
  pub within : found < length parents
  pub parent_is : parent_of parents found ≡ parent
  pub row_is : behind parents n parent ≡ found ∷ later_siblings parents found

first_within : (low high : ℕ) (row : List ℕ) (n : ℕ) (rest : List ℕ)
    → row ≡ n ∷ rest → AreWithin low high row → (low ≤ n) × (n < high)
first_within low high [] n rest e all = absurd (cc)
first_within low high (m ∷ ms) n rest e all =
    let same : m ≡ n = cc in
    (subst (λ (k : ℕ). low ≤ k) same all.0, subst (λ (k : ℕ). k < high) same all.1)

pub found : (parents : List ℕ) (n parent m : ℕ) → n < length parents
    → slice_get (behind parents n parent) 0 ≡ Some m → IsFound parents n parent m
found parents n parent m less e =
    let row = begins (behind parents n parent) m e in
    let long = length-drop (suc n) parents in
    let all = first_within (suc n) (length parents) (behind parents n parent) m row.rest row.row_is
    (places_within parent (suc n) (length parents) _ (omega (arith, less, long))) in
    let its = first_after parents n parent m row.rest row.row_is in
    let same : parent_of parents m ≡ parent =
    ap (λ o. option_map_or (λ (k : ℕ). k) o 0) its.0 in
    record {
      after_it = omega (arith, all.0);
      within = all.1;
      parent_is = same;
      row_is = row.row_is
          ∙ ap (λ ms. m ∷ ms) (its.1 ∙ ap (behind parents m) (sym same));
    }

-- ---- what is drawn from a node on

-- After a node with children the first child is drawn.
pub child_next : (parents : List ℕ) (n child : ℕ) → AreRising parents → n < length parents
    → IsFound parents n n child → drawn_from parents n ≡ n ∷ drawn_from parents child
child_next parents n zero rising less p = absurd (omega (arith, p.after_it))
child_next parents n (suc c) rising less p =
    let rest = later_siblings parents (suc c) in
    ap (λ x. x ++ after n parents n) (first_child parents n (suc c) rest less p.row_is)
    ∙ ap (λ x. n ∷ x)
    (append_assoc (all_below parents (suc c)) (forest parents rest) (after n parents n)
    ∙ ap (λ x. all_below parents (suc c) ++ (forest parents rest ++ x))
    (after_same n c n parents rising (omega arith) (omega (arith, p.after_it))
    ∙ ap (after c parents) (sym p.parent_is)))

-- After a node without a child, the node that follows it is drawn.
pub none_next : (parents : List ℕ) (n : ℕ) → n < length parents → children parents n ≡ []
    → drawn_from parents n ≡ n ∷ after n parents n
none_next parents n less none =
    ap (λ x. x ++ after n parents n) (childless parents n less none)

-- A node with later siblings is followed by the first of these.
pub sibling_next : (parents : List ℕ) (n next : ℕ) → AreRising parents → 0 < n
    → IsFound parents n (parent_of parents n) next
    → after n parents n ≡ drawn_from parents next
sibling_next parents zero next rising some p = absurd (omega (arith, some))
sibling_next parents (suc n) zero rising some p = absurd (omega (arith, p.after_it))
sibling_next parents (suc n) (suc m) rising some p =
    let rest = later_siblings parents (suc m) in
    let less = rising (suc n) some in
    ap (λ ns. forest parents ns ++ after n parents (parent_of parents (suc n))) p.row_is
    ∙ append_assoc (all_below parents (suc m)) (forest parents rest)
    (after n parents (parent_of parents (suc n)))
    ∙ ap (λ x. all_below parents (suc m) ++ (forest parents rest ++ x))
    (after_same n m (parent_of parents (suc n)) parents rising
    (omega (arith, less)) (omega (arith, less, p.after_it))
    ∙ ap (after m parents) (sym p.parent_is))

-- The last of several siblings is followed by the node that follows their parent.
pub last_next : (parents : List ℕ) (n : ℕ) → AreRising parents → 0 < n
    → later_siblings parents n ≡ []
    → after n parents n ≡ after (parent_of parents n) parents (parent_of parents n)
last_next parents zero rising some none = absurd (omega (arith, some))
last_next parents (suc n) rising some none =
    let p = parent_of parents (suc n) in
    let less = rising (suc n) some in
    ap (λ ns. forest parents ns ++ after n parents p) none
    ∙ after_same n p p parents rising (omega (arith, less)) (omega arith)

-- ---- what is drawn above a node

upwards_one : (most n : ℕ) (parents : List ℕ)
    → upwards (suc most) parents (suc n)
    ≡ suc n ∷ upwards most parents (parent_of parents (suc n))
upwards_one most n parents =
    ap (λ b. if b then [] else (suc n ∷ upwards most parents (parent_of parents (suc n))))
    (eqb-suc-zero n)

-- Bounds that are both enough give the same way upwards.
upwards_same : (a b n : ℕ) (parents : List ℕ) → AreRising parents → n ≤ a → n ≤ b
    → upwards a parents n ≡ upwards b parents n
upwards_same zero zero n parents rising p q = refl
upwards_same zero (suc b) zero parents rising p q = refl
upwards_same zero (suc b) (suc n) parents rising p q = absurd (omega (arith, p))
upwards_same (suc a) zero zero parents rising p q = refl
upwards_same (suc a) zero (suc n) parents rising p q = absurd (omega (arith, q))
upwards_same (suc a) (suc b) zero parents rising p q = refl
upwards_same (suc a) (suc b) (suc n) parents rising p q =
    let less = rising (suc n) (omega arith) in
    upwards_one a n parents
    ∙ ap (λ ns. suc n ∷ ns)
    (upwards_same a b (parent_of parents (suc n)) parents rising
    (omega (arith, p, less)) (omega (arith, q, less)))
    ∙ sym (upwards_one b n parents)

turned : (f : ℕ → List ℕ) (n : ℕ) (ns : List ℕ)
    → flat_map f (reverse (n ∷ ns)) ≡ flat_map f (reverse ns) ++ f n
turned f n ns =
    ap (flat_map f) (reverse-append (n ∷ []) ns)
    ∙ flat_map-append f (reverse ns) (n ∷ [])
    ∙ ap (λ x. flat_map f (reverse ns) ++ x) (append-nil (f n))

-- Nothing is drawn above root's children.
pub above_top : (parents : List ℕ) (n : ℕ) → parent_of parents n ≡ 0 → above parents n ≡ []
above_top parents zero e = refl
above_top parents (suc n) e =
    ap (λ m. flat_map (passing parents) (reverse (upwards (suc n) parents m))) e

-- Above any other node the branches of its parent are drawn, and then the text for the parent.
pub above_step : (parents : List ℕ) (n m : ℕ) → AreRising parents → 0 < n → 0 < m
    → parent_of parents n ≡ m → above parents n ≡ above parents m ++ passing parents m
above_step parents zero m rising some more e = absurd (omega (arith, some))
above_step parents (suc n) zero rising some more e = absurd (omega (arith, more))
above_step parents (suc n) (suc m) rising some more e =
    let less = rising (suc n) some in
    let lower = rising (suc m) more in
    let draw = λ (ns : List ℕ). flat_map (passing parents) (reverse ns) in
    ap (λ k. draw (upwards (suc n) parents k)) e
    ∙ ap draw (upwards_one n m parents)
    ∙ ap (λ ns. draw (suc m ∷ ns))
    (upwards_same n (suc m) (parent_of parents (suc m)) parents rising
    (omega (arith, less, lower, e)) (omega (arith, lower)))
    ∙ turned (passing parents) (suc m) (upwards (suc m) parents (parent_of parents (suc m)))

-- Siblings have the same branches above them.
pub above_beside : (parents : List ℕ) (n m : ℕ) → AreRising parents → 0 < n → 0 < m
    → parent_of parents m ≡ parent_of parents n → above parents n ≡ above parents m
above_beside parents n m rising some more e =
    let less = rising n some in
    let lower = rising m more in
    let draw = λ (ns : List ℕ). flat_map (passing parents) (reverse ns) in
    ap (λ k. draw (upwards n parents k)) (sym e)
    ∙ ap draw (upwards_same n m (parent_of parents m) parents rising
    (omega (arith, less, e)) (omega (arith, lower)))

-- ---- its length

one_short : (is_last : Bool) → length (if is_last then codes "  " else bar) ≤ 4
one_short true = omega arith
one_short false = omega arith

pub passing_short : (parents : List ℕ) (n : ℕ) → length (passing parents n) ≤ 4
passing_short parents n = one_short (nat_eq (length (later_siblings parents n)) 0)

upwards_short : (most n : ℕ) (parents : List ℕ) → AreRising parents
    → length (flat_map (passing parents) (reverse (upwards most parents n))) ≤ 4 * n
upwards_short zero n parents rising = omega arith
upwards_short (suc most) zero parents rising = omega arith
upwards_short (suc most) (suc n) parents rising =
    let p = parent_of parents (suc n) in
    let less = rising (suc n) (omega arith) in
    let up = upwards most parents p in
    let prefix = flat_map (passing parents) (reverse up) in
    let short = upwards_short most p parents rising in
    let one = passing_short parents (suc n) in
    let long = ap length
    (ap (λ ns. flat_map (passing parents) (reverse ns)) (upwards_one most n parents)
    ∙ turned (passing parents) (suc n) up) in
    omega (arith, less, short, one, long, length-append prefix (passing parents (suc n)))

pub above_short : (parents : List ℕ) (n : ℕ) → AreRising parents → 0 < n
    → length (above parents n) ≤ 4 * n
above_short parents n rising some =
    let less = rising n some in
    let short = upwards_short n (parent_of parents n) parents rising in
    omega (arith, less, short)

-- ---- steps

-- The next sibling comes next.
pub beside_next : (parents : List ℕ) (start n parent next : ℕ) (text : List ℕ)
    → AreRising parents → 0 < n → IsAt parents n text → parent ≡ parent_of parents n
    → Some next ≡ slice_get (behind parents n parent) 0
    → after start parents start ≡ after n parents n
    → after start parents start ≡ drawn_from parents next
beside_next parents start n parent next text rising some at same e so =
    so ∙ sibling_next parents n next rising some
    (found parents n (parent_of parents n) next at.within
    (sym (e ∙ ap (λ k. slice_get (behind parents n k) 0) same)))

pub beside_at : (parents : List ℕ) (n parent next : ℕ) (text : List ℕ)
    → AreRising parents → 0 < n → IsAt parents n text → parent ≡ parent_of parents n
    → Some next ≡ slice_get (behind parents n parent) 0 → IsAt parents next text
beside_at parents n parent next text rising some at same e =
    let p = found parents n parent next at.within (sym e) in
    record {
      within = p.within;
      text_is = at.text_is
          ∙ above_beside parents n next rising some (omega (arith, p.after_it))
          (p.parent_is ∙ same);
    }

-- If there is none, the node is followed by the node that follows its parent.
pub climbs : (parents : List ℕ) (start n parent : ℕ) → AreRising parents → 0 < n
    → parent ≡ parent_of parents n
    → None ≡ slice_get (behind parents n parent) 0
    → after start parents start ≡ after n parents n
    → after start parents start ≡ after parent parents parent
climbs parents start n parent rising some same e so =
    so
    ∙ last_next parents n rising some
    (empty (later_siblings parents n) (sym (e ∙ ap (λ k. slice_get (behind parents n k) 0) same)))
    ∙ ap (λ k. after k parents k) (sym same)

-- The text for a node is drawn above its children.
pub enters : (parents : List ℕ) (n child : ℕ) (text drawn new : List ℕ)
    → AreRising parents → 0 < n → IsAt parents n text
    → slice_get (children parents n) 0 ≡ Some child
    → drawn ≡ passing parents n → new ≡ text ++ drawn → IsAt parents child new
enters parents n child text drawn new rising some at e piece made =
    let p = found parents n n child at.within e in
    record {
      within = p.within;
      text_is = made ∙ ap (λ x. x ++ drawn) at.text_is ∙ ap (λ x. above parents n ++ x) piece
          ∙ sym (above_step parents child n rising (omega (arith, p.after_it)) some p.parent_is);
    }

pub enters_top : (parents : List ℕ) (n child : ℕ) (text : List ℕ) → n ≡ 0
    → IsAt parents n text → slice_get (children parents n) 0 ≡ Some child
    → IsAt parents child text
enters_top parents n child text top at e =
    let p = found parents n n child at.within e in
    record {
      within = p.within;
      text_is = at.text_is ∙ ap (above parents) top
          ∙ sym (above_top parents child (p.parent_is ∙ top));
    }

pub leaves : (parents : List ℕ) (n m k : ℕ) (text drawn new : List ℕ)
    → AreRising parents → 0 < n → 0 < m → m ≡ parent_of parents n → IsAt parents n text
    → drawn ≡ passing parents m → k ≡ length text - length drawn → new ≡ take k text
    → IsAt parents m new
leaves parents n m k text drawn new rising some more same at piece short made =
    let whole = at.text_is ∙ above_step parents n m rising some more (sym same) in
    let less = rising n some in
    let long = ap length whole in
    let sum = length-append (above parents m) (passing parents m) in
    let cut : k ≡ length (above parents m) =
    omega (arith, short, long, sum, ap length piece) in
    record {
      within = omega (arith, less, same, at.within);
      text_is = made ∙ ap (take k) whole
          ∙ ap (λ i. take i (above parents m ++ passing parents m)) cut
          ∙ take-append_seam (above parents m) (passing parents m);
    }

-- The text for a node fits.
pub entered_room : (parents : List ℕ) (n : ℕ) (text drawn : List ℕ)
    → AreRising parents → 0 < n → IsAt parents n text → length parents ≤ 12416
    → drawn ≡ passing parents n → length text + length drawn ≤ 49664
entered_room parents n text drawn rising some at few piece =
    let short = above_short parents n rising some in
    let one = passing_short parents n in
    omega (arith, short, one, ap length at.text_is, ap length piece, at.within, few)
