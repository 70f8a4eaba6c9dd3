-- The order in which the nodes of a tree are drawn.
use Rattle.std.specs.Prelude.{◌≡◌, ◌≤◌, ◌<◌, ◌+◌, ℕ, zero, suc, Bool, true, false, nat_eq}
use Rattle.std.specs.Prelude.{if◌then◌else◌, List, [], ◌∷◌, ◌++◌, length, drop, slice_get, Some}
use Rattle.std.specs.List.{flat_map}
use Rattle.std.proofs.Common.{refl, sym, ap, ◌∙◌, arith}
use Rattle.std.proofs.lemmas.Bool.{eqb-true}
use Rattle.std.proofs.lemmas.List.{length-drop}
use Rattle.state_views.specs.Trees.{behind, children, drawn_below, later_siblings, parent_of}
use Rattle.state_views.specs.Trees.{places_of}
use Rattle.state_views.specs.Walks.{AreRising, after, all_below, forest}

-- These numbers are all from one up to below another.
abbrev pub AreWithin : ℕ → ℕ → List ℕ → Type 0
AreWithin low high [] = zero ≡ zero
AreWithin low high (n ∷ ns) = (low ≤ n) × (n < high) × AreWithin low high ns

lower : (a b high : ℕ) (ns : List ℕ) → a ≤ b → AreWithin b high ns → AreWithin a high ns
lower a b high [] le all = refl
lower a b high (n ∷ ns) le all =
    (omega (arith, le, all.0), all.1, lower a b high ns le all.2)

either : (low high : ℕ) (is_so : Bool) (xs ys : List ℕ) → AreWithin low high xs
    → AreWithin low high ys → AreWithin low high (if is_so then xs else ys)
either low high true xs ys p q = p
either low high false xs ys p q = q

-- The places that are found are within the searched row.
pub places_within : (parent place high : ℕ) (rest : List ℕ) → place + length rest ≤ high
    → AreWithin place high (places_of parent place rest)
places_within parent place high [] few = refl
places_within parent place high (first ∷ rest) few =
    let later = places_of parent (suc place) rest in
    let all = lower place (suc place) high later (omega arith)
    (places_within parent (suc place) high rest (omega (arith, few))) in
    either place high (nat_eq first parent) (place ∷ later) later
    (omega arith, omega (arith, few), all) all

pub children_within : (parents : List ℕ) (n : ℕ) → n < length parents
    → AreWithin (suc n) (length parents) (children parents n)
children_within parents n less =
    let long = length-drop (suc n) parents in
    places_within n (suc n) (length parents) (drop (suc n) parents) (omega (arith, less, long))

-- What agrees on each of these numbers agrees on all.
same_on : (f g : ℕ → List ℕ) (low high : ℕ) (ns : List ℕ) → AreWithin low high ns
    → ((n : ℕ) → low ≤ n → n < high → f n ≡ g n) → flat_map f ns ≡ flat_map g ns
same_on f g low high [] all same = refl
same_on f g low high (n ∷ ns) all same =
    ap (λ x. x ++ flat_map f ns) (same n all.0 all.1)
    ∙ ap (λ x. g n ++ x) (same_on f g low high ns all.2 same)

-- Any two numbers of levels that are great enough draw the same nodes.
pub drawn_same : (a b n : ℕ) (parents : List ℕ) → n < length parents
    → length parents ≤ a + n → length parents ≤ b + n
    → drawn_below a parents n ≡ drawn_below b parents n
drawn_same zero b n parents less p q = absurd (omega (arith, less, p))
drawn_same (suc a) zero n parents less p q = absurd (omega (arith, less, q))
drawn_same (suc a) (suc b) n parents less p q =
    ap (λ ns. n ∷ ns)
    (same_on (drawn_below a parents) (drawn_below b parents) (suc n) (length parents)
    (children parents n) (children_within parents n less)
    (λ m low high. drawn_same a b m parents high
    (omega (arith, p, low)) (omega (arith, q, low))))

-- ---- what is drawn after a node

-- The node comes first, and its children follow.
pub node_first : (parents : List ℕ) (n : ℕ) → n < length parents
    → all_below parents n ≡ n ∷ forest parents (children parents n)
node_first parents n less =
    drawn_same (length parents) (suc (length parents)) n parents less (omega arith) (omega arith)

-- Nothing is below a node without a child.
pub childless : (parents : List ℕ) (n : ℕ) → n < length parents → children parents n ≡ []
    → all_below parents n ≡ n ∷ []
childless parents n less none =
    node_first parents n less ∙ ap (λ ns. n ∷ forest parents ns) none

-- After a node with children the first of them is drawn, and all below it.
pub first_child : (parents : List ℕ) (n child : ℕ) (rest : List ℕ) → n < length parents
    → children parents n ≡ child ∷ rest
    → all_below parents n ≡ n ∷ (all_below parents child ++ forest parents rest)
first_child parents n child rest less some =
    node_first parents n less ∙ ap (λ ns. n ∷ forest parents ns) some

-- Any two bounds that are great enough give the same result.
pub after_same : (a b n : ℕ) (parents : List ℕ) → AreRising parents → n ≤ a → n ≤ b
    → after a parents n ≡ after b parents n
after_same zero zero n parents rising p q = refl
after_same zero (suc b) zero parents rising p q = refl
after_same zero (suc b) (suc n) parents rising p q = absurd (omega (arith, p))
after_same (suc a) zero zero parents rising p q = refl
after_same (suc a) zero (suc n) parents rising p q = absurd (omega (arith, q))
after_same (suc a) (suc b) zero parents rising p q = refl
after_same (suc a) (suc b) (suc n) parents rising p q =
    let less = rising (suc n) (omega arith) in
    ap (λ x. forest parents (later_siblings parents (suc n)) ++ x)
    (after_same a b (parent_of parents (suc n)) parents rising
    (omega (arith, p, less)) (omega (arith, q, less)))

-- ---- the places of a number

-- If this place is the first one, the row has the number there, and the others are found after it.
pub record IsFirst (parent place : ℕ) (row : List ℕ) (found : ℕ) (others : List ℕ) : Type 0 where
  pub skipped : ℕ
  pub place_is : found ≡ place + skipped
  pub number_is : slice_get row skipped ≡ Some parent
  pub others_are : others ≡ places_of parent (suc found) (drop (suc skipped) row)

one_on : (parent place first found : ℕ) (rest others : List ℕ)
    → IsFirst parent (suc place) rest found others
    → IsFirst parent place (first ∷ rest) found others
one_on parent place first found rest others p = record {
  skipped = suc p.skipped;
  place_is = omega (arith, p.place_is);
  number_is = p.number_is;
  others_are = p.others_are;
}

abbrev head_of : List ℕ → ℕ
head_of [] = 0
head_of (n ∷ ns) = n

abbrev rest_of : List ℕ → List ℕ
rest_of [] = []
rest_of (n ∷ ns) = ns

place_by : (parent place first found : ℕ) (rest others : List ℕ) (is_so : Bool)
    → nat_eq first parent ≡ is_so
    → (places_of parent (suc place) rest ≡ found ∷ others
    → IsFirst parent (suc place) rest found others)
    → (if is_so then place ∷ places_of parent (suc place) rest
    else places_of parent (suc place) rest) ≡ found ∷ others
    → IsFirst parent place (first ∷ rest) found others
place_by parent place first found rest others true is later e =
    let here : place ≡ found = ap head_of e in
    let number : first ≡ parent = eqb-true first parent is in
    record {
      skipped = 0;
      place_is = omega (arith, here);
      number_is = ap Some number;
      others_are = sym (ap rest_of e) ∙ ap (λ n. places_of parent (suc n) rest) here;
    }
place_by parent place first found rest others false is later e =
    one_on parent place first found rest others (later e)

pub first_place : (parent place found : ℕ) (row others : List ℕ)
    → places_of parent place row ≡ found ∷ others → IsFirst parent place row found others
first_place parent place found [] others e = absurd (omega (arith, ap length e))
first_place parent place found (first ∷ rest) others e =
    place_by parent place first found rest others (nat_eq first parent) refl
    (first_place parent (suc place) found rest others) e

slice_after : (n k : ℕ) (row : List ℕ) → slice_get (drop n row) k ≡ slice_get row (n + k)
slice_after zero k row = let e : zero + k ≡ k = omega arith in sym (ap (slice_get row) e)
slice_after (suc n) k [] = refl
slice_after (suc n) k (first ∷ rest) =
    let e : suc n + k ≡ suc (n + k) = omega arith in
    slice_after n k rest ∙ sym (ap (slice_get (first ∷ rest)) e)

drop_none : (n : ℕ) → drop {A = ℕ} n [] ≡ []
drop_none zero = refl
drop_none (suc n) = refl

drop_after : (n k : ℕ) (row : List ℕ) → drop k (drop n row) ≡ drop (n + k) row
drop_after zero k row = let e : zero + k ≡ k = omega arith in sym (ap (λ m. drop m row) e)
drop_after (suc n) k [] = drop_none k ∙ sym (drop_none (suc n + k))
drop_after (suc n) k (first ∷ rest) =
    let e : suc n + k ≡ suc (n + k) = omega arith in
    drop_after n k rest ∙ sym (ap (λ m. drop m (first ∷ rest)) e)

-- The first of the nodes after a node that have a parent has this parent, and the others are its
-- later siblings.
pub first_after : (parents : List ℕ) (n parent found : ℕ) (others : List ℕ)
    → behind parents n parent ≡ found ∷ others
    → (slice_get parents found ≡ Some parent) × (others ≡ behind parents found parent)
first_after parents n parent found others e =
    let p = first_place parent (suc n) found (drop (suc n) parents) others e in
    let same : suc n + suc p.skipped ≡ suc found = omega (arith, p.place_is) in (
      ap (slice_get parents) p.place_is ∙ sym (slice_after (suc n) p.skipped parents)
          ∙ p.number_is,
      p.others_are
          ∙ ap (places_of parent (suc found)) (drop_after (suc n) (suc p.skipped) parents
          ∙ ap (λ m. drop m parents) same),
    )
