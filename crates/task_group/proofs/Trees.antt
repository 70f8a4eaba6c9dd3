-- A tree of flags: the lowest leaf is found on the way down, and a change is repaired on the way
-- up.
use Rattle.run_model.proofs.Common.{◌≡◌, ◌≢◌, ◌<◌, ◌≤◌, ℕ, zero, suc, ◌+◌, ◌-◌, ◌/◌, ◌%◌, Bool}
use Rattle.run_model.proofs.Common.{true, false, ◌||◌, List, length, drop, cond, Some, None, inl}
use Rattle.run_model.proofs.Common.{inr, refl, sym, ap, ◌∙◌, arith, ◌⊎◌, replicate, slice_set}
use Rattle.run_model.proofs.Common.{cases_eq, cases_lt, get_or-drop, get_or_past, get_or-set_same}
use Rattle.run_model.proofs.Common.{get_or-set_other, length-replicate, length-set, most_tasks}
use Rattle.run_model.proofs.Common.{most_tasks_most, length-drop, take, take-append-le, take_all}
use Rattle.run_model.proofs.Common.{◌++◌, ◌∷◌, []}
use Rattle.std.proofs.lemmas.List.{drop-replicate, get_or-replicate}
use Rattle.run_model.specs.declared.layouts.Layout.{Layout}
use Rattle.run_model.specs.declared.layouts.Layout.TheVariants.{Small, Large}
use Rattle.task_group.specs.Kept.{IsNext}
use Rattle.task_group.specs.Trees.{is_up, IsRight, first_leaf, IsTree, way_down}

-- ---- the leaves below a node

-- The last of the nodes that are this many levels below node k.
abbrev pub last_leaf : ℕ → ℕ → ℕ
last_leaf zero k = k
last_leaf (suc levels) k = last_leaf levels (k + k + 1)

pub first_more : (h k : ℕ) → k ≤ first_leaf h k
first_more zero k = omega arith
first_more (suc h) k = (let more = first_more h (k + k) in omega arith)

last_more : (h k : ℕ) → k ≤ last_leaf h k
last_more zero k = omega arith
last_more (suc h) k = (let more = last_more h (k + k + 1) in omega arith)

first_next : (h k : ℕ) → first_leaf h (k + 1) ≡ last_leaf h k + 1
first_next zero k = refl
first_next (suc h) k =
    let same : (k + 1) + (k + 1) ≡ (k + k + 1) + 1 = omega arith in
    ap (first_leaf h) same ∙ first_next h (k + k + 1)

first_sum : (h a b : ℕ) → first_leaf h (a + b) ≡ first_leaf h a + first_leaf h b
first_sum zero a b = refl
first_sum (suc h) a b =
    let same : (a + b) + (a + b) ≡ (a + a) + (b + b) = omega arith in
    ap (first_leaf h) same ∙ first_sum h (a + a) (b + b)

first_last : (h k : ℕ) → first_leaf h k ≤ last_leaf h k
first_last zero k = omega arith
first_last (suc h) k =
    let left = first_last h (k + k) in
    let right = first_last h (k + k + 1) in
    let next = first_next h (k + k) in
    omega arith

-- ---- the way down

neither : (a b : Bool) → false ≡ (a || b) → (a ≡ false) × (b ≡ false)
neither true b e = absurd cc
neither false true e = absurd cc
neither false false e = (refl, refl)

-- If the flag of a node is down, those of all leaves below it are.
all_down : (leaves : ℕ) (nodes : List Bool)
    → ((k : ℕ) → 1 ≤ k → k < leaves → IsRight nodes k) → (h k : ℕ) → 1 ≤ k
    → last_leaf h k < leaves + leaves → is_up nodes k ≡ false
    → (j : ℕ) → first_leaf h k ≤ j → j ≤ last_leaf h k → is_up nodes j ≡ false
all_down leaves nodes right zero k low high down j from to =
    let same : j ≡ k = omega arith in
    ap (is_up nodes) same ∙ down
all_down leaves nodes right (suc h) k low high down j from to =
    let deep = last_more h (k + k + 1) in
    let next = first_next h (k + k) in
    let wide = first_last h (k + k + 1) in
    let both = neither (is_up nodes (k + k)) (is_up nodes (k + k + 1))
    (sym down ∙ right k low (omega arith)) in
    elim (cases_lt (last_leaf h (k + k)) j) [
      | inl past ↦ all_down leaves nodes right h (k + k + 1) (omega arith) (omega arith) both.1 j
          (omega arith) to
      | inr within ↦ all_down leaves nodes right h (k + k) (omega arith) (omega arith) both.0 j
          from within
    ]

-- The flag of this node is up, and those of all leaves on its left are down.
pub record IsOnWay (leaves node : ℕ) (nodes : List Bool) : Type 0 where
  pub levels : ℕ
  pub low : 1 ≤ node
  pub from : leaves ≤ first_leaf levels node
  pub to : last_leaf levels node < leaves + leaves
  pub up : is_up nodes node ≡ true
  pub none : (k : ℕ) → leaves ≤ k → k < first_leaf levels node → is_up nodes k ≡ false

last_of_all : (leaves levels : ℕ) → first_leaf levels 1 ≡ leaves
    → last_leaf levels 1 < leaves + leaves
last_of_all leaves levels even =
    let next : first_leaf levels 2 ≡ last_leaf levels 1 + 1 = first_next levels 1 in
    let twice : first_leaf levels 2 ≡ first_leaf levels 1 + first_leaf levels 1 =
    first_sum levels 1 1 in
    omega arith

pub way_from_root : (leaves : ℕ) (nodes : List Bool) → IsTree leaves nodes
    → is_up nodes 1 ≡ true → IsOnWay leaves 1 nodes
way_from_root leaves nodes t up = record {
  levels = t.levels;
  low = omega arith;
  from = (let even = t.even in omega arith);
  to = last_of_all leaves t.levels t.even;
  up = up;
  none = λ k from less. absurd (let even = t.even in omega arith);
}

the_other : (a b : Bool) → true ≡ (a || b) → a ≡ false → b ≡ true
the_other true b e down = absurd cc
the_other false true e down = refl
the_other false false e down = absurd cc

pub way_goes_on : (leaves node : ℕ) (nodes : List Bool) → IsTree leaves nodes
    → IsOnWay leaves node nodes → node < leaves → IsOnWay leaves (way_down nodes node) nodes
way_goes_on leaves node nodes t w less = by w.levels w.from w.to w.none
  where
    by_left : (h : ℕ) → leaves ≤ first_leaf h (node + node)
        → last_leaf h (node + node + 1) < leaves + leaves
        → ((k : ℕ) → leaves ≤ k → k < first_leaf h (node + node) → is_up nodes k ≡ false)
        → (b : Bool) → is_up nodes (node + node) ≡ b
        → IsOnWay leaves (cond b (node + node) (node + node + 1)) nodes
    by_left h from to none true e = record {
      levels = h;
      low = (let low = w.low in omega arith);
      from = from;
      to =
          (let next = first_next h (node + node) in let wide = first_last h (node + node + 1) in
          omega arith);
      up = e;
      none = none;
    }
    by_left h from to none false e =
        let next = first_next h (node + node) in
        let wide = first_last h (node + node + 1) in
        let low = w.low in
        record {
          levels = h;
          low = omega arith;
          from = (let left = first_last h (node + node) in omega arith);
          to = to;
          up = the_other (is_up nodes (node + node)) (is_up nodes (node + node + 1))
              (sym w.up ∙ t.right node low less) e;
          none =
              λ k f l.
              elim (cases_lt k (first_leaf h (node + node))) [
                | inl before ↦ none k f before
                | inr here ↦ all_down leaves nodes t.right h (node + node) (omega arith)
                    (omega arith)
                    e k here (omega arith)
              ];
        }

    by : (h : ℕ) → leaves ≤ first_leaf h node → last_leaf h node < leaves + leaves
        → ((k : ℕ) → leaves ≤ k → k < first_leaf h node → is_up nodes k ≡ false)
        → IsOnWay leaves (way_down nodes node) nodes
    by zero from to none = absurd (omega arith)
    by (suc h) from to none = by_left h from to none (is_up nodes (node + node)) refl

-- The way ends at the least leaf.
pub way_ends : (leaves node : ℕ) (nodes : List Bool) → IsOnWay leaves node nodes → leaves ≤ node
    → (n : ℕ) → leaves + n ≡ node → IsNext (is_up (drop leaves nodes)) 0 (Some n)
way_ends leaves node nodes w past n at = (
  omega arith,
  get_or-drop leaves nodes n false ∙ ap (is_up nodes) at ∙ w.up,
  λ k low less.
      get_or-drop leaves nodes k false
      ∙ w.none (leaves + k) (omega arith)
      (let more = first_more w.levels node in omega arith),
)

-- If the flag of the root is down, the queue is empty.
pub none_in : (leaves : ℕ) (nodes : List Bool) → IsTree leaves nodes → is_up nodes 1 ≡ false
    → IsNext (is_up (drop leaves nodes)) 0 None
none_in leaves nodes t down = λ k low. get_or-drop leaves nodes k false ∙ there k
  where
    there : (k : ℕ) → is_up nodes (leaves + k) ≡ false
    there k =
        elim (cases_lt (leaves + k) (leaves + leaves)) [
          | inl within ↦
              (let twice : first_leaf t.levels 2 ≡ first_leaf t.levels 1 + first_leaf t.levels 1 =
              first_sum t.levels 1 1 in
              let next : first_leaf t.levels 2 ≡ last_leaf t.levels 1 + 1 =
              first_next t.levels 1 in
              let even = t.even in
              all_down leaves nodes t.right t.levels 1 (omega arith)
              (last_of_all leaves t.levels t.even) down (leaves + k) (omega arith) (omega arith))
          | inr past ↦ get_or_past nodes (leaves + k) false (let size = t.size in omega arith)
        ]

pub some_leaves : (leaves : ℕ) (nodes : List Bool) → IsTree leaves nodes → 1 ≤ leaves
some_leaves leaves nodes t =
    (let more = first_more t.levels 1 in let even = t.even in omega arith)

-- ---- the way up

-- All flags are right but that of the node above this one.
pub record IsTreeBut (leaves node : ℕ) (nodes : List Bool) : Type 0 where
  pub size : length nodes ≡ leaves + leaves
  pub right : (k : ℕ) → 1 ≤ k → k < leaves → k + k ≢ node → k + k + 1 ≢ node → IsRight nodes k

-- A flag is changed: those of nodes that aren't above it stay right.
right_else : (nodes : List Bool) (node k : ℕ) (b : Bool) → k ≢ node → k + k ≢ node
    → k + k + 1 ≢ node → IsRight nodes k → IsRight (slice_set nodes node b) k
right_else nodes node k b here left right is =
    let a = get_or-set_other nodes node k b false here in
    let l = get_or-set_other nodes node (k + k) b false left in
    let r = get_or-set_other nodes node (k + k + 1) b false right in
    rw (a, l, r) is

pub leaf_changed : (leaves n : ℕ) (nodes : List Bool) (b : Bool) → IsTree leaves nodes
    → IsTreeBut leaves (leaves + n) (slice_set nodes (leaves + n) b)
leaf_changed leaves n nodes b t = record {
  size = length-set nodes (leaves + n) b ∙ t.size;
  right =
      λ k low high left right.
      right_else nodes (leaves + n) k b (λ e. omega (arith, e, high)) left right
      (t.right k low high);
}

pub one_up : (leaves node p : ℕ) (nodes : List Bool) (b : Bool) → IsTreeBut leaves node nodes
    → 1 ≤ p → p < leaves → (p + p ≡ node) ⊎ (p + p + 1 ≡ node)
    → b ≡ (is_up nodes (p + p) || is_up nodes (p + p + 1))
    → IsTreeBut leaves p (slice_set nodes p b)
one_up leaves node p nodes b t low high above e = record {
  size = length-set nodes p b ∙ t.size;
  right =
      λ k klow khigh left right.
      elim (cases_eq k p) [
        | inl same ↦ rw same mended
        | inr apart ↦
            right_else nodes p k b apart left right
            (t.right k klow khigh (not_left k apart) (not_right k apart))
      ];
}
  where
    within : p < length nodes
    within = (let size = t.size in omega arith)

    mended : IsRight (slice_set nodes p b) p
    mended =
        let a = get_or-set_same nodes p b false within in
        let l = get_or-set_other nodes p (p + p) b false (λ q. omega (arith, q, low)) in
        let r = get_or-set_other nodes p (p + p + 1) b false (λ q. omega (arith, q, low)) in
        rw (a, l, r) e

    not_left : (k : ℕ) → k ≢ p → k + k ≢ node
    not_left k apart q = elim above [ inl l ↦ apart (omega arith) | inr r ↦ absurd (omega arith) ]

    not_right : (k : ℕ) → k ≢ p → k + k + 1 ≢ node
    not_right k apart q = elim above [ inl l ↦ absurd (omega arith) | inr r ↦ apart (omega arith) ]

-- The number above a node is half of its own.
pub halved : (n : ℕ) → (n / 2 + n / 2 ≡ n) ⊎ (n / 2 + n / 2 + 1 ≡ n)
halved n =
    elim (cases_eq (n % 2) 0) [ inl even ↦ inl (omega arith) | inr odd ↦ inr (omega arith) ]

-- ---- a new tree

pub down_new : (n k : ℕ) → is_up (replicate n false) k ≡ false
down_new n k =
    elim (cases_lt k n) [
      | inl less ↦ get_or-replicate n k false false less
      | inr past ↦
          get_or_past (replicate n false) k false
          (let size = length-replicate n false in omega arith)
    ]

abbrev levels_of : Layout → ℕ
levels_of Small = 11
levels_of Large = 13

even_of : (layout : Layout) → first_leaf (levels_of layout) 1 ≡ most_tasks layout
even_of Small = refl
even_of Large = refl

pub new_tree : (layout : Layout)
    → IsTree (most_tasks layout) (replicate (most_tasks layout + most_tasks layout) false)
new_tree layout = record {
  few = most_tasks_most layout;
  size = length-replicate (most_tasks layout + most_tasks layout) false;
  levels = levels_of layout;
  even = even_of layout;
  right =
      λ k low high.
      rw (
        down_new (most_tasks layout + most_tasks layout) k,
        down_new (most_tasks layout + most_tasks layout) (k + k),
        down_new (most_tasks layout + most_tasks layout) (k + k + 1),
      ) refl;
}

pub new_flags : (n : ℕ) → drop n (replicate (n + n) false) ≡ replicate n false
new_flags n =
    let rest : n + n - n ≡ n = omega arith in
    drop-replicate n (n + n) false ∙ ap (λ k. replicate k false) rest

-- ---- a tree in its place

pub leaf_count : (leaves : ℕ) (nodes : List Bool) → IsTree leaves nodes
    → length (drop leaves nodes) ≡ leaves
leaf_count leaves nodes tree =
    length-drop leaves nodes ∙ (let size = tree.size in omega (arith, size))

-- What is written over all nodes of a tree is what stands there then.
pub tree_written : (leaves count : ℕ) (old new : List Bool) → count ≡ length old
    → IsTree leaves old → IsTree leaves new → take count (new ++ drop (length new) old) ≡ new
tree_written leaves count old new is before after =
    let full : count ≡ length new = is ∙ before.size ∙ sym after.size in
    take-append-le count new (drop (length new) old) (omega (arith, full))
    ∙ take_all count new (omega (arith, full))

-- One flag more is down.
pub pushed_down : (flags : List Bool) → flags ≡ replicate (length flags) false
    → flags ++ false ∷ [] ≡ replicate (length (flags ++ false ∷ [])) false
pushed_down [] down = refl
pushed_down (flag ∷ flags) down =
    let first : flag ≡ false = cc in
    let rest : flags ≡ replicate (length flags) false = cc in
    rw first (ap (λ (l : List Bool). false ∷ l) (pushed_down flags rest))
