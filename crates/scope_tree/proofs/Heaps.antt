-- The loops of the heap.
use Rattle.run_model.proofs.Common.{◌≡◌, ◌≢◌, ℕ, suc, ◌+◌, ◌-◌, ◌<◌, ◌≤◌, List, [], ◌∷◌, ◌++◌}
use Rattle.run_model.proofs.Common.{length, get_or, inl, inr, refl, sym, ap, subst, ◌∙◌, arith}
use Rattle.run_model.proofs.Common.{◌⊎◌, cases_lt, cases_eq, take, set, get_or_append_left}
use Rattle.run_model.proofs.Common.{get_or_push, get_or_default, length-append, length-set}
use Rattle.run_model.proofs.Common.{length-take-le, get_or-take, get_or-set_same, get_or-set_other}
use Rattle.run_model.proofs.Common.{take_all, append-nil}
use Rattle.std.specs.List.{swap, swap_remove, refill}
use Rattle.std.proofs.lemmas.List.{drop_all}
use Rattle.std.proofs.lemmas.List.Edits.{swapped_from_swap, length-swap}
use Rattle.run_model.specs.declared.scopes.Scope.{Scope}
use Rattle.run_model.specs.declared.bounds.TheConstants.{MOST_SCOPES}
use Rattle.scope_tree.specs.Deadlines.{key, key_at, IsParent, IsHeap, UpTo, DownFrom, Among}
use Rattle.scope_tree.specs.Deadlines.{SameNumbers, AreKnown, IsLesser, IsDueHeap, TakesFirst}
use Rattle.scope_tree.proofs.HeapSteps.{Swapped, up_step, down_step, heap_least}

pub same_trans : (xs ys zs : List ℕ) → SameNumbers xs ys → SameNumbers ys zs → SameNumbers xs zs
same_trans xs ys zs h k = record {
  size = k.size ∙ h.size;
  there =
      λ n m. k.there n (h.there n m);
  back = λ n m. h.back n (k.back n m);
}

module _ (xs ys : List ℕ) (a b : ℕ) (ina : a < length xs) (inb : b < length xs)
    (is : ys ≡ swap xs a b) where
  swap_size : length ys ≡ length xs
  swap_size = ap length is ∙ length-swap xs a b

  pub keys_swapped : (rows : List Scope) → Swapped (key_at rows xs) (key_at rows ys) a b
  keys_swapped rows = let s = swapped_from_swap xs ys a b 0 ina inb is in
      record {
        first = ap (key rows) s.0;
        second = ap (key rows) s.1;
        other =
            λ n f g. ap (key rows) (s.2 n f g);
      }

  pub same_swap : SameNumbers xs ys
  same_swap = let s = swapped_from_swap xs ys a b 0 ina inb is in record {
    size = swap_size;
    there = λ n h. elim (cases_eq h.0 a) [
      | inl e ↦ (
        b,
        omega (arith, swap_size, inb),
        s.1 ∙ ap (λ (i : ℕ). get_or xs i 0) (sym e)
            ∙ h.2,
      )
      | inr f ↦ elim (cases_eq h.0 b) [
        | inl e ↦ (
          a,
          omega (arith, swap_size, ina),
          s.0 ∙ ap (λ (i : ℕ). get_or xs i 0) (sym e)
              ∙ h.2,
        )
        | inr g ↦ (h.0, omega (arith, swap_size, h.1), s.2 h.0 f g ∙ h.2)
      ]
    ];
    back = λ n h. elim (cases_eq h.0 a) [
      | inl e ↦ (b, inb, sym s.0 ∙ ap (λ (i : ℕ). get_or ys i 0) (sym e) ∙ h.2)
      | inr f ↦ elim (cases_eq h.0 b) [
        | inl e ↦ (a, ina, sym s.1 ∙ ap (λ (i : ℕ). get_or ys i 0) (sym e) ∙ h.2)
        | inr g ↦ (h.0, omega (arith, swap_size, h.1), sym (s.2 h.0 f g) ∙ h.2)
      ]
    ];
  }

pub known_same : (rows : List Scope) (xs ys : List ℕ) → SameNumbers xs ys → AreKnown rows xs
    → AreKnown rows ys
known_same rows xs ys same known n h = known n (same.back n h)

pub known_at : (rows : List Scope) (xs : List ℕ) (i : ℕ) → AreKnown rows xs → i < length xs
    → get_or xs i 0 < length rows
known_at rows xs i known within = known (get_or xs i 0) (i, within, refl)

-- An entry that moves up to its place.
pub record Rising (rows : List Scope) (old new : List ℕ) (i : ℕ) : Type 0 where
  pub inside : i < length new
  pub same : SameNumbers old new
  pub known : AreKnown rows new
  pub up : UpTo (key_at rows new) (length new) i

pub rises : (rows : List Scope) (old new next : List ℕ) (i p : ℕ) → Rising rows old new i
    → IsParent p i → key_at rows new i < key_at rows new p → next ≡ swap new p i
    → Rising rows old next p
rises rows old new next i p h above less is =
    let inp : p < length new = omega (arith, h.inside) in
    let size : length next ≡ length new = swap_size new next p i inp h.inside is in
    let same = same_swap new next p i inp h.inside is in
    let s = keys_swapped new next p i inp h.inside is rows in
    record {
      inside = omega (arith, inp, size);
      same = same_trans old new next h.same same;
      known = known_same rows new next same h.known;
      up = subst (λ (n : ℕ). UpTo (key_at rows next) n p) (sym size)
          (up_step (key_at rows new) (key_at rows next) (length new) i p above
          (record {
            first = s.second;
            second = s.first;
            other =
                λ n f g. s.other n g f;
          }) h.inside less h.up);
    }

-- An entry that moves down to its place.
pub record Sinking (rows : List Scope) (old new : List ℕ) (i : ℕ) : Type 0 where
  pub inside : i < length new
  pub few : length new ≤ MOST_SCOPES
  pub same : SameNumbers old new
  pub known : AreKnown rows new
  pub down : DownFrom (key_at rows new) (length new) i

module _ (rows : List Scope) (old new : List ℕ) (i c : ℕ) (h : Sinking rows old new i)
    (lesser : IsLesser (key_at rows new) (length new) i c) where
  pub sinks_to : c ≢ i → (i < c) × (c < length new)
  sinks_to ne = elim lesser.child [
    | inl e ↦ absurd (ne e)
    | inr pair ↦
        (omega (arith, pair.0), pair.1)
  ]

  pub sinks : (next : List ℕ) → c ≢ i → key_at rows new c < key_at rows new i → next ≡ swap new i c
      → Sinking rows old next c
  sinks next ne less is = elim lesser.child [
    | inl e ↦ absurd (ne e)
    | inr pair ↦ (
        let size : length next ≡ length new = swap_size new next i c h.inside pair.1 is in
        let same = same_swap new next i c h.inside pair.1 is in
        record {
          inside = omega (arith, pair.1, size);
          few = omega (arith, h.few, size);
          same = same_trans old new next h.same same;
          known = known_same rows new next same h.known;
          down = subst (λ (n : ℕ). DownFrom (key_at rows next) n c) (sym size)
              (down_step (key_at rows new) (key_at rows next) (length new) i c pair.0
              (keys_swapped new next i c h.inside pair.1 is rows) pair.1 less
              (λ j below lt. (lesser.least j below lt).1) h.down);
        })
  ]

-- ---- the ends of the list

pub refill_is : (n : ℕ) (xs ws : List ℕ) → n ≡ length xs → length ws ≡ length xs
    → refill n xs ws ≡ ws
refill_is n xs ws e f = ap (take n) (ap (λ (t : List ℕ). ws ++ t)
    (drop_all (length ws) xs (omega (arith, f))) ∙ append-nil ws)
    ∙ take_all n ws (omega (arith, e, f))

pub among_push : (m n : ℕ) (due : List ℕ) → Among m (due ++ n ∷ []) → Among m due ⊎ (m ≡ n)
among_push m n due h = elim (cases_lt h.0 (length due)) [
  | inl lt ↦ inl (h.0, lt, sym (get_or_append_left due (n ∷ []) 0 h.0 lt) ∙ h.2)
  | inr le ↦ (let last : length due ≡ h.0 = omega (arith, h.1, length-append due (n ∷ [])) in
      inr (sym h.2 ∙ get_or_push due n 0 h.0 last))
]

pub known_push : (rows : List Scope) (due : List ℕ) (n : ℕ) → AreKnown rows due → n < length rows
    → AreKnown rows (due ++ n ∷ [])
known_push rows due n known lt m h = elim (among_push m n due h)
    [ inl old ↦ known m old | inr e ↦ omega (arith, e, lt) ]

pub push_starts : (rows : List Scope) (due : List ℕ) (n : ℕ)
    → IsHeap (key_at rows due) (length due) → UpTo (key_at rows (due ++ n ∷ []))
    (length (due ++ n ∷ [])) (length due)
push_starts rows due n heap = record {
  rest = λ p j pair lt ne.
      let inj : j < length due = omega (arith, lt, ne, length-append due (n ∷ [])) in
      let inp : p < length due = omega (arith, pair.0, inj) in
      let a : key_at rows (due ++ n ∷ []) p ≡ key_at rows due p =
      ap (key rows) (get_or_append_left due (n ∷ []) 0 p inp) in
      let b : key_at rows (due ++ n ∷ []) j ≡ key_at rows due j =
      ap (key rows) (get_or_append_left due (n ∷ []) 0 j inj) in
      rw (a, b) (heap p j pair inj);
  over = λ p j up pair lt. absurd (omega (arith, pair.0, lt, length-append due (n ∷ [])));
}

module _ (due new : List ℕ) (d : ℕ) (some : 0 < length due) (is : new ≡ swap_remove due 0 d) where
  pub size_removed : length new + 1 ≡ length due
  size_removed = omega (
    arith,
    ap length is,
    length-take-le (length due - 1)
        (set due 0 (get_or due (length due - 1) d)) (omega
        (arith, length-set due 0 (get_or due (length due - 1) d))),
    some,
  )

  pub first_removed : 0 < length new → get_or new 0 0 ≡ get_or due (length due - 1) 0
  first_removed lt = ap (λ (l : List ℕ). get_or l 0 0) is
      ∙ get_or-take (length due - 1) (set due 0 (get_or due (length due - 1) d)) 0 0
      (omega (arith, lt, size_removed)) ∙ get_or-set_same due 0
      (get_or due (length due - 1) d) 0 some ∙ get_or_default due (length due - 1) d 0
      (omega arith)

  pub later_removed : (k : ℕ) → 0 < k → k < length new → get_or new k 0 ≡ get_or due k 0
  later_removed k pos lt = ap (λ (l : List ℕ). get_or l k 0) is
      ∙ get_or-take (length due - 1) (set due 0 (get_or due (length due - 1) d)) k 0
      (omega (arith, lt, size_removed)) ∙ get_or-set_other due 0 k
      (get_or due (length due - 1) d) 0 (λ e. omega arith)

  pub back_removed : (m : ℕ) → Among m new → Among m due
  back_removed m h = elim (cases_eq h.0 0) [
    | inl e ↦ (
      length due - 1,
      omega (arith, some),
      sym (first_removed (omega (arith, h.1)))
          ∙ ap (λ (i : ℕ). get_or new i 0) (sym e) ∙ h.2,
    )
    | inr ne ↦ (
      h.0,
      omega (arith, h.1, size_removed),
      sym
          (later_removed h.0 (omega (arith, ne)) h.1) ∙ h.2,
    )
  ]

  pub there_removed : (m : ℕ) → Among m due → (m ≡ get_or due 0 0) ⊎ Among m new
  there_removed m h = elim (cases_eq h.0 0) [
    | inl e ↦ inl (sym h.2 ∙ ap (λ (i : ℕ). get_or due i 0) e)
    | inr ne ↦ elim (cases_lt h.0 (length new)) [
      | inl lt ↦ inr (h.0, lt, later_removed h.0 (omega (arith, ne)) lt ∙ h.2)
      | inr le ↦ (let last : h.0 ≡ length due - 1 = omega (arith, h.1, size_removed, some) in
          inr (
            0,
            omega (arith, ne, h.1, size_removed),
            first_removed
                (omega (arith, ne, h.1, size_removed)) ∙ ap (λ (i : ℕ). get_or due i 0) (sym last)
                ∙ h.2,
          ))
    ]
  ]

  pub down_removed : (rows : List Scope) → IsHeap (key_at rows due) (length due)
      → DownFrom (key_at rows new) (length new) 0
  down_removed rows heap = record {
    rest = λ p j pair lt ne.
        let a : key_at rows new p ≡ key_at rows due p = ap (key rows)
        (later_removed p (omega (arith, ne)) (omega (arith, pair.0, lt))) in
        let b : key_at rows new j ≡ key_at rows due j = ap (key rows)
        (later_removed j (omega (arith, pair.0)) lt) in
        rw (a, b) (heap p j pair (omega (arith, lt, size_removed)));
    over = λ p j up pair lt. absurd (omega (arith, up.0));
  }

  least_first : (rows : List Scope) → IsHeap (key_at rows due) (length due) → (m : ℕ) → Among m due
      → key rows (get_or due 0 0) ≤ key rows m
  least_first rows heap m h = let a : key_at rows due 0 ≤ key_at rows due h.0 =
      heap_least (key_at rows due) (length due) (suc h.0) h.0 (omega arith) heap h.1 in
      let b : key_at rows due h.0 ≡ key rows m = ap (key rows) h.2 in omega (arith, a, b)

  -- The rest is put in order.
  pub takes : (rows : List Scope) (last : List ℕ) (n : ℕ) → IsDueHeap rows due → n ≡ get_or due 0 0
      → SameNumbers new last → IsHeap (key_at rows last) (length last) → TakesFirst rows due n last
  takes rows last n h e same heap = record {
    heap = record {
      known = λ m a. h.known m (back_removed m (same.back m a));
      few =
          omega (arith, h.few, same.size, size_removed);
      heap = heap;
    };
    size = omega (arith, same.size, size_removed);
    first = e;
    among = (0, some, sym e);
    others = λ m a. elim (there_removed m a) [
      | inl f ↦ inl (f
          ∙ sym e)
      | inr b ↦ inr (same.there m b)
    ];
    back = λ m a. back_removed m (same.back m a);
    least = λ m a. rw e (least_first rows h.heap m a);
  }
