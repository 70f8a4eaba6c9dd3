-- Marks that spread down from one scope.
use Rattle.run_model.proofs.Common.{◌≡◌, ◌≢◌, ◌⊎◌, ℕ, zero, suc, ◌+◌, ◌<◌, ◌≤◌, Bool, true, cond}
use Rattle.run_model.proofs.Common.{List, [], ◌∷◌, ◌++◌, length, Option, Some, None, set, inl, inr}
use Rattle.run_model.proofs.Common.{refl, sym, ap, subst, ◌∙◌, arith, is_some, is_none, slice_get}
use Rattle.run_model.proofs.Common.{not, cases_lt, cases_eq, false≢true, get_or-set_same}
use Rattle.run_model.proofs.Common.{get_or-set_other, length-set, length-append, slice_get_within}
use Rattle.std.proofs.lemmas.List.Sums.{sum_by-set}
use Rattle.scope_tree.specs.Chains.{IsLast}
use Rattle.scope_tree.specs.Marks.{mark_of}
use Rattle.scope_tree.specs.Spread.{In, Child, Since, Spreading, unmarked}

pub in_push : (p : ℕ) (xs : List ℕ) (x : ℕ) → In p (xs ++ x ∷ []) → In p xs ⊎ (p ≡ x)
in_push p [] x (inl e) = inr e
in_push p [] x (inr e) = absurd e
in_push p (y ∷ xs) x (inl e) = inl (inl e)
in_push p (y ∷ xs) x (inr h) = elim (in_push p xs x h) [ inl i ↦ inl (inr i) | inr e ↦ inr e ]

pub in_left : (p : ℕ) (xs : List ℕ) (x : ℕ) → In p xs → In p (xs ++ x ∷ [])
in_left p [] x h = absurd h
in_left p (y ∷ xs) x (inl e) = inl e
in_left p (y ∷ xs) x (inr h) = inr (in_left p xs x h)

pub in_last : (p : ℕ) (xs : List ℕ) → In p (xs ++ p ∷ [])
in_last p [] = inl refl
in_last p (y ∷ xs) = inr (in_last p xs)

pub no_some : {X : Type 0} (n : ℕ) (o : Option ℕ) → o ≡ None → o ≡ Some n → X
no_some n o h k = absurd cc

some_is : (o : Option ℕ) (n : ℕ) → o ≡ Some n → is_some o ≡ true
some_is o n h = rw h refl

module _ (links : List (Option ℕ)) (old new : List (Option ℕ)) (at : ℕ) (work : List ℕ) (s k c : ℕ)
    (here : Spreading links old new at work s k) where
  none_before : (o : Option ℕ) → mark_of old c ≡ o → mark_of new c ≡ None → mark_of old c ≡ None
  none_before None e h = e
  none_before (Some n) e h = no_some n (mark_of new c) h (here.so_far.kept c n e)

  -- The child at hand needs no mark.
  pub step_skip : ((t : ℕ) → c < t → t < k → Child links t s → ⊥)
      → (Child links c s → is_some (mark_of new c) ≡ true) → Spreading links old new at work s c
  step_skip gap over = record {
    so_far = here.so_far;
    listed = here.listed;
    down = λ t p child since. elim (here.down t p child since) [
      | inl done ↦ inl done
      | inr more ↦ elim more [
        | inl in-work ↦ inr (inl in-work)
        | inr last ↦ elim (cases_lt t c) [
          | inl lt ↦ inr (inr (last.0, lt))
          | inr le ↦ elim (cases_eq t c) [
            | inl e ↦ inl (subst (λ (n : ℕ). is_some (mark_of new n) ≡ true) (sym e)
                (over (subst (λ (n : ℕ). Child links n s) e
                (subst (λ (n : ℕ). Child links t n) last.0 child))))
            | inr ne ↦ absurd (gap t (omega (arith, ne)) last.1
                (subst (λ (n : ℕ). Child links t n) last.0 child))
          ]
        ]
      ]
    ];
  }

  -- The child at hand is marked and listed.
  pub step_mark : c < length new → ((t : ℕ) → c < t → t < k → Child links t s → ⊥)
      → Child links c s → Since old new at s → mark_of new c ≡ None
      → Spreading links old (set new c (Some at)) at (work ++ c ∷ []) s c
  step_mark within gap child since none = record {
    so_far = record {
      same = length-set new c (Some at) ∙ here.so_far.same;
      here = stays at here.so_far.here;
      kept = λ t n was. get_or-set_other new c t (Some at) None
          (λ e. no_some n (mark_of new c) none (subst (λ (m : ℕ). mark_of new m ≡ Some n) e
          (here.so_far.kept t n was))) ∙ here.so_far.kept t n was;
      fresh = λ t was. elim (cases_eq t c) [
        | inl e ↦ inr (subst (λ (n : ℕ). mark_of (set new c (Some at)) n ≡ Some at) (sym e)
            here_now)
        | inr ne ↦ elim (here.so_far.fresh t was) [
          | inl h ↦ inl (get_or-set_other new c t (Some at) None ne
              ∙ h)
          | inr h ↦ inr (get_or-set_other new c t (Some at) None ne ∙ h)
        ]
      ];
      below = λ t now. elim (cases_eq t c) [
        | inl e ↦ inr (s, subst (λ (n : ℕ). Child links n s) (sym e) child, grown s since)
        | inr ne ↦ elim (here.so_far.below t (back t ne now)) [
          | inl e ↦ inl e
          | inr up ↦ inr
              (up.0, up.1, grown up.0 up.2)
        ]
      ];
    };
    listed = λ p in-work. elim (in_push p work c in-work) [
      | inl before ↦ ((here.listed p before).0, grown p (here.listed p before).1)
      | inr e ↦ (
        let size : length new ≡ length old = here.so_far.same in
            omega (arith, e, within),
        subst (λ (n : ℕ). Since old (set new c (Some at)) at n) (sym e)
            (record { was = none_before (mark_of old c) refl none; is = here_now }),
      )
    ];
    down = λ t p below now. elim (cases_eq p c) [
      | inl e ↦ inr (inl (subst (λ (n : ℕ). In n (work ++ c ∷ [])) (sym e) (in_last c work)))
      | inr ne ↦ elim (here.down t p below (back p ne now)) [
        | inl done ↦ inl (stays t done)
        | inr more ↦ elim more [
          | inl in-work ↦ inr (inl (in_left p work c in-work))
          | inr last ↦ elim (cases_lt t c) [
            | inl lt ↦ inr (inr (last.0, lt))
            | inr le ↦ elim (cases_eq t c) [
              | inl e ↦ inl (subst (λ (n : ℕ). is_some (mark_of (set new c (Some at)) n) ≡ true)
                  (sym e) (some_is _ at here_now))
              | inr far ↦ absurd (gap t (omega (arith, far)) last.1
                  (subst (λ (n : ℕ). Child links t n) last.0 below))
            ]
          ]
        ]
      ]
    ];
  }
    where
      here_now : mark_of (set new c (Some at)) c ≡ Some at
      here_now = get_or-set_same new c (Some at) None within

      grown : (t : ℕ) → Since old new at t → Since old (set new c (Some at)) at t
      grown t h = record {
        was = h.was;
        is = get_or-set_other new c t (Some at) None
            (λ e. no_some at (mark_of new c) none (subst (λ (n : ℕ). mark_of new n ≡ Some at) e
            h.is)) ∙ h.is;
      }

      back : (t : ℕ) → t ≢ c → Since old (set new c (Some at)) at t → Since old new at t
      back t ne h = record {
        was = h.was;
        is = sym (get_or-set_other new c t (Some at) None ne)
            ∙ h.is;
      }

      stays : (t : ℕ) → is_some (mark_of new t) ≡ true → is_some
          (mark_of (set new c (Some at)) t) ≡ true
      stays t h = elim (cases_eq t c) [
        | inl e ↦ subst (λ (n : ℕ). is_some
            (mark_of (set new c (Some at)) n) ≡ true) (sym e) (some_is _ at here_now)
        | inr ne ↦
            ap is_some (get_or-set_other new c t (Some at) None ne) ∙ h
      ]

-- No child of the scope is left.
pub step_end : (links : List (Option ℕ)) (old new : List (Option ℕ)) (at : ℕ) (work : List ℕ)
    (s k : ℕ) → Spreading links old new at work s k → ((t : ℕ) → t < k → Child links t s → ⊥)
    → Spreading links old new at work 0 0
step_end links old new at work s k here gap = record {
  so_far = here.so_far;
  listed = here.listed;
  down = λ t p child since. elim (here.down t p child since) [
    | inl done ↦ inl done
    | inr more ↦ elim more [
      | inl in-work ↦ inr (inl in-work)
      | inr last ↦ absurd (gap t last.1 (subst (λ (n : ℕ). Child links t n) last.0 child))
    ]
  ];
}

-- The last scope of the list is removed, and its children are still to be marked.
pub step_pop : (links : List (Option ℕ)) (old new : List (Option ℕ)) (at : ℕ) (work : List ℕ)
    (s : ℕ) → Spreading links old new at (work ++ s ∷ []) 0 0
    → ((t p : ℕ) → Child links t p → t < length links) → Spreading links old new at work s
    (length links)
step_pop links old new at work s here within = record {
  so_far = here.so_far;
  listed = λ p in-work. here.listed p (in_left p work s in-work);
  down = λ t p child since. elim (here.down t p child since) [
    | inl done ↦ inl done
    | inr more ↦ elim more [
      | inl in-work ↦ elim (in_push p work s in-work) [
        | inl before ↦ inr (inl before)
        | inr e ↦ inr
            (inr (e, within t p child))
      ]
      | inr last ↦ absurd (omega arith)
    ]
  ];
}

abbrev counts : Option ℕ → ℕ
counts o = cond (is_none o) 1 0

count_none : (o : Option ℕ) → o ≡ None → counts o ≡ suc zero
count_none o h = rw h refl

-- Each mark lowers the count by one.
pub one_less : (marks : List (Option ℕ)) (c n : ℕ) → c < length marks → mark_of marks c ≡ None
    → unmarked (set marks c (Some n)) + 1 ≡ unmarked marks
one_less marks c n within none = omega (
  arith,
  sum_by-set
      (λ (o : Option ℕ). cond (is_none o) 1 0) marks c (Some n) None within,
  count_none (mark_of marks c) none,
)

-- ---- the walk over the children of a scope

-- The loop is at a child, or after the last one.
pub record Walk (links : List (Option ℕ)) (marks marks' : List (Option ℕ)) (work work' : List ℕ)
    (s at : ℕ) (child : Option ℕ) : Type 0 where
  pub k : ℕ
  pub within : k ≤ length links
  pub last : IsLast links s k child
  pub same : length marks' ≡ length marks
  pub here : mark_of marks' s ≡ Some at
  pub room : length work' + unmarked marks' ≡ length work + unmarked marks
  pub spread : (before : List (Option ℕ)) → mark_of before s ≡ None
      → Spreading links before marks at work s (length links)
      → Spreading links before marks' at work' s k

pub walk_starts : (links : List (Option ℕ)) (marks : List (Option ℕ)) (work : List ℕ) (s at : ℕ)
    (first : Option ℕ) → IsLast links s (length links) first → mark_of marks s ≡ Some at
    → Walk links marks marks work work s at first
walk_starts links marks work s at first last here = record {
  k = length links;
  within = omega arith;
  last = last;
  same = refl;
  here = here;
  room = refl;
  spread = λ before was h. h;
}

module _ (links : List (Option ℕ)) (marks marks' : List (Option ℕ)) (work work' : List ℕ)
    (s at c : ℕ) (next : Option ℕ) (linked : (key : ℕ) → slice_get links c ≡ Some (Some key)
    → IsLast links key c next) (walk : Walk links marks marks' work work' s at (Some c)) where
  gap : (t : ℕ) → c < t → t < walk.k → Child links t s → ⊥
  gap t lt below child = walk.last.2 t lt below child

  pub walk_skips : (Child links c s → is_some (mark_of marks' c) ≡ true)
      → Walk links marks marks' work work' s at next
  walk_skips over = record {
    k = c;
    within = let lt : c < walk.k = walk.last.0 in omega (arith, walk.within);
    last = linked s walk.last.1;
    same = walk.same;
    here = walk.here;
    room = walk.room;
    spread = λ before was h. step_skip links before marks' at work' s walk.k c
        (walk.spread before was h) gap over;
  }

  pub walk_marks : c < length marks' → Child links c s → mark_of marks' c ≡ None
      → Walk links marks (set marks' c (Some at)) work (work' ++ c ∷ []) s at next
  walk_marks within child none = record {
    k = c;
    within = let lt : c < walk.k = walk.last.0 in omega (arith, walk.within);
    last = linked s walk.last.1;
    same = length-set marks' c (Some at) ∙ walk.same;
    here = get_or-set_other marks' c s (Some at) None (λ e. no_some at (mark_of marks' c) none
        (subst (λ (n : ℕ). mark_of marks' n ≡ Some at) e walk.here)) ∙ walk.here;
    room = omega (
      arith,
      walk.room,
      one_less marks' c at within none,
      length-append work' (c ∷ []),
    );
    spread = λ before was h. step_mark links before marks' at work' s walk.k c
        (walk.spread before was h) within gap child (record { was = was; is = walk.here }) none;
  }

pub walk_ends : (links : List (Option ℕ)) (marks marks' : List (Option ℕ)) (work work' : List ℕ)
    (s at : ℕ) (walk : Walk links marks marks' work work' s at None) → (before : List (Option ℕ))
    → mark_of before s ≡ None → Spreading links before marks at work s (length links)
    → Spreading links before marks' at work' 0 0
walk_ends links marks marks' work work' s at walk before was h =
    step_end links before marks' at work' s walk.k (walk.spread before was h)
    (λ t lt child. walk.last t lt child)

-- ---- the work list

-- The facts between two rounds of the loop.
pub record Turns (links : List (Option ℕ)) (marks marks' : List (Option ℕ)) (work : List ℕ)
    (at : ℕ) : Type 0 where
  pub spread : Spreading links marks marks' at work 0 0
  pub room : length work + unmarked marks' ≤ unmarked marks

-- A scope is taken off the list.
module _ (links : List (Option ℕ)) (marks marks' : List (Option ℕ)) (all work : List ℕ)
    (at s : ℕ) (before : Turns links marks marks' all at) (last : all ≡ work ++ s ∷ []) where
  turns : Turns links marks marks' (work ++ s ∷ []) at
  turns = subst (λ l. Turns links marks marks' l at) last before

  pub popped : (s < length marks) × Since marks marks' at s
  popped = turns.spread.listed s (in_last s work)

  pub turns_go_on : (marks'' : List (Option ℕ)) (work'' : List ℕ)
      → length work'' + unmarked marks'' ≡ length work + unmarked marks'
      → ((before : List (Option ℕ)) → mark_of before s ≡ None
      → Spreading links before marks' at work s (length links)
      → Spreading links before marks'' at work'' 0 0) → Turns links marks marks'' work'' at
  turns_go_on marks'' work'' room spread = record {
    spread = spread marks popped.1.was
        (step_pop links marks marks' at work s turns.spread
        (λ t p child. slice_get_within links t (Some p) child));
    room = omega (arith, room, turns.room, length-append work (s ∷ []));
  }

pub not_some : (o : Option ℕ) (test : Bool) → is_some o ≡ not test → test ≡ true → o ≡ None
not_some None test is holds = refl
not_some (Some n) test is holds = absurd (false≢true (sym (is ∙ ap not holds)))

pub inside : (marks marks' links : List (Option ℕ)) (s t k : ℕ) → t < k → k ≤ length links
    → length marks' ≡ length marks → length marks ≡ length links → t < length marks'
inside marks marks' links s t k less within same all = omega (arith, less, within, same, all)
