-- Deadlines that haven't passed, while the rows change.
use Rattle.run_model.proofs.Common.{◌≡◌, ◌⊎◌, ◌+◌, ◌*◌, ◌<◌, ◌≤◌, ℕ, suc, Bool, true, false, cond}
use Rattle.run_model.proofs.Common.{nat_le, List, [], ◌∷◌, ◌++◌, length, Option, Some, None}
use Rattle.run_model.proofs.Common.{slice_get, get_or, is_some, is_none, ◌&&◌, unwrap_or, inl, inr}
use Rattle.run_model.proofs.Common.{refl, sym, ap, ◌∙◌, arith, subst, length-append}
use Rattle.run_model.proofs.Common.{option_and_then, option_map, option_or, cases_eq, cases_lt}
use Rattle.run_model.proofs.Common.{false≢true, leb-false, lt-leb, get_or_append_left, get_or_push}
use Rattle.run_model.proofs.Common.{none-some, same_Some, cond_some, slice_get_within, at_row}
use Rattle.run_model.proofs.Common.{own_deadline, own_hit, is_detached, with_hit, hit_due, new_hit}
use Rattle.run_model.proofs.Common.{length-at_row, slice_get-at_row_same, slice_get-at_row_other}
use Rattle.run_model.proofs.Common.{slice_get-push_left, slice_get_read, and_from, and_parts}
use Rattle.std.specs.Option.{IsSome}
use Rattle.run_model.specs.declared.bounds.TheConstants.{MOST_SCOPES}
use Rattle.run_model.specs.declared.scopes.Hit.{Hit}
use Rattle.run_model.specs.declared.scopes.Kind.{Kind}
use Rattle.run_model.specs.declared.scopes.Kind.TheVariants as kinds
use Rattle.run_model.specs.declared.scopes.Scope.{Scope}
use Rattle.run_model.specs.declared.scopes.Reason.TheVariants.{DeadlineExceeded}
use Rattle.scope_tree.specs.Deadlines.{deadline_at, due_at, key, key_at, Among, IsDueHeap, Noted}
use Rattle.scope_tree.specs.Deadlines.{SameNumbers, AreWaiting}
use Rattle.scope_tree.proofs.HeapSteps.{heap_least}
use Rattle.scope_tree.proofs.Heaps.{among_push}

-- ---- a scope's deadline

-- Scope n has a deadline of its own.
pub record HasDeadline (rows : List Scope) (n : ℕ) : Type 0 where
  pub row : Scope
  pub moment : ℕ
  pub found : slice_get rows n ≡ Some row
  pub own : own_deadline row.kind ≡ Some moment

pub has_deadline : (rows : List Scope) (n : ℕ) → IsSome (deadline_at rows n) → HasDeadline rows n
has_deadline rows n some = by_row (slice_get rows n) refl some
  where
    by_own : (row : Scope) (own : Option ℕ) → slice_get rows n ≡ Some row
        → own_deadline row.kind ≡ own → IsSome own → HasDeadline rows n
    by_own row None found at some = absurd (false≢true some)
    by_own row (Some m) found at some =
        record { row = row; moment = m; found = found; own = at }

    by_row : (o : Option Scope) → slice_get rows n ≡ o
        → IsSome (option_and_then (λ row. own_deadline row.kind) o) → HasDeadline rows n
    by_row None at some = absurd (false≢true some)
    by_row (Some row) at some = by_own row (own_deadline row.kind) at refl some

pub key_is : (rows : List Scope) (n : ℕ) (h : HasDeadline rows n)
    → key rows n ≡ h.moment * MOST_SCOPES + n
key_is rows n h =
    ap (λ o. unwrap_or o 0 * MOST_SCOPES + n)
    (ap (option_and_then (λ row. own_deadline row.kind)) h.found ∙ h.own)

pub due_is : (e clock : ℕ) (rows : List Scope) (n : ℕ) (row : Scope) → slice_get rows n ≡ Some row
    → due_at e clock rows n ≡ hit_due e clock row.kind
due_is e clock rows n row found = ap (option_and_then (λ r. hit_due e clock r.kind)) found

-- ---- a kind's hit

late : (e clock : ℕ) (kind : Kind) (m : ℕ) → own_deadline kind ≡ Some m
    → hit_due e clock kind ≡ None → clock < m
late e clock (kinds.Deadline moment cause) m own none =
    by_test (nat_le moment clock) refl none
  where
    by_test : (b : Bool) → nat_le moment clock ≡ b → cond b
        (Some (new_hit e moment DeadlineExceeded cause)) None ≡ None
        → clock < m
    by_test true is at = absurd (none-some (new_hit e moment DeadlineExceeded cause) (sym at))
    by_test false is at =
        let less : clock < moment = leb-false moment clock is in
        let same : moment ≡ m = same_Some moment m own in
        omega arith
late e clock kinds.Root m own none = absurd (none-some m own)
late e clock kinds.Cancel m own none = absurd (none-some m own)
late e clock kinds.Cause m own none = absurd (none-some m own)
late e clock (kinds.Value key text) m own none = absurd (none-some m own)
late e clock kinds.Detached m own none = absurd (none-some m own)
late e clock kinds.Group m own none = absurd (none-some m own)

early : (e clock : ℕ) (kind : Kind) (m : ℕ) → own_deadline kind ≡ Some m → clock < m
    → hit_due e clock kind ≡ None
early e clock (kinds.Deadline moment cause) m own less =
    let same : moment ≡ m = same_Some moment m own in
    ap (λ b. cond b (Some (new_hit e moment DeadlineExceeded cause)) None)
    (lt-leb moment clock (omega arith))
early e clock kinds.Root m own less = refl
early e clock kinds.Cancel m own less = refl
early e clock kinds.Cause m own less = refl
early e clock (kinds.Value key text) m own less = refl
early e clock kinds.Detached m own less = refl
early e clock kinds.Group m own less = refl

pub undue : (e clock : ℕ) (kind : Kind) → own_deadline kind ≡ None → hit_due e clock kind ≡ None
undue e clock (kinds.Deadline moment cause) none = absurd (none-some moment (sym none))
undue e clock kinds.Root none = refl
undue e clock kinds.Cancel none = refl
undue e clock kinds.Cause none = refl
undue e clock (kinds.Value key text) none = refl
undue e clock kinds.Detached none = refl
undue e clock kinds.Group none = refl

-- If the deadline of a kind has come, its hit is of this event, and at the moment of the deadline.
pub record HasCome (e : ℕ) (kind : Kind) (hit : Hit) : Type 0 where
  pub own : own_deadline kind ≡ Some hit.moment
  pub event : hit.event ≡ e
  pub joins : is_detached kind ≡ false

pub has_come : (e clock : ℕ) (kind : Kind) (hit : Hit) → hit_due e clock kind ≡ Some hit
    → HasCome e kind hit
has_come e clock (kinds.Deadline moment cause) hit due =
    let parts = cond_some (nat_le moment clock) (new_hit e moment DeadlineExceeded cause) hit due in
    subst (HasCome e (kinds.Deadline moment cause)) parts.1
    (record { own = refl; event = refl; joins = refl })
has_come e clock kinds.Root hit due = absurd (none-some hit due)
has_come e clock kinds.Cancel hit due = absurd (none-some hit due)
has_come e clock kinds.Cause hit due = absurd (none-some hit due)
has_come e clock (kinds.Value key text) hit due = absurd (none-some hit due)
has_come e clock kinds.Detached hit due = absurd (none-some hit due)
has_come e clock kinds.Group hit due = absurd (none-some hit due)

-- ---- none has come

-- If the first deadline hasn't come, none has.
pub none_due : (e clock : ℕ) (rows : List Scope) (due : List ℕ) → AreWaiting rows due
    → length rows ≤ MOST_SCOPES
    → (0 < length due → due_at e clock rows (get_or due 0 0) ≡ None)
    → (n : ℕ) → Among n due → due_at e clock rows n ≡ None
none_due e clock rows due waiting few first n among =
    let some : 0 < length due = omega (arith, among.1) in
    let at = get_or due 0 0 in
    let a = has_deadline rows at (waiting.dues at (0, some, refl)) in
    let b = has_deadline rows n (waiting.dues n among) in
    let later : clock < a.moment = late e clock a.row.kind a.moment a.own
    (sym (due_is e clock rows at a.row a.found) ∙ first some) in
    let least : key rows at ≤ key rows n =
    subst (λ k. key rows at ≤ key rows k) among.2
    (heap_least (key_at rows due) (length due) (suc among.0) among.0 (omega arith)
    waiting.heap.heap among.1) in
    let small : n < length rows = slice_get_within rows n b.row b.found in
    due_is e clock rows n b.row b.found
    ∙ early e clock b.row.kind b.moment b.own
    (omega (arith, later, least, small, few, key_is rows at a, key_is rows n b))

-- ---- the heap over other rows

key_same : (rows rows' : List Scope) (n : ℕ) → deadline_at rows' n ≡ deadline_at rows n
    → key rows' n ≡ key rows n
key_same rows rows' n same = ap (λ o. unwrap_or o 0 * MOST_SCOPES + n) same

pub heap_over : (rows rows' : List Scope) (due : List ℕ) → IsDueHeap rows due
    → length rows ≤ length rows'
    → ((n : ℕ) → n < length rows → deadline_at rows' n ≡ deadline_at rows n) → IsDueHeap rows' due
heap_over rows rows' due was more same = record {
  known = λ n among. let less : n < length rows = was.known n among in omega arith;
  few = was.few;
  heap = λ p j pair less.
      let a = key_same rows rows' (get_or due p 0) (same (get_or due p 0)
      (was.known (get_or due p 0) (p, omega (arith, pair.0, less), refl))) in
      let b = key_same rows rows' (get_or due j 0) (same (get_or due j 0)
      (was.known (get_or due j 0) (j, less, refl))) in
      rw (a, b) (was.heap p j pair less);
}

pub waiting_over : (rows rows' : List Scope) (due : List ℕ) → AreWaiting rows due
    → length rows' ≡ length rows → ((n : ℕ) → deadline_at rows' n ≡ deadline_at rows n)
    → ((n : ℕ) → own_hit rows' n ≡ None → own_hit rows n ≡ None) → AreWaiting rows' due
waiting_over rows rows' due was size same free = record {
  heap = heap_over rows rows' due was.heap (omega (arith, size)) (λ n less. same n);
  fits = omega (arith, was.fits, size);
  dues = λ n among. subst IsSome (sym (same n)) (was.dues n among);
  waits = λ n some none. was.waits n (subst IsSome (same n) some) (free n none);
}

-- ---- a hit more

pub deadline_hit : (hit : Hit) (s : ℕ) (rows : List Scope) (n : ℕ)
    → deadline_at (at_row (with_hit hit) s rows) n ≡ deadline_at rows n
deadline_hit hit s rows n = elim (cases_eq n s) [
  | inr other ↦ ap (option_and_then (λ r. own_deadline r.kind))
      (slice_get-at_row_other (with_hit hit) s n rows other)
  | inl here ↦ subst (λ k. deadline_at (at_row (with_hit hit) s rows) k ≡ deadline_at rows k)
      (sym here)
      (ap (option_and_then (λ r. own_deadline r.kind)) (slice_get-at_row_same
      (with_hit hit) s rows)
      ∙ kept (slice_get rows s))
]
  where
    kept : (o : Option Scope)
        → option_and_then (λ r. own_deadline r.kind) (option_map (with_hit hit) o)
        ≡ option_and_then (λ r. own_deadline r.kind) o
    kept None = refl
    kept (Some row) = refl

-- The origin of a hit in the changed rows.
pub own_cases : (hit : Hit) (s : ℕ) (rows : List Scope) (n : ℕ) (h : Hit)
    → own_hit (at_row (with_hit hit) s rows) n ≡ Some h
    → (own_hit rows n ≡ Some h) ⊎ ((n ≡ s) × (h ≡ hit) × (own_hit rows s ≡ None))
own_cases hit s rows n h own = elim (cases_eq n s) [
  | inr other ↦ inl (sym (ap (option_and_then (λ r. r.hit))
      (slice_get-at_row_other (with_hit hit) s n rows other)) ∙ own)
  | inl here ↦ by_row here (slice_get rows s) refl
      (sym (ap (option_and_then (λ r. r.hit)) (slice_get-at_row_same (with_hit hit) s rows))
      ∙ ap (own_hit (at_row (with_hit hit) s rows)) (sym here) ∙ own)
]
  where
    by_own : (row : Scope) → n ≡ s → slice_get rows s ≡ Some row → (had : Option Hit)
        → row.hit ≡ had → option_or had (Some hit) ≡ Some h
        → (own_hit rows n ≡ Some h) ⊎ ((n ≡ s) × (h ≡ hit) × (own_hit rows s ≡ None))
    by_own row here found None at is = inr (
      here,
      sym (same_Some hit h is),
      ap (option_and_then (λ r. r.hit)) found ∙ at,
    )
    by_own row here found (Some x) at is =
        inl (ap (own_hit rows) here ∙ ap (option_and_then (λ r. r.hit)) found ∙ at ∙ is)

    by_row : n ≡ s → (o : Option Scope) → slice_get rows s ≡ o
        → option_and_then (λ r. r.hit) (option_map (with_hit hit) o) ≡ Some h
        → (own_hit rows n ≡ Some h) ⊎ ((n ≡ s) × (h ≡ hit) × (own_hit rows s ≡ None))
    by_row here None at is = absurd (none-some h is)
    by_row here (Some row) at is =
        by_own row here at row.hit refl is

pub own_kept : (hit : Hit) (s : ℕ) (rows : List Scope) (n : ℕ)
    → own_hit (at_row (with_hit hit) s rows) n ≡ None → own_hit rows n ≡ None
own_kept hit s rows n none = elim (cases_eq n s) [
  | inr other ↦ sym (ap (option_and_then (λ r. r.hit))
      (slice_get-at_row_other (with_hit hit) s n rows other)) ∙ none
  | inl here ↦ ap (own_hit rows) here ∙ by_row (slice_get rows s)
      (sym (ap (option_and_then (λ r. r.hit)) (slice_get-at_row_same (with_hit hit) s rows))
      ∙ ap (own_hit (at_row (with_hit hit) s rows)) (sym here) ∙ none)
]
  where
    by_own : (had : Option Hit) → option_or had (Some hit) ≡ None → had ≡ None
    by_own None is = refl
    by_own (Some x) is = absurd (none-some x (sym is))

    by_row : (o : Option Scope)
        → option_and_then (λ r. r.hit) (option_map (with_hit hit) o) ≡ None
        → option_and_then (λ r. r.hit) o ≡ None
    by_row None is = refl
    by_row (Some row) is = by_own row.hit is

pub waiting_hit : (hit : Hit) (s : ℕ) (rows : List Scope) (due : List ℕ) → AreWaiting rows due
    → AreWaiting (at_row (with_hit hit) s rows) due
waiting_hit hit s rows due was =
    waiting_over rows (at_row (with_hit hit) s rows) due was (length-at_row (with_hit hit) s rows)
    (deadline_hit hit s rows) (own_kept hit s rows)

-- ---- a row more

-- The row has a deadline and no hit.
abbrev pub waits_still : Scope → Bool
waits_still row = is_some (own_deadline row.kind) && is_none row.hit

none_is : {X : Type 0} (o : Option X) → o ≡ None → is_none o ≡ true
none_is o none = ap is_none none

-- The row at n is read.
module _ (rows : List Scope) (old : List ℕ) (n : ℕ) (row : Scope) (known : n < length rows)
    (read : row ≡ get_or rows n row) where
  found : slice_get rows n ≡ Some row
  found = slice_get_read rows _ n row refl known read

  deadline_is : deadline_at rows n ≡ own_deadline row.kind
  deadline_is = ap (option_and_then (λ r. own_deadline r.kind)) found

  pub noted_pushed : (new : List ℕ) → true ≡ waits_still row → IsDueHeap rows new
      → SameNumbers (old ++ n ∷ []) new → Noted rows old n new
  noted_pushed new waits heap same = record {
    heap = heap;
    size = omega (arith, same.size, length-append old (n ∷ []));
    kept = λ m among. same.there m (
      among.0,
      omega (arith, among.1, length-append old (n ∷ [])),
      get_or_append_left old (n ∷ []) 0 among.0 among.1 ∙ among.2,
    );
    only = λ m among. elim (among_push m n old (same.back m among)) [
      | inl was ↦ inl was
      | inr is ↦ inr (
        is,
        subst IsSome (sym deadline_is)
            (and_parts (is_some (own_deadline row.kind)) (is_none row.hit) (sym waits)).0,
      )
    ];
    waits = λ some none. same.there n (
      length old,
      omega (arith, length-append old (n ∷ [])),
      get_or_push old n 0 (length old) refl,
    );
  }

  pub noted_same : false ≡ waits_still row → IsDueHeap rows old → Noted rows old n old
  noted_same waits heap = record {
    heap = heap;
    size = omega arith;
    kept = λ m among. among;
    only = λ m among. inl among;
    waits = λ some none. absurd (false≢true (waits
        ∙ and_from (is_some (own_deadline row.kind)) (is_none row.hit)
        (subst IsSome deadline_is some)
        (none_is row.hit (sym (ap (option_and_then (λ r. r.hit)) found) ∙ none))));
  }

deadline_pushed : (rows : List Scope) (row : Scope) (n : ℕ) → n < length rows
    → deadline_at (rows ++ row ∷ []) n ≡ deadline_at rows n
deadline_pushed rows row n less =
    ap (option_and_then (λ r. own_deadline r.kind)) (slice_get-push_left rows row n less)

pub heap_pushed : (rows rows' : List Scope) (row : Scope) (due : List ℕ) → IsDueHeap rows due
    → rows' ≡ rows ++ row ∷ [] → IsDueHeap rows' due
heap_pushed rows rows' row due was pushed =
    rw pushed (heap_over rows (rows ++ row ∷ []) due was
    (omega (arith, length-append rows (row ∷ []))) (deadline_pushed rows row))

noted_waits : (rows : List Scope) (row : Scope) (due due' : List ℕ) → AreWaiting rows due
    → Noted (rows ++ row ∷ []) due (length rows) due' → AreWaiting (rows ++ row ∷ []) due'
noted_waits rows row due due' was noted = record {
  heap = noted.heap;
  fits = omega (arith, noted.size, was.fits, length-append rows (row ∷ []));
  dues = λ n among. elim (noted.only n among) [
    | inl old ↦ subst IsSome (sym (deadline_pushed rows row n (was.heap.known n old)))
        (was.dues n old)
    | inr last ↦ subst (λ k. IsSome (deadline_at (rows ++ row ∷ []) k)) (sym last.0) last.1
  ];
  waits = λ n some none. elim (cases_lt n (length rows)) [
    | inl less ↦ noted.kept n (was.waits n (subst IsSome (deadline_pushed rows row n less) some)
        (sym (ap (option_and_then (λ r. r.hit)) (slice_get-push_left rows row n less)) ∙ none))
    | inr more ↦ (let h = has_deadline (rows ++ row ∷ []) n some in
        let within = slice_get_within (rows ++ row ∷ []) n h.row h.found in
        let last : n ≡ length rows =
        omega (arith, more, within, length-append rows (row ∷ [])) in
        subst (λ k. Among k due') (sym last) (noted.waits
        (subst (λ k. IsSome (deadline_at (rows ++ row ∷ []) k)) last some)
        (subst (λ k. own_hit (rows ++ row ∷ []) k ≡ None) last none)))
  ];
}

pub waiting_pushed : (rows rows' lent : List Scope) (row : Scope) (due due' : List ℕ) (n : ℕ)
    → AreWaiting rows due → rows' ≡ rows ++ row ∷ [] → lent ≡ rows' → n ≡ length rows
    → Noted lent due n due' → AreWaiting rows' due'
waiting_pushed rows rows' lent row due due' n was pushed is last noted =
    rw pushed (noted_waits rows row due due' was (rw (← last, ← pushed, ← is) noted))
