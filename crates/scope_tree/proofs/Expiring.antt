-- One advance: deadlines pass, the earliest first, and each hit comes after those before it.
use Rattle.run_model.proofs.Common.{◌≡◌, ◌≢◌, ◌⊎◌, ◌+◌, ◌*◌, ◌<◌, ◌≤◌, ℕ, zero, suc, true, false}
use Rattle.run_model.proofs.Common.{List, [], ◌∷◌, length, map, Option, Some, None, slice_get}
use Rattle.run_model.proofs.Common.{unwrap_or, inl, inr, refl, sym, ap, ◌∙◌, subst, arith}
use Rattle.run_model.proofs.Common.{option_and_then, option_map, option_map_or, option_or}
use Rattle.run_model.proofs.Common.{cases_lt, cases_eq, length-map, none-some, same_Some}
use Rattle.run_model.proofs.Common.{slice_get_within, at_row, own_hit, own_deadline, is_detached}
use Rattle.run_model.proofs.Common.{comes_before, ending, with_hit, tick, hit_due}
use Rattle.run_model.proofs.Common.{length-at_row, slice_get-at_row_same, map_cases}
use Rattle.run_model.proofs.Common.{slice_get-at_row_other}
use Rattle.std.specs.Option.{IsSome}
use Rattle.std.specs.Cmp.{nat_cmp_is}
use Rattle.std.specs.declared.cmp.Ordering.TheVariants.{Less, Equal, Greater}
use Rattle.run_model.specs.declared.bounds.TheConstants.{MOST_SCOPES}
use Rattle.run_model.specs.declared.scopes.Hit.{Hit}
use Rattle.run_model.specs.declared.scopes.Scope.{Scope}
use Rattle.model_laws.specs.Endings.{AreEarlier}
use Rattle.model_laws.proofs.Follows.{tick_follows}
use Rattle.model_laws.proofs.Stays.{earlier_comes_before, later_comes_after}
use Rattle.scope_tree.specs.Deadlines.{deadline_at, due_at, key, Among, TakesFirst, AreWaiting}
use Rattle.scope_tree.specs.Marks.{AreKept, Struck}
use Rattle.scope_tree.proofs.Latest.{IsLatest, latest_stays}
use Rattle.scope_tree.proofs.Marking.{own_hit_within}
use Rattle.scope_tree.proofs.Waiting.{HasDeadline, HasCome, has_deadline, has_come, key_is, due_is}
use Rattle.scope_tree.proofs.Waiting.{undue, deadline_hit, own_cases, own_kept, heap_over}
use Rattle.model_laws.proofs.Interrupts.{hit_twice}

-- The hits of this event come no later than the deadlines that wait.
abbrev pub ComeBefore : List Scope → List ℕ → ℕ → Type 0
ComeBefore rows due event = (t : ℕ) (h : Hit) → own_hit rows t ≡ Some h
    → (h.event < event)
    ⊎ ((h.event ≡ event) × ((n : ℕ) → Among n due → h.moment * MOST_SCOPES + t ≤ key rows n))

-- ---- the order of hits

lex_before : (a b : ℕ × Hit) → a.1.event ≡ b.1.event
    → (a.1.moment < b.1.moment) ⊎ ((a.1.moment ≡ b.1.moment) × (a.0 < b.0))
    → (comes_before a b ≡ true) × (comes_before b a ≡ false)
lex_before a b same (inl less) = (
  rw (
    sym (nat_cmp_is a.1.event b.1.event Equal same),
    sym (nat_cmp_is a.1.moment b.1.moment Less less),
  ) refl,
  rw (
    sym (nat_cmp_is b.1.event a.1.event Equal (sym same)),
    sym (nat_cmp_is b.1.moment a.1.moment Greater less),
  ) refl,
)
lex_before a b same (inr two) = (
  rw (
    sym (nat_cmp_is a.1.event b.1.event Equal same),
    sym (nat_cmp_is a.1.moment b.1.moment Equal two.0),
    sym (nat_cmp_is a.0 b.0 Less two.1),
  ) refl,
  rw (
    sym (nat_cmp_is b.1.event a.1.event Equal (sym same)),
    sym (nat_cmp_is b.1.moment a.1.moment Equal (sym two.0)),
    sym (nat_cmp_is b.0 a.0 Greater two.1),
  ) refl,
)

strictly : (x t m n : ℕ) → x * MOST_SCOPES + t ≤ m * MOST_SCOPES + n → t < MOST_SCOPES
    → n < MOST_SCOPES → t ≢ n → (x < m) ⊎ ((x ≡ m) × (t < n))
strictly x t m n less t_small n_small other = elim (cases_lt x m) [
  | inl lower ↦ inl lower
  | inr reached ↦ inr (
    omega (arith, less, t_small, n_small, reached),
    omega (arith, less, t_small, n_small, reached, other),
  )
]

-- The hit of the soonest deadline that waits comes after all others.
latest_of : (rows : List Scope) (due : List ℕ) (event n : ℕ) (hit : Hit)
    → length rows ≤ MOST_SCOPES → ComeBefore rows due event → Among n due
    → key rows n ≡ hit.moment * MOST_SCOPES + n → n < length rows → hit.event ≡ event
    → own_hit rows n ≡ None → IsLatest rows n hit
latest_of rows due event n hit few before among is within of free t h own =
    elim (before t h own) [
      | inl less ↦ (
        earlier_comes_before (t, h) (n, hit) (omega (arith, less, of)),
        later_comes_after (n, hit) (t, h) (omega (arith, less, of)),
      )
      | inr same ↦ (let small : t < length rows = own_hit_within rows t h own in
          lex_before (t, h) (n, hit) (same.0 ∙ sym of)
          (strictly h.moment t hit.moment n
          (subst (λ k. h.moment * MOST_SCOPES + t ≤ k) is (same.1 n among))
          (omega (arith, small, few)) (omega (arith, within, few))
          (λ e. none-some h (sym free ∙ ap (own_hit rows) (sym e) ∙ own))))
    ]

-- ---- a row that has a hit

hit_again : (hit : Hit) (row : Scope) (had : Option Hit) (x : Hit) → row.hit ≡ had
    → had ≡ Some x → with_hit hit row ≡ row
hit_again hit row had x at is =
    ap (λ o. record row { hit = option_or o (Some hit) }) (at ∙ is)
    ∙ ap (λ o. record row { hit = o }) (sym (at ∙ is))

rows_again : (hit : Hit) (n : ℕ) (rows : List Scope) (x : Hit) → own_hit rows n ≡ Some x
    → at_row (with_hit hit) n rows ≡ rows
rows_again hit n [] x own = refl
rows_again hit zero (row ∷ rows) x own = ap (λ r. r ∷ rows) (hit_again hit row row.hit x refl own)
rows_again hit (suc n) (row ∷ rows) x own = ap (λ l. row ∷ l) (rows_again hit n rows x own)

-- ---- the deadlines that passed so far

-- Each row is as it was, or as it is after the event.
pub record Passing (start rows : List Scope) (links marks : List (Option ℕ)) (due : List ℕ)
    (event now : ℕ) : Type 0 where
  pub size : length rows ≡ length start
  pub kept : AreKept rows marks links
  pub waiting : AreWaiting rows due
  pub each : (s : ℕ) (row : Scope) → slice_get start s ≡ Some row
      → (slice_get rows s ≡ Some row) ⊎ (slice_get rows s ≡ Some (tick event now row))
  pub before : ComeBefore rows due event

pub passing_starts : (rows : List Scope) (links marks : List (Option ℕ)) (due : List ℕ)
    (event now : ℕ) → AreKept rows marks links → AreWaiting rows due → AreEarlier rows event
    → Passing rows rows links marks due event now
passing_starts rows links marks due event now kept waiting later = record {
  size = refl;
  kept = kept;
  waiting = waiting;
  each = λ s row found. inl found;
  before = λ t h own. inl (later t h own);
}

-- The soonest deadline passes.
module _ (start rows : List Scope) (links marks : List (Option ℕ)) (due due' : List ℕ)
    (event now n : ℕ) (hit : Hit) (was : Passing start rows links marks due event now)
    (takes : TakesFirst rows due n due') (comes : due_at event now rows n ≡ Some hit) where
  has : HasDeadline rows n
  has = has_deadline rows n (was.waiting.dues n takes.among)

  hit_is : HasCome event has.row.kind hit
  hit_is = has_come event now has.row.kind hit
      (sym (due_is event now rows n has.row has.found) ∙ comes)

  pub passing_known : n < length rows
  passing_known = slice_get_within rows n has.row has.found

  moment_is : has.moment ≡ hit.moment
  moment_is = same_Some has.moment hit.moment (sym has.own ∙ hit_is.own)

  key_of_hit : key rows n ≡ hit.moment * MOST_SCOPES + n
  key_of_hit = key_is rows n has ∙ ap (λ m. m * MOST_SCOPES + n) moment_is

  stays : (o : Option Hit) → own_hit rows n ≡ o → (s : ℕ) (h : Hit) → s < length rows
      → ending rows s ≡ Some h → ending (at_row (with_hit hit) n rows) s ≡ Some h
  stays None own s h known ended =
      latest_stays rows n hit was.kept.ordered own
      (latest_of rows due event n hit was.kept.few was.before takes.among key_of_hit passing_known
      hit_is.event own) s h ended known
  stays (Some x) own s h known ended =
      ap (λ l. ending l s) (rows_again hit n rows x own) ∙ ended

  pub passing_struck : Struck rows n hit
  passing_struck = record {
    joins = λ row found. subst (λ r. is_detached r.kind ≡ false)
        (same_Some has.row row (sym has.found ∙ found)) hit_is.joins;
    stays = stays (own_hit rows n) refl;
  }

  abbrev pub after : List Scope
  after = at_row (with_hit hit) n rows

  -- What ticks is hit.
  ticks : (row : Scope) → hit_due event now row.kind ≡ Some hit
      → tick event now row ≡ with_hit hit row
  ticks row due_is = ap (λ o. option_map_or (λ h. with_hit h row) o row) due_is

  due_now : (row : Scope) → slice_get rows n ≡ Some row → hit_due event now row.kind ≡ Some hit
  due_now row found = sym (due_is event now rows n row found) ∙ comes

  each_after : (s : ℕ) (row : Scope) → slice_get start s ≡ Some row
      → (slice_get after s ≡ Some row) ⊎ (slice_get after s ≡ Some (tick event now row))
  each_after s row found = elim (cases_eq s n) [
    | inr other ↦ (let same = slice_get-at_row_other (with_hit hit) n s rows other in
        elim (was.each s row found) [ inl old ↦ inl (same ∙ old) | inr new ↦ inr (same ∙ new) ])
    | inl here ↦ (let there : slice_get after s ≡ option_map (with_hit hit) (slice_get rows s) =
        ap (slice_get after) here ∙ slice_get-at_row_same (with_hit hit) n rows
        ∙ ap (λ k. option_map (with_hit hit) (slice_get rows k)) (sym here) in
        elim (was.each s row found) [
          | inl old ↦ inr (there ∙ ap (option_map (with_hit hit)) old
              ∙ ap Some (sym (ticks row (due_now row (ap (slice_get rows) (sym here) ∙ old)))))
          | inr new ↦ (let kind = (tick_follows event now row).kind in
              let is : hit_due event now row.kind ≡ Some hit =
              ap (hit_due event now) (sym kind)
              ∙ due_now (tick event now row) (ap (slice_get rows) (sym here) ∙ new) in
              inr (there ∙ ap (option_map (with_hit hit)) new
              ∙ ap (λ r. Some (with_hit hit r)) (ticks row is) ∙ ap Some (hit_twice hit row)
              ∙ ap Some (sym (ticks row is))))
        ])
  ]

  key_after : (k : ℕ) → key after k ≡ key rows k
  key_after k = ap (λ o. unwrap_or o 0 * MOST_SCOPES + k)
      (deadline_hit hit n rows k)

  before_after : ComeBefore after due' event
  before_after t h own = elim (own_cases hit n rows t h own) [
    | inl had ↦ elim (was.before t h had) [
      | inl less ↦ inl less
      | inr same ↦ inr (same.0, λ k among. rw (key_after k) (same.1 k (takes.back k among)))
    ]
    | inr new ↦ inr (
      ap (λ (x : Hit). x.event) new.1 ∙ hit_is.event,
      λ k among. rw (key_after k, new.0, new.1) (subst (λ x. x ≤ key rows k) key_of_hit
          (takes.least k (takes.back k among))),
    )
  ]

  waiting_after : AreWaiting after due'
  waiting_after = record {
    heap = heap_over rows after due' takes.heap (omega (
      arith,
      length-at_row (with_hit hit) n rows,
    ))
        (λ k less. deadline_hit hit n rows k);
    fits = omega (
      arith,
      takes.size,
      was.waiting.fits,
      length-at_row (with_hit hit) n rows,
    );
    dues = λ k among. subst IsSome (sym (deadline_hit hit n rows k))
        (was.waiting.dues k (takes.back k among));
    waits = λ k some none.
        elim (takes.others k (was.waiting.waits k (subst IsSome (deadline_hit hit n rows k) some)
        (own_kept hit n rows k none))) [
          | inr other ↦ other
          | inl same ↦ absurd (unhit (ap (own_hit after) (sym same) ∙ none))
        ];
  }
    where
      unhit : own_hit after n ≡ None → ⊥
      unhit none = by_own has.row.hit
          (sym (ap (option_and_then (λ r. r.hit)) (slice_get-at_row_same (with_hit hit) n rows
          ∙ ap (option_map (with_hit hit)) has.found)) ∙ none)
        where
          by_own : (had : Option Hit) → option_or had (Some hit) ≡ None → ⊥
          by_own None is = none-some hit (sym is)
          by_own (Some x) is = none-some x (sym is)

  pub passing_goes_on : (rows' : List Scope) (marks' : List (Option ℕ)) → rows' ≡ after
      → AreKept rows' marks' links → Passing start rows' links marks' due' event now
  passing_goes_on rows' marks' is kept = rw is (record {
    size = length-at_row (with_hit hit) n rows ∙ was.size;
    kept = subst (λ l. AreKept l marks' links) is kept;
    waiting = waiting_after;
    each = each_after;
    before = before_after;
  })

-- ---- the end

same_by : {X : Type 0} (xs ys : List X) → length xs ≡ length ys
    → ((s : ℕ) (x : X) → slice_get ys s ≡ Some x → slice_get xs s ≡ Some x) → xs ≡ ys
same_by [] [] size each = refl
same_by [] (y ∷ ys) size each = absurd (omega (arith, size))
same_by (x ∷ xs) [] size each = absurd (omega (arith, size))
same_by (x ∷ xs) (y ∷ ys) size each =
    ap (λ z. z ∷ xs) (same_Some x y (each 0 y refl))
    ∙ ap (λ l. y ∷ l) (same_by xs ys (omega (arith, size)) (λ s z found. each (suc s) z found))

-- A row that nothing is due at doesn't tick.
undue_stays : (e now : ℕ) (row : Scope) → hit_due e now row.kind ≡ None → tick e now row ≡ row
undue_stays e now row none = ap (λ o. option_map_or (λ h. with_hit h row) o row) none

-- Nor does one that has a hit.
hit_stays : (e now : ℕ) (row : Scope) (x : Hit) → row.hit ≡ Some x → tick e now row ≡ row
hit_stays e now row x own = by_due (hit_due e now row.kind)
  where
    by_due : (o : Option Hit) → option_map_or (λ h. with_hit h row) o row ≡ row
    by_due None = refl
    by_due (Some h) = hit_again h row row.hit x refl own

-- If no waiting deadline has come, each row is as it is after the event.
pub all_passed : (start rows : List Scope) (links marks : List (Option ℕ)) (due : List ℕ)
    (event now : ℕ) → Passing start rows links marks due event now
    → ((n : ℕ) → Among n due → due_at event now rows n ≡ None) → rows ≡ map (tick event now) start
all_passed start rows links marks due event now was none =
    same_by rows (map (tick event now) start) (was.size ∙ sym (length-map start (tick event now)))
    (λ s x found. (let it = map_cases (tick event now) s start x found in
    elim (was.each s it.0 it.1) [
      | inr ticked ↦ ticked ∙ ap Some (sym it.2)
      | inl old ↦ old ∙ ap Some (sym (it.2 ∙ still s it.0 old))
    ]))
  where
    by_deadline : (s : ℕ) (row : Scope) → slice_get rows s ≡ Some row → row.hit ≡ None
        → (o : Option ℕ) → own_deadline row.kind ≡ o → tick event now row ≡ row
    by_deadline s row found free None own =
        undue_stays event now row (undue event now row.kind own)
    by_deadline s row found free (Some m) own =
        let some : IsSome (deadline_at rows s) =
        subst IsSome (sym (ap (option_and_then (λ r. own_deadline r.kind)) found ∙ own)) refl in
        let waits = was.waiting.waits s some (ap (option_and_then (λ r. r.hit)) found ∙ free) in
        undue_stays event now row
        (sym (due_is event now rows s row found) ∙ none s waits)

    by_hit : (s : ℕ) (row : Scope) → slice_get rows s ≡ Some row → (o : Option Hit)
        → row.hit ≡ o → tick event now row ≡ row
    by_hit s row found None own = by_deadline s row found own (own_deadline row.kind) refl
    by_hit s row found (Some x) own = hit_stays event now row x own

    still : (s : ℕ) (row : Scope) → slice_get rows s ≡ Some row → tick event now row ≡ row
    still s row found = by_hit s row found row.hit refl
