-- A row that can follow keeps the rules, and the rows of a tree that keeps them can follow.
use Rattle.run_model.proofs.Common.{◌≡◌, ◌<◌, ◌≤◌, ℕ, zero, suc, ◌==◌, nat_le, not, cond, Bool}
use Rattle.run_model.proofs.Common.{true, false, List, [], ◌∷◌, ◌++◌, length, Option, Some, None}
use Rattle.run_model.proofs.Common.{slice_get, inl, inr, refl, sym, ap, ◌∙◌, subst, arith}
use Rattle.run_model.proofs.Common.{append_assoc, length-append, IsTrue, IsSome, flat_map}
use Rattle.run_model.proofs.Common.{AllByRecursion, option_map_or, bytes_eq, same_Some, none-some}
use Rattle.run_model.proofs.Common.{slice_get_within, ltb-true, lt-ltb, leb-true, le-leb, eqb-true}
use Rattle.run_model.proofs.Common.{eq-eqb, both_ways, bytes_eq-Decides, root, is_root}
use Rattle.run_model.proofs.Common.{own_deadline, AreOrdered, name_is_free, push_cases}
use Rattle.run_model.proofs.Common.{slice_get-push_left, append-nil, and_from}
use Rattle.run_model.specs.declared.scopes.Kind.{Kind}
use Rattle.run_model.specs.declared.scopes.Kind.TheVariants as kinds
use Rattle.run_model.specs.declared.scopes.Reason.{Reason}
use Rattle.run_model.specs.declared.scopes.Reason.TheVariants.{Canceled, DeadlineExceeded}
use Rattle.run_model.specs.declared.scopes.Hit.{Hit}
use Rattle.run_model.specs.declared.scopes.Scope.{Scope}
use Rattle.run_model.specs.RuleParts.{HitFits, AreScopeRules}
use Rattle.run_model.proofs.NameLemmas.{names_pushed, unpassed}
use Rattle.row_view.specs.Image.{is_kept_kind, is_kept_scope, scope_bytes}
use Rattle.row_view.specs.RowReading.{scope_at}
use Rattle.row_view.proofs.Codecs.{first_true, second_true, through}
use Rattle.row_view.proofs.RowFields.{scope_row}
use Rattle.scope_tree.specs.TreeRows.{can_follow, hit_fits, reason_fits, more_rows_at}
use Rattle.row_view.proofs.Checked.{cond_some_by}

-- ---- hits

reason_own : (reason : Reason) (deadline : Option ℕ) (moment : ℕ)
    → reason_fits reason deadline moment ≡ true → reason ≡ DeadlineExceeded
    → deadline ≡ Some moment
reason_own Canceled deadline moment ok same = absurd (cc)
reason_own DeadlineExceeded None moment ok same = absurd (cc)
reason_own DeadlineExceeded (Some d) moment ok same = ap Some (eqb-true d moment ok)

fitting : (count clock : ℕ) (kind : Kind) (hit : Hit)
    → hit_fits count clock kind (Some hit) ≡ true → HitFits count clock kind hit
fitting count clock kind hit ok =
    let a = first_true _ _ ok in
    let b = first_true _ _ a in
    let d = first_true _ _ b in
    record {
      can = first_true _ _ d;
      counted = leb-true 1 hit.event (second_true _ _ d);
      known = leb-true hit.event count (second_true _ _ b);
      past = leb-true hit.moment clock (second_true _ _ a);
      own = reason_own hit.reason (own_deadline kind) hit.moment (second_true _ _ ok);
    }

not_come : (deadline : Option ℕ) (clock moment : ℕ)
    → not (option_map_or (λ m. nat_le m clock) deadline false) ≡ true → deadline ≡ Some moment
    → moment ≤ clock → ⊥
not_come None clock moment ok e less = none-some moment e
not_come (Some m) clock moment ok e less =
    let same : m ≡ moment = same_Some m moment e in
    let come : nat_le m clock ≡ true = le-leb m clock (omega arith) in
    let refused : not true ≡ true = ap not (sym come) ∙ ok in
    absurd (cc)

hit_due_here : (count clock : ℕ) (kind : Kind) (hit : Option Hit) (moment : ℕ)
    → hit_fits count clock kind hit ≡ true → own_deadline kind ≡ Some moment → moment ≤ clock
    → IsSome hit
hit_due_here count clock kind None moment ok e less =
    absurd (not_come (own_deadline kind) clock moment ok e less)
hit_due_here count clock kind (Some hit) moment ok e less = refl

-- ---- the first row

found_root : (s : ℕ) (row : Scope) → slice_get (root ∷ []) s ≡ Some row → (s ≡ 0) × (row ≡ root)
found_root zero row found = (refl, sym (same_Some root row found))
found_root (suc s) row found = absurd (none-some row found)

pub rules_at_first : (count clock : ℕ) → AreScopeRules count clock (root ∷ [])
rules_at_first count clock = record {
  rooted = refl;
  alone = λ s row found is. (found_root s row found).0;
  names = λ s t a b f g same. (found_root s a f).0 ∙ sym (found_root t b g).0;
  ordered = λ s row found other.
      let same : true ≡ false = ap (λ r. is_root r.kind) (sym (found_root s row found).1) ∙ other
      in absurd (cc);
  hits = λ s row hit found has.
      absurd (none-some hit (ap (λ r. r.hit) (sym (found_root s row found).1) ∙ has));
  come = λ s moment row found due less.
      absurd (none-some moment (ap (λ r. own_deadline r.kind) (sym (found_root s row found).1)
      ∙ due));
}

-- ---- one row more

kept_below_root : (kind : Kind) → is_kept_kind kind ≡ true → is_root kind ≡ false
kept_below_root kinds.Root ok = sym ok
kept_below_root kinds.Cancel ok = refl
kept_below_root kinds.Cause ok = refl
kept_below_root (kinds.Deadline m c) ok = refl
kept_below_root (kinds.Value k t) ok = refl
kept_below_root kinds.Detached ok = refl
kept_below_root kinds.Group ok = refl

module _
    (count clock : ℕ) (rows : List Scope) (new : Scope)
    (old : AreScopeRules count clock rows) (ok : IsTrue (is_kept_scope new))
    (can : can_follow count clock rows new ≡ true) where
  parent : new.parent < length rows
  parent = ltb-true new.parent (length rows) (first_true _ _ (first_true _ _ can))

  free : (s : ℕ) (a : Scope) → slice_get rows s ≡ Some a → a.name ≡ new.name → ⊥
  free = name_is_free (λ (r : Scope). r.name) new.name rows (second_true _ _ (first_true _ _ can))

  fits : hit_fits count clock new.kind new.hit ≡ true
  fits = second_true _ _ can

  below : is_root new.kind ≡ false
  below = kept_below_root new.kind (second_true _ _ (first_true _ _ ok))

  alone_pushed : (s : ℕ) (row : Scope) → slice_get (rows ++ new ∷ []) s ≡ Some row
      → is_root row.kind ≡ true → s ≡ 0
  alone_pushed s row found is =
      elim (push_cases rows new s row found) [
        | inl x ↦ old.alone s row x is
        | inr x ↦ absurd (both_ways (is_root row.kind)
            (ap (λ (r : Scope). is_root r.kind) x.1 ∙ below) is)
      ]

  ordered_pushed : AreOrdered (rows ++ new ∷ [])
  ordered_pushed s row found other =
      elim (push_cases rows new s row found) [
        | inl x ↦ old.ordered s row x other
        | inr x ↦
            let same : row.parent ≡ new.parent = ap (λ (r : Scope). r.parent) x.1 in
            let less = parent in
            let here = x.0 in
            omega arith
      ]

  hits_pushed : (s : ℕ) (row : Scope) (hit : Hit) → slice_get (rows ++ new ∷ []) s ≡ Some row
      → row.hit ≡ Some hit → HitFits count clock row.kind hit
  hits_pushed s row hit found has =
      elim (push_cases rows new s row found) [
        | inl x ↦ old.hits s row hit x has
        | inr x ↦
            subst (λ (r : Scope). HitFits count clock r.kind hit) (sym x.1)
            (fitting count clock new.kind hit
            (ap (hit_fits count clock new.kind)
            (sym (ap (λ (r : Scope). r.hit) (sym x.1) ∙ has)) ∙ fits))
      ]

  come_pushed : (s moment : ℕ) (row : Scope) → slice_get (rows ++ new ∷ []) s ≡ Some row
      → own_deadline row.kind ≡ Some moment → moment ≤ clock → IsSome row.hit
  come_pushed s moment row found due less =
      elim (push_cases rows new s row found) [
        | inl x ↦ old.come s moment row x due less
        | inr x ↦
            subst (λ (r : Scope). IsSome r.hit) (sym x.1)
            (hit_due_here count clock new.kind new.hit moment fits
            (ap (λ (r : Scope). own_deadline r.kind) (sym x.1) ∙ due) less)
      ]

  pub rules_pushed : AreScopeRules count clock (rows ++ new ∷ [])
  rules_pushed = record {
    rooted =
        slice_get-push_left rows new 0 (slice_get_within rows 0 root old.rooted) ∙ old.rooted;
    alone = alone_pushed;
    names = names_pushed (λ (r : Scope). r.name) rows new old.names free;
    ordered = ordered_pushed;
    hits = hits_pushed;
    come = come_pushed;
  }

-- ---- all rows that were read

-- The rows after those that there were keep the rules, and are what the bytes begin with.
pub record AreMore
    (count clock n : ℕ) (rows : List Scope) (bytes : List ℕ) (x : List Scope × List ℕ)
    : Type 0 where
  pub more : List Scope
  pub all : x.0 ≡ rows ++ more
  pub many : length more ≡ n
  pub rules : AreScopeRules count clock x.0
  pub kept : AllByRecursion (λ row. IsTrue (is_kept_scope row)) more
  pub spelled : bytes ≡ flat_map scope_bytes more ++ x.1

pub more_are : (count clock n : ℕ) (rows : List Scope) (bytes : List ℕ) (x : List Scope × List ℕ)
    → AreScopeRules count clock rows → more_rows_at count clock n rows bytes ≡ Some x
    → AreMore count clock n rows bytes x
more_are count clock zero rows bytes x rules e =
    subst (AreMore count clock zero rows bytes) (same_Some (rows, bytes) x e) (record {
      more = [];
      all = sym (append-nil rows);
      many = refl;
      rules = rules;
      kept = tt;
      spelled = refl;
    })
more_are count clock (suc n) rows bytes x rules e =
    let next = λ (row : Scope × List ℕ).
    cond (can_follow count clock rows row.0)
    (more_rows_at count clock n (rows ++ row.0 ∷ []) row.1) None in
    let row = through (scope_at bytes) next x e in
    let can = cond_some_by (can_follow count clock rows row.0.0)
    (more_rows_at count clock n (rows ++ row.0.0 ∷ []) row.0.1) x row.2 in
    let taken = scope_row.takes bytes row.0 row.1 in
    let others = more_are count clock n (rows ++ row.0.0 ∷ []) row.0.1 x
    (rules_pushed count clock rows row.0.0 rules taken.tested can.0) can.1 in
    record {
      more = row.0.0 ∷ others.more;
      all = others.all ∙ append_assoc rows (row.0.0 ∷ []) others.more;
      many = ap suc others.many;
      rules = others.rules;
      kept = (taken.tested, others.kept);
      spelled =
          taken.spelled ∙ ap (λ l. scope_bytes row.0.0 ++ l) others.spelled
          ∙ sym (append_assoc (scope_bytes row.0.0) (flat_map scope_bytes others.more) x.1);
    }

-- ---- all rows that are written

abbrev pub AreAllKept : List Scope → Type 0
AreAllKept rows = AllByRecursion (λ row. IsTrue (is_kept_scope row)) rows

found_left : (prefix more : List Scope) (s : ℕ) (row : Scope) → slice_get prefix s ≡ Some row
    → slice_get (prefix ++ more) s ≡ Some row
found_left [] more s row found = absurd (none-some row found)
found_left (r ∷ prefix) more zero row found = found
found_left (r ∷ prefix) more (suc s) row found = found_left prefix more s row found

found_seam : (prefix : List Scope) (row : Scope) (back : List Scope)
    → slice_get (prefix ++ row ∷ back) (length prefix) ≡ Some row
found_seam [] row back = refl
found_seam (r ∷ prefix) row back = found_seam prefix row back

reason_right : (reason : Reason) (deadline : Option ℕ) (moment : ℕ)
    → (reason ≡ DeadlineExceeded → deadline ≡ Some moment)
    → reason_fits reason deadline moment ≡ true
reason_right Canceled deadline moment own = refl
reason_right DeadlineExceeded deadline moment own =
    ap (λ (d : Option ℕ). option_map_or (λ m. m == moment) d false) (own refl)
    ∙ eq-eqb moment moment refl

fits_again : (count clock : ℕ) (kind : Kind) (hit : Option Hit)
    → ((h : Hit) → hit ≡ Some h → HitFits count clock kind h)
    → ((moment : ℕ) → own_deadline kind ≡ Some moment → moment ≤ clock → IsSome hit)
    → hit_fits count clock kind hit ≡ true
fits_again count clock kind (Some hit) hits come =
    let fits = hits hit refl in
    and_from _ _
    (and_from _ _
    (and_from _ _ (and_from _ _ fits.can (le-leb 1 hit.event fits.counted))
    (le-leb hit.event count fits.known))
    (le-leb hit.moment clock fits.past))
    (reason_right hit.reason (own_deadline kind) hit.moment fits.own)
fits_again count clock kind None hits come = by_deadline (own_deadline kind) (λ m e. come m e)
  where
    by_deadline : (deadline : Option ℕ)
        → ((moment : ℕ) → deadline ≡ Some moment → moment ≤ clock → false ≡ true)
        → not (option_map_or (λ m. nat_le m clock) deadline false) ≡ true
    by_deadline None late = refl
    by_deadline (Some m) late = by_test (nat_le m clock) refl
      where
        by_test : (b : Bool) → nat_le m clock ≡ b → not b ≡ true
        by_test true is = late m refl (leb-true m clock is)
        by_test false is = refl

can_follow_in : (count clock : ℕ) (prefix : List Scope) (row : Scope) (back : List Scope)
    → AreScopeRules count clock (prefix ++ row ∷ back) → 1 ≤ length prefix
    → is_root row.kind ≡ false → can_follow count clock prefix row ≡ true
can_follow_in count clock prefix row back rules some below =
    let here = found_seam prefix row back in
    and_from _ _
    (and_from _ _
    (lt-ltb row.parent (length prefix) (rules.ordered (length prefix) row here below))
    (unpassed root (λ r. bytes_eq row.name r.name) prefix
    (λ s a found same.
    let left = found_left prefix (row ∷ back) s a found in
    let named : row.name ≡ a.name = (bytes_eq-Decides row.name a.name).0 same in
    let place : s ≡ length prefix = rules.names s (length prefix) a row left here (sym named) in
    let less : s < length prefix = slice_get_within prefix s a found in
    absurd (omega arith))))
    (fits_again count clock row.kind row.hit
    (λ hit has. rules.hits (length prefix) row hit here has)
    (λ moment due less. rules.come (length prefix) moment row here due less))

pub more_again : (count clock : ℕ) (prefix back : List Scope) (rest : List ℕ)
    → AreScopeRules count clock (prefix ++ back) → 1 ≤ length prefix → AreAllKept back
    → more_rows_at count clock (length back) prefix (flat_map scope_bytes back ++ rest)
    ≡ Some (prefix ++ back, rest)
more_again count clock prefix [] rest rules some kept =
    ap (λ r. Some (r, rest)) (sym (append-nil prefix))
more_again count clock prefix (row ∷ back) rest rules some kept =
    let below : is_root row.kind ≡ false =
    kept_below_root row.kind (second_true _ _ (first_true _ _ kept.0)) in
    let can : can_follow count clock prefix row ≡ true =
    can_follow_in count clock prefix row back rules some below in
    let whole = append_assoc prefix (row ∷ []) back in
    let others = more_again count clock (prefix ++ row ∷ []) back rest
    (subst (AreScopeRules count clock) (sym whole) rules)
    (omega (arith, length-append prefix (row ∷ []))) kept.1 in
    rw (
      append_assoc (scope_bytes row) (flat_map scope_bytes back) rest,
      scope_row.again row (flat_map scope_bytes back ++ rest) kept.0,
      can,
      others,
    )
    (ap (λ r. Some (r, rest)) whole)
