-- Flags are raised from scopes to those above them, from the last scope to root.
use Rattle.run_model.proofs.Common.{◌≡◌, ◌⊎◌, ◌<◌, ◌≤◌, ◌+◌, ◌==◌, ◌&&◌, ℕ, zero, suc, Bool, true}
use Rattle.run_model.proofs.Common.{false, cond, List, [], length, Option, Some, None, slice_get}
use Rattle.run_model.proofs.Common.{inl, inr, refl, sym, ap, subst, ◌∙◌, arith, range_with_len}
use Rattle.run_model.proofs.Common.{slice_set, and_parts, and_from, or_cases, eqb-true, false≢true}
use Rattle.run_model.proofs.Common.{cases_eq, get_or-set_same, get_or-set_other, get_or_past}
use Rattle.run_model.proofs.Common.{length-set, slice_get_within, same_Some, is_root, upwards}
use Rattle.run_model.proofs.Common.{line_within, line, AreOrdered, row_there}
use Rattle.run_model.proofs.Common.{any_passes_from_place}
use Rattle.run_model.specs.declared.scopes.Scope.{Scope}
use Rattle.model_laws.specs.Hits.{is_on}
use Rattle.model_laws.specs.Searches.{above}
use Rattle.model_laws.proofs.Lines.{line_up}
use Rattle.model_laws.proofs.FirstErrors.{found_any}
use Rattle.state_renewal.specs.Marks.{is_flagged, is_above_flagged}
use Rattle.state_renewal.proofs.Keeps.{number_get, line_self, line_passes}
use Rattle.task_group.proofs.Admits.{same_test}

-- The last k scopes have raised their flags.
pub record AreRaised (rows : List Scope) (before : List Bool) (k : ℕ) (flags : List Bool)
    : Type 0 where
  pub size : length flags ≡ length rows
  pub right : (s : ℕ) → is_flagged flags s ≡ true → is_above_flagged rows before s ≡ true
  pub stay : (s : ℕ) → is_flagged before s ≡ true → is_flagged flags s ≡ true
  pub closed : (s : ℕ) (row : Scope) → slice_get rows s ≡ Some row → length rows ≤ s + k
      → is_root row.kind ≡ false → is_flagged flags s ≡ true → is_flagged flags row.parent ≡ true

flag_within : (flags : List Bool) (s : ℕ) → is_flagged flags s ≡ true
    → (s < length flags) ⊎ (length flags ≤ s) → s < length flags
flag_within flags s is (inl less) = less
flag_within flags s is (inr past) = absurd (false≢true (sym (get_or_past flags s false past) ∙ is))

less_or_not : (a b : ℕ) → (a < b) ⊎ (b ≤ a)
less_or_not zero zero = inr (omega arith)
less_or_not zero (suc b) = inl (omega arith)
less_or_not (suc a) zero = inr (omega arith)
less_or_not (suc a) (suc b) = elim (less_or_not a b) [
  | inl less ↦ inl (omega (arith, less))
  | inr more ↦ inr (omega (arith, more))
]

-- A scope on the line of a flagged one is above it.
above_from : (rows : List Scope) (before : List Bool) (t s : ℕ) → t < length rows
    → is_flagged before t ≡ true → is_on s (line rows t) ≡ true
    → is_above_flagged rows before s ≡ true
above_from rows before t s within is on =
    any_passes_from_place (λ u. is_flagged before u && is_on s (line rows u))
    (range_with_len 0 (length rows))
    t t (number_get (length rows) t within)
    (and_from (is_flagged before t) (is_on s (line rows t)) is on)

parent_above : (rows : List Scope) (before : List Bool) (s : ℕ) (row : Scope) → AreOrdered rows
    → slice_get rows s ≡ Some row → is_root row.kind ≡ false
    → is_above_flagged rows before s ≡ true → is_above_flagged rows before row.parent ≡ true
parent_above rows before s row ordered found below is =
    let by = found_any (λ t. is_flagged before t && is_on s (line rows t))
    (range_with_len 0 (length rows)) is in
    let parts = and_parts (is_flagged before by.1) (is_on s (line rows by.1)) by.3 in
    any_passes_from_place (λ t. is_flagged before t && is_on row.parent (line rows t))
    (range_with_len 0 (length rows)) by.0 by.1 by.2
    (and_from (is_flagged before by.1) (is_on row.parent (line rows by.1)) parts.0
    (line_passes rows ordered by.1 s row found below parts.1))

pub raised_first : (rows : List Scope) (before : List Bool) → length before ≡ length rows
    → AreRaised rows before 0 before
raised_first rows before size = record {
  size = size;
  right = λ s is.
      let within = flag_within before s is (less_or_not s (length before)) in
      let row = row_there rows s (omega (arith, within, size)) in
      above_from rows before s s (omega (arith, within, size)) is (line_self rows s row.0 row.1);
  stay = λ s is. is;
  closed = λ s row found past below is.
      let within = slice_get_within rows s row found in
      absurd (omega (arith, within, past));
}

-- Scope s, which comes next, has no flag or is root.
pub raised_same : (rows : List Scope) (before : List Bool) (k s : ℕ) (flags : List Bool)
    (row : Scope) → AreRaised rows before k flags → slice_get rows s ≡ Some row
    → s + (k + 1) ≡ length rows
    → (is_root row.kind ≡ false → is_flagged flags s ≡ true → is_flagged flags row.parent ≡ true)
    → AreRaised rows before (k + 1) flags
raised_same rows before k s flags row so found next here = record {
  size = so.size;
  right = so.right;
  stay = so.stay;
  closed = λ t r at past below is. elim (cases_eq t s) [
    | inl same ↦
        let e : r ≡ row = same_Some r row (sym at ∙ ap (slice_get rows) same ∙ found) in
        ap (λ x. is_flagged flags x.parent) e
        ∙ here (ap (λ x. is_root x.kind) (sym e) ∙ below) (ap (is_flagged flags) (sym same) ∙ is)
    | inr apart ↦ so.closed t r at (omega (arith, past, next, apart)) below is
  ];
}

-- Scope s, which comes next, raises its parent's flag.
raised_here : (rows : List Scope) (before : List Bool) (k s : ℕ) (flags : List Bool) (row : Scope)
    → AreOrdered rows → AreRaised rows before k flags → slice_get rows s ≡ Some row
    → s + (k + 1) ≡ length rows → is_root row.kind ≡ false → is_flagged flags s ≡ true
    → AreRaised rows before k (slice_set flags row.parent true)
raised_here rows before k s flags row ordered so found next below is =
    let lower = ordered s row found below in
    let size = so.size in
    let same : is_flagged (slice_set flags row.parent true) row.parent ≡ true =
    get_or-set_same flags row.parent true false (omega (arith, lower, next, size)) in
    let other : (t : ℕ) → (t ≡ row.parent → ⊥)
    → is_flagged (slice_set flags row.parent true) t ≡ is_flagged flags t =
    λ t apart. get_or-set_other flags row.parent t true false apart in
    let more : (t : ℕ) → is_flagged flags t ≡ true
    → is_flagged (slice_set flags row.parent true) t ≡ true =
    λ t set. elim (cases_eq t row.parent) [
      | inl e ↦ ap (is_flagged (slice_set flags row.parent true)) e ∙ same
      | inr apart ↦ other t apart ∙ set
    ] in
    record {
      size = length-set flags row.parent true ∙ size;
      right = λ t set. elim (cases_eq t row.parent) [
        | inl e ↦
            ap (is_above_flagged rows before) e
            ∙ parent_above rows before s row ordered found below (so.right s is)
        | inr apart ↦ so.right t (sym (other t apart) ∙ set)
      ];
      stay = λ t set. more t (so.stay t set);
      closed = λ t r at past up set.
          more r.parent
          (so.closed t r at past up
          (sym (other t (λ e. omega (arith, e, past, next, lower))) ∙ set));
    }

pub raised_more : (rows : List Scope) (before : List Bool) (k s : ℕ) (flags : List Bool)
    (row : Scope) → AreOrdered rows → AreRaised rows before k flags → slice_get rows s ≡ Some row
    → s + (k + 1) ≡ length rows → is_root row.kind ≡ false → is_flagged flags s ≡ true
    → AreRaised rows before (k + 1) (slice_set flags row.parent true)
raised_more rows before k s flags row ordered so found next below is =
    let lower = ordered s row found below in
    let size = so.size in
    raised_same rows before k s (slice_set flags row.parent true) row
    (raised_here rows before k s flags row ordered so found next below is) found next
    (λ up set. get_or-set_same flags row.parent true false (omega (arith, lower, next, size)))

-- ---- all raised

abbrev IsClosed : List Scope → List Bool → Type 0
IsClosed rows flags = (s : ℕ) (row : Scope) → slice_get rows s ≡ Some row
    → is_root row.kind ≡ false → is_flagged flags s ≡ true → is_flagged flags row.parent ≡ true

-- What stands on the line of a flagged scope is flagged, where that is so of its parent's line.
up_one : (rows : List Scope) (flags : List Bool) (t s : ℕ) (row : Scope)
    → is_flagged flags t ≡ true → (t == s) ≡ true ⊎ (is_on s (above (line rows) [] row) ≡ true)
    → (b : Bool) → is_root row.kind ≡ b
    → (b ≡ false → is_on s (line rows row.parent) ≡ true → is_flagged flags s ≡ true)
    → is_flagged flags s ≡ true
up_one rows flags t s row is (inl same) b root up =
    ap (is_flagged flags) (sym (eqb-true t s same)) ∙ is
up_one rows flags t s row is (inr later) true root up =
    absurd (false≢true (sym (ap (λ b. is_on s (cond b [] (line rows row.parent))) root) ∙ later))
up_one rows flags t s row is (inr later) false root up =
    up refl (sym (ap (λ b. is_on s (cond b [] (line rows row.parent))) root) ∙ later)

up_line : (rows : List Scope) (flags : List Bool) → AreOrdered rows → IsClosed rows flags
    → (most t s : ℕ) (o : Option Scope) → slice_get rows t ≡ o → t < most
    → is_flagged flags t ≡ true → is_on s (line rows t) ≡ true → is_flagged flags s ≡ true
up_line rows flags ordered closed zero t s o at less is on = absurd (omega (arith, less))
up_line rows flags ordered closed (suc most) t s None at less is on =
    absurd (false≢true (subst (λ o. is_on s (upwards (line_within t rows) t o) ≡ true) at on))
up_line rows flags ordered closed (suc most) t s (Some row) at less is on =
    up_one rows flags t s row is
    (or_cases (t == s) (is_on s (above (line rows) [] row))
    (sym (ap (is_on s) (line_up rows t row ordered at)) ∙ on))
    (is_root row.kind) refl
    (λ below behind.
    up_line rows flags ordered closed most row.parent s (slice_get rows row.parent) refl
    (let lower = ordered t row at below in omega (arith, less, lower))
    (closed t row at below is) behind)

pub raised_all : (rows : List Scope) (before : List Bool) (k : ℕ) (flags : List Bool)
    → AreOrdered rows → AreRaised rows before k flags → length rows ≤ k → (s : ℕ)
    → is_flagged flags s ≡ is_above_flagged rows before s
raised_all rows before k flags ordered so all s =
    same_test (is_flagged flags s) (is_above_flagged rows before s) (so.right s)
    (λ is.
    let by = found_any (λ t. is_flagged before t && is_on s (line rows t))
    (range_with_len 0 (length rows)) is in
    let parts = and_parts (is_flagged before by.1) (is_on s (line rows by.1)) by.3 in
    up_line rows flags ordered
    (λ t row at below set. so.closed t row at (omega (arith, all)) below set)
    (suc by.1) by.1 s (slice_get rows by.1) refl (omega arith) (so.stay by.1 parts.0) parts.1)
