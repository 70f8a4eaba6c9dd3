-- The number of a night is read from the scopes of a store.
use Rattle.std.proofs.Common.{◌≡◌, ◌<◌, ◌≤◌, ◌∙◌, ◌&&◌, ◌+◌, ℕ, zero, suc, Bool, true, false, cond}
use Rattle.std.proofs.Common.{List, [], ◌∷◌, Option, Some, None, length, slice_get, codes}
use Rattle.std.proofs.Common.{◌⊎◌, inl, inr, nat_le, ap, refl, sym, arith}
use Rattle.std.proofs.Math.Bool.{and-false}
use Rattle.std.proofs.Math.Nat.{le-max_left, le-max_right}
use Rattle.std.proofs.lemmas.Bool.{cases_eq, false_from_ne_true, false≢true, le-leb, lt-leb}
use Rattle.std.proofs.lemmas.Bool.Decides.{nat_tests}
use Rattle.std.proofs.lemmas.Fmt.{decimal_is_IsNumeral, length-decimal-le}
use Rattle.std.proofs.lemmas.Option.{slice_get_within}
use Rattle.std.proofs.lemmas.Slice.Eq.{bytes_eq-Decides}
use Rattle.std.proofs.lemmas.Str.Parse.{digit_from_value}
use Rattle.std.specs.Char.{is_ascii_digit}
use Rattle.std.specs.Fmt.{decimal}
use Rattle.std.specs.List.{cons_option, filter_map, list_all}
use Rattle.std.specs.Option.{option_map_or}
use Rattle.std.specs.Str.{bytes_eq}
use Rattle.std.specs.Str.Parse.{AllDigits}
use Rattle.run_model.specs.Allowed.{takes_cause}
use Rattle.run_model.specs.declared.groups.Group.{Group}
use Rattle.run_model.specs.declared.scopes.Scope.{Scope}
use Rattle.run_model.specs.declared.tasks.Task.{Task}
use Rattle.run_model.specs.Scopes.{is_root, line_within, text_under, upwards}
use Rattle.run_model.specs.State.{State}
use Rattle.run_model.specs.Tasks.{has_stage}
use Rattle.console_lines.specs.Numbers.{is_number, number_of}
use Rattle.night_plan.specs.declared.facts.Known.{Known}
use Rattle.night_plan.specs.declared.facts.Phase.TheVariants.{Fresh}
use Rattle.night_drive.specs.Names.{belongs, is_same, night_of}
use Rattle.night_drive.specs.Searches.{count_below, last_below}
use Rattle.night_drive.specs.Seen.{is_owned, is_scope, is_try, known_of, phase_after}
use Rattle.night_drive.specs.Tries.{counts, has_failed}
use Rattle.drive_nights.specs.declared.nights.TheConstants.{MOST_NIGHTS}
use Rattle.drive_nights.specs.Effects.{NewNightsAreEmpty, not_begun}
use Rattle.drive_nights.specs.Nights.{is_base, is_base_row, last_night, night_at, night_text}
use Rattle.drive_nights.specs.Nights.{NoneIsLater, night_under, number_in}
use Rattle.drive_nights.specs.Searches.{greatest_below}

-- ---- the number of a text

are_digits : (ds : List ℕ) → AllDigits 10 ds → list_all is_ascii_digit ds ≡ true
are_digits [] h = refl
are_digits (c ∷ ds) h = grind (arith, nat_tests, digit_from_value c h.0, are_digits ds h.1)

is_read : (n : ℕ) → n ≤ MOST_NIGHTS → number_of (decimal n) ≡ Some n
unfolding is_number
is_read n small =
    let d = decimal_is_IsNumeral n (omega (arith, small)) in
    grind (
      arith,
      nat_tests,
      d.0.0,
      d.1,
      length-decimal-le 12 n (omega arith) (omega (arith, small)) (omega (arith, small)),
      are_digits (decimal n) d.0.1,
    )

-- What is written of the number of a night is read back.
pub number_read : (n : ℕ) → 1 ≤ n → n ≤ MOST_NIGHTS → number_in (decimal n) ≡ n
number_read n least small =
    ap (λ (o : Option ℕ). option_map_or (λ m. cond (nat_le 1 m && nat_le m MOST_NIGHTS) m 1) o 1)
    (is_read n small)
    ∙ ap (λ b. cond (b && nat_le n MOST_NIGHTS) n 1) (le-leb 1 n least)
    ∙ ap (λ b. cond b n 1) (le-leb n MOST_NIGHTS small)

-- ---- the greatest number

pub greatest_at : (number : ℕ → ℕ) (most n : ℕ) → n < most
    → number n ≤ greatest_below number most
greatest_at number zero n less = absurd (omega (arith, less))
greatest_at number (suc most) n less = elim (cases_eq n most) [
  | inl same ↦
      let here : number n ≡ number most = ap number same in
      omega (arith, here, le-max_right (greatest_below number most) (number most))
  | inr other ↦
      let before : number n ≤ greatest_below number most =
      greatest_at number most n (omega (arith, less, other)) in
      omega (arith, before, le-max_left (greatest_below number most) (number most))
]

pub greatest_least : (number : ℕ → ℕ) (most : ℕ) → 1 ≤ greatest_below number most
greatest_least number zero = omega arith
greatest_least number (suc most) =
    let before : 1 ≤ greatest_below number most = greatest_least number most in
    omega (arith, before, le-max_left (greatest_below number most) (number most))

-- ---- the night of a scope

-- A scope that holds a text under this key.
record Holds (rows : List Scope) (key text : List ℕ) : Type 0 where
  place : ℕ
  row : Scope
  found : slice_get rows place ≡ Some row
  text_is : text_under key row.kind ≡ Some text

first_of_rest : (text : List ℕ) (o : Option (List ℕ)) (rest : List (List ℕ))
    → slice_get (cons_option o rest) 0 ≡ Some text
    → (o ≡ Some text) ⊎ (slice_get rest 0 ≡ Some text)
first_of_rest text None rest e = inr e
first_of_rest text (Some own) rest e = inl e

holder : (rows : List Scope) (key text : List ℕ) (most s : ℕ)
    → slice_get (filter_map (λ r. text_under key r.1.kind) (line_within most rows s)) 0
    ≡ Some text
    → Holds rows key text
holder rows key text zero s e = cc
holder rows key text (suc most) s e =
    by_row (slice_get rows s) refl e (holder rows key text most)
  where
    by_row : (o : Option Scope) → slice_get rows s ≡ o
        → slice_get (filter_map (λ r. text_under key r.1.kind)
        (upwards (line_within most rows) s o)) 0 ≡ Some text
        → ((t : ℕ) → slice_get (filter_map (λ r. text_under key r.1.kind)
        (line_within most rows t)) 0 ≡ Some text → Holds rows key text)
        → Holds rows key text
    by_row None found e above = cc
    by_row (Some row) found e above =
        elim (first_of_rest text (text_under key row.kind)
        (filter_map (λ r. text_under key r.1.kind)
        (cond (is_root row.kind) [] (line_within most rows row.parent))) e) [
          | inl own ↦ record { place = s; row = row; found = found; text_is = own }
          | inr rest ↦ by_root (is_root row.kind) rest
        ]
      where
        by_root : (b : Bool)
            → slice_get (filter_map (λ r. text_under key r.1.kind)
            (cond b [] (line_within most rows row.parent))) 0 ≡ Some text
            → Holds rows key text
        by_root true e = cc
        by_root false e = above row.parent e

pub none_is_later : NoneIsLater
none_is_later p s text is =
    let held = holder p.tree.scopes (codes "night") text (suc s) s is in
    let number : night_at p held.place ≡ number_in text =
    ap (λ (o : Option Scope). option_map_or (λ (row : Scope). night_under row.kind) o 1) held.found
    ∙ ap (λ (o : Option (List ℕ)). option_map_or number_in o 1) held.text_is in
    let within : held.place < length p.tree.scopes =
    slice_get_within p.tree.scopes held.place held.row held.found in
    omega (arith, number, greatest_at (night_at p) (length p.tree.scopes) held.place within)

-- So no scope is of a night with a greater number.
not_later : (p : State) (n s : ℕ) → last_night p < n → n ≤ MOST_NIGHTS
    → is_same (night_of p s) (night_text n) ≡ false
not_later p n s later small =
    false_from_ne_true (is_same (night_of p s) (night_text n))
    (λ same. by_night (night_of p s) refl (by_number same))
  where
    least : 1 ≤ last_night p
    least = greatest_least (night_at p) (length p.tree.scopes)

    above_one : nat_le n 1 ≡ false
    above_one = lt-leb n 1 (omega (arith, later, least))

    by_number : is_same (night_of p s) (night_text n) ≡ true
        → is_same (night_of p s) (Some (decimal n)) ≡ true
    by_number same =
        sym (ap (λ b. is_same (night_of p s) (cond b None (Some (decimal n)))) above_one) ∙ same

    by_night : (o : Option (List ℕ)) → night_of p s ≡ o → is_same o (Some (decimal n)) ≡ true → ⊥
    by_night None is same = false≢true same
    by_night (Some text) is same =
        let it : text ≡ decimal n = (bytes_eq-Decides text (decimal n)).0 same in
        let held = holder p.tree.scopes (codes "night") (decimal n) (suc s) s
        (is ∙ ap (λ (x : List ℕ). Some x) it) in
        let number : night_at p held.place ≡ n =
        ap (λ (o : Option Scope). option_map_or (λ (row : Scope). night_under row.kind) o 1)
        held.found
        ∙ ap (λ (o : Option (List ℕ)). option_map_or number_in o 1) held.text_is
        ∙ number_read n (omega (arith, later, least)) small in
        let within : held.place < length p.tree.scopes =
        slice_get_within p.tree.scopes held.place held.row held.found in
        omega (
          arith,
          number,
          later,
          greatest_at (night_at p) (length p.tree.scopes) held.place within,
        )

-- ---- searches in which nothing is found

none_found : (test : ℕ → Bool) (most : ℕ) → ((n : ℕ) → test n ≡ false)
    → last_below test most ≡ None
none_found test zero fails = refl
none_found test (suc most) fails =
    ap (λ b. cond b (Some most) (last_below test most)) (fails most)
    ∙ none_found test most fails

none_counted : (test : ℕ → Bool) (most : ℕ) → ((n : ℕ) → test n ≡ false)
    → count_below test most ≡ 0
none_counted test zero fails = refl
none_counted test (suc most) fails =
    let before : count_below test most ≡ 0 = none_counted test most fails in
    ap (λ b. count_below test most + cond b 1 0) (fails most) ∙ omega (arith, before)

pub new_nights_are_empty : NewNightsAreEmpty
new_nights_are_empty p n later small = (
  λ ended group key. commands ended group key,
  λ group. none_found (is_scope p night group) (length p.tree.scopes) (scopes group),
  none_found (is_base p n) (length p.tree.scopes) bases,
)
  where
    night : Option (List ℕ)
    night = night_text n

    scopes : (group : List ℕ) (s : ℕ) → is_scope p (night_text n) group s ≡ false
    scopes group s = by_row (slice_get p.tree.scopes s)
      where
        by_row : (o : Option Scope)
            → option_map_or (λ row. takes_cause row.kind
            && (belongs group row.name && is_same (night_of p s) (night_text n))) o false ≡ false
        by_row None = refl
        by_row (Some row) =
            ap (λ b. takes_cause row.kind && (belongs group row.name && b))
            (not_later p n s later small)
            ∙ ap (λ b. takes_cause row.kind && b) (and-false (belongs group row.name))
            ∙ and-false (takes_cause row.kind)

    bases : (s : ℕ) → is_base p n s ≡ false
    bases s =
        ap (λ b. option_map_or (is_base_row n) (slice_get p.tree.scopes s) false && b)
        (not_later p n s later small)
        ∙ and-false (option_map_or (is_base_row n) (slice_get p.tree.scopes s) false)

    owned : (group : List ℕ) (g : ℕ) → is_owned p (night_text n) group g ≡ false
    owned group g = by_row (slice_get p.work.groups g)
      where
        by_row : (o : Option Group)
            → option_map_or (λ row. belongs group row.name
            && is_same (night_of p row.scope) (night_text n)) o false ≡ false
        by_row None = refl
        by_row (Some row) =
            ap (λ b. belongs group row.name && b) (not_later p n row.scope later small)
            ∙ and-false (belongs group row.name)

    tries : (group key : List ℕ) (m : ℕ) → is_try p (night_text n) group key m ≡ false
    tries group key m = by_row (slice_get p.work.tasks m)
      where
        by_row : (o : Option Task)
            → option_map_or (λ task. bytes_eq task.argument key
            && (counts task.stage && is_owned p (night_text n) group task.group)) o false ≡ false
        by_row None = refl
        by_row (Some task) =
            ap (λ b. bytes_eq task.argument key && (counts task.stage && b))
            (owned group task.group)
            ∙ ap (λ b. bytes_eq task.argument key && b) (and-false (counts task.stage))
            ∙ and-false (bytes_eq task.argument key)

    commands : (ended : ℕ → ℕ) (group key : List ℕ)
        → known_of p ended (night_text n) group key ≡ not_begun
    commands ended group key =
        ap with_phase (none_found (is_try p (night_text n) group key) (length p.work.tasks)
        (tries group key))
        ∙ ap with_count
        (none_counted (λ m. is_try p (night_text n) group key m && has_stage has_failed p.work m)
        (length p.work.tasks)
        (λ m. ap (λ b. b && has_stage has_failed p.work m) (tries group key m)))
      where
        with_phase : Option ℕ → Known
        with_phase last = record {
          phase = phase_after p ended last;
          failures = count_below (λ m. is_try p (night_text n) group key m
              && has_stage has_failed p.work m) (length p.work.tasks);
          canceled = false;
        }

        with_count : ℕ → Known
        with_count count = record { phase = Fresh; failures = count; canceled = false }
