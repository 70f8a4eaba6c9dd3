-- If no note is stray and no finish is missing, the notes are the finishes in some order.
use Rattle.run_model.proofs.Common.{◌≡◌, ℕ, ◌+◌, ◌<◌, List, [], ◌∷◌, ◌++◌, take, Bool, true, false}
use Rattle.run_model.proofs.Common.{◌||◌, ◌&&◌, refl, ap, sym, ◌∙◌, arith, append_assoc, subst}
use Rattle.run_model.proofs.Common.{suc, not, slice_index_or, ◌==◌, nat_lt, if◌then◌else◌}
use Rattle.run_model.proofs.Common.{list_all, list_any, and_parts, eqb-true, not-false, or_left}
use Rattle.run_model.proofs.Common.{or_parts, or_right, append-nil, list_any-append}
use Rattle.run_model.proofs.Common.{bytes_eq-Decides, Event}
use Rattle.std.specs.List.Sorted.{IsPermutation}
use Rattle.std.proofs.lemmas.Bool.{or_from}
use Rattle.std.proofs.lemmas.List.Folds.{list_all-append}
use Rattle.std.proofs.lemmas.List.Sorted.{IsPermutation-cons, IsPermutation-middle}
use Rattle.std.proofs.lemmas.List.Sorted.{IsPermutation-refl, IsPermutation-trans}
use Rattle.run_model.specs.declared.tasks.Outcome.{Outcome}
use Rattle.run_model.specs.declared.tasks.Outcome.TheVariants.{Success, Failure}
use Rattle.run_model.specs.Event as event
use Rattle.run_crew.specs.declared.notes.Note.{Note}
use Rattle.run_crew.specs.Audits.{IsStrayIn, NoStray, are_noted, is_stray}
use Rattle.run_crew.specs.Notes.{all_notes}
use Rattle.run_crew.specs.Notes.{finishes_since, has, is_same, is_same_outcome, note_of}
use Rattle.run_crew.specs.Notes.{note_since}
use Rattle.run_crew.proofs.Strays.{has-all}

-- ---- tests

no_both : {A : Type 0} (b : Bool) → b ≡ true → b ≡ false → A
no_both b holds fails = absurd (let e : true ≡ false = sym holds ∙ fails in cc)

-- The facts if a test is true, and if it is false.
by_test : {A : Type 0} (b : Bool) → (b ≡ true → A) → (b ≡ false → A) → A
by_test true holds fails = holds refl
by_test false holds fails = fails refl

or_next : (a b : Bool) → a ≡ false → (a || b) ≡ b
or_next true b fails = no_both true refl fails
or_next false b fails = refl

-- ---- one note is another

outcome_is : (x y : Outcome) → is_same_outcome x y ≡ true → x ≡ y
outcome_is Success Success same = refl
outcome_is (Failure x) (Failure y) same = ap (λ t. Failure t) ((bytes_eq-Decides x y).0 same)
outcome_is Success (Failure y) same = no_both false same refl
outcome_is (Failure x) Success same = no_both false same refl

outcome_self : (x : Outcome) → is_same_outcome x x ≡ true
outcome_self Success = refl
outcome_self (Failure x) = (bytes_eq-Decides x x).1 refl

same_is : (x y : Note) → is_same x y ≡ true → x ≡ y
same_is x y same =
    let both = and_parts ((x.event == y.event) && (x.task == y.task))
    (is_same_outcome x.outcome y.outcome) same in
    let first = and_parts (x.event == y.event) (x.task == y.task) both.0 in
    let event : x.event ≡ y.event = eqb-true x.event y.event first.0 in
    let task : x.task ≡ y.task = eqb-true x.task y.task first.1 in
    let outcome : x.outcome ≡ y.outcome = outcome_is x.outcome y.outcome both.1 in
    let one : x ≡ record x { event = y.event } =
    ap (λ (n : ℕ). record x { event = n }) event in
    let two : record x { event = y.event } ≡ record x { event = y.event; task = y.task } =
    ap (λ (n : ℕ). record x { event = y.event; task = n }) task in
    let three : record x { event = y.event; task = y.task } ≡ y =
    ap (λ (o : Outcome). record x { event = y.event; task = y.task; outcome = o }) outcome in
    one ∙ two ∙ three

eqb_self : (n : ℕ) → (n == n) ≡ true
eqb_self n = grind arith

same_self : (x : Note) → is_same x x ≡ true
same_self x = rw (eqb_self x.event, eqb_self x.task) (outcome_self x.outcome)

-- ---- a note among others

has_append :
    (xs ys : List Note) (x : Note) → has (xs ++ ys) x ≡ (has xs x || has ys x)
has_append xs ys x = list_any-append (λ y. is_same x y) xs ys

-- The note is at some place of the list.
pub record StandsIn (xs : List Note) (x : Note) : Type 0 where
  pub before : List Note
  pub behind : List Note
  pub split : xs ≡ before ++ x ∷ behind

stands_next : (y : Note) (ys : List Note) (x : Note) → StandsIn ys x → StandsIn (y ∷ ys) x
stands_next y ys x at = record {
  before = y ∷ at.before;
  behind = at.behind;
  split = ap (λ l. y ∷ l) at.split;
}

stands : (xs : List Note) (x : Note) → has xs x ≡ true → StandsIn xs x
stands [] x h = no_both false h refl
stands (y ∷ ys) x h = by_test (is_same x y)
    (λ same. record {
      before = [];
      behind = ys;
      split = ap (λ z. z ∷ ys) (sym (same_is x y same));
    })
    (λ other. stands_next y ys x (stands ys x (sym (or_next _ _ other) ∙ h)))

has_there : (xs ys : List Note) (x : Note) → has (xs ++ x ∷ ys) x ≡ true
has_there xs ys x =
    has_append xs (x ∷ ys) x
    ∙ or_right _ _ (or_left _ (has ys x) (same_self x))

-- Without another note in the middle.
has_without :
    (xs ys : List Note) (y x : Note) → has (xs ++ y ∷ ys) x ≡ true → is_same x y ≡ false
    → has (xs ++ ys) x ≡ true
has_without xs ys y x h other =
    let rest : has (y ∷ ys) x ≡ has ys x = or_next (is_same x y) (has ys x) other in
    has_append xs ys x ∙ ap (λ b. has xs x || b) (sym rest) ∙ sym (has_append xs (y ∷ ys) x) ∙ h

has_with :
    (xs ys : List Note) (y x : Note) → has (xs ++ ys) x ≡ true → has (xs ++ y ∷ ys) x ≡ true
has_with xs ys y x h =
    by_test (has xs x)
    (λ first. has_append xs (y ∷ ys) x ∙ or_left _ _ first)
    (λ none. has_append xs (y ∷ ys) x ∙ or_right _ _ (or_right _ _
    (sym (or_next _ _ none) ∙ sym (has_append xs ys x) ∙ h)))

-- ---- no note twice

abbrev pub NoneTwice : List Note → Type 0
NoneTwice [] = Unit {0}
NoneTwice (y ∷ ys) = (has ys y ≡ false) × NoneTwice ys

-- Without a note in the middle there is none twice, and that one isn't there any more.
none_twice_without :
    (xs ys : List Note) (y : Note) → NoneTwice (xs ++ y ∷ ys)
    → (has (xs ++ ys) y ≡ false) × NoneTwice (xs ++ ys)
none_twice_without [] ys y once = once
none_twice_without (z ∷ xs) ys y once =
    let rest = none_twice_without xs ys y once.1 in (
      by_test (is_same y z)
          (λ same. let P : Note → Type 0 = λ w. has (xs ++ y ∷ ys) w ≡ true in
          no_both _ (subst P (same_is y z same) (has_there xs ys y)) once.0)
          (λ other. or_from _ _ other rest.0),
      (
        by_test (has (xs ++ ys) z)
            (λ holds. no_both _ (has_with xs ys y z holds) once.0)
            (λ fails. fails),
        rest.1,
      ),
    )

-- Two lists with the same notes, none of which occurs twice, are the same in some order.
pub permuted :
    (ys made : List Note) → NoneTwice ys → NoneTwice made
    → ((x : Note) → has ys x ≡ true → has made x ≡ true)
    → ((x : Note) → has made x ≡ true → has ys x ≡ true)
    → IsPermutation made ys
permuted [] [] once unique each all = IsPermutation-refl []
permuted [] (m ∷ made) once unique each all =
    no_both false (all m (or_left _ (has made m) (same_self m))) refl
permuted (y ∷ ys) made once unique each all =
    let at : StandsIn made y = stands made y (each y (or_left _ (has ys y) (same_self y))) in
    let xs : List Note = at.before in
    let zs : List Note = at.behind in
    let out : (has (xs ++ zs) y ≡ false) × NoneTwice (xs ++ zs) =
    none_twice_without xs zs y (subst NoneTwice at.split unique) in
    let each' : (x : Note) → has ys x ≡ true → has (xs ++ zs) x ≡ true =
    (λ x h. by_test (is_same x y)
    (λ same. let P : Note → Type 0 = λ w. has ys w ≡ true in
    no_both _ (subst P (same_is x y same) h) once.0)
    (λ other. let P : List Note → Type 0 = λ l. has l x ≡ true in
    has_without xs zs y x
    (subst P at.split (each x (or_right (is_same x y) _ h))) other)) in
    let all' : (x : Note) → has (xs ++ zs) x ≡ true → has ys x ≡ true =
    (λ x h. by_test (is_same x y)
    (λ same. let P : Note → Type 0 = λ w. has (xs ++ zs) w ≡ true in
    no_both _ (subst P (same_is x y same) h) out.0)
    (λ other. let P : List Note → Type 0 = λ l. has l x ≡ true in
    sym (or_next _ _ other)
    ∙ all x (subst P (sym at.split) (has_with xs zs y x h)))) in
    let rest : IsPermutation (y ∷ (xs ++ zs)) (y ∷ ys) =
    IsPermutation-cons y (xs ++ zs) ys (permuted ys (xs ++ zs) once.1 out.1 each' all') in
    let whole : IsPermutation (xs ++ y ∷ zs) (y ∷ ys) =
    IsPermutation-trans _ _ _ (IsPermutation-middle xs y zs) rest in
    let P : List Note → Type 0 = λ l. IsPermutation l (y ∷ ys) in
    subst P (sym at.split) whole

-- ---- the finishes

note_of_at : (n : ℕ) (e : Event) (x : Note) → has (note_of n e) x ≡ true → x.event ≡ n
note_of_at n (event.Finish task outcome) x h =
    by_test (is_same x (record { event = n; task = task; outcome = outcome }))
    (λ same. ap (λ y. y.event) (same_is x _ same))
    (λ other. no_both false (sym (or_next _ false other) ∙ h) refl)
note_of_at n _ x h = no_both false h refl

note_since_at :
    (since n : ℕ) (e : Event) (x : Note) → has (note_since since n e) x ≡ true → x.event ≡ n
note_since_at since n e x =
    elim (nat_lt since n) as (λ b.
    has (if b then note_of n e else []) x ≡ true → x.event ≡ n)
    [ true ↦ note_of_at n e x | false ↦ (λ h. no_both false h refl) ]

-- A finish of a list has a greater number than those before the list.
later :
    (since n : ℕ) (events : List Event) (x : Note)
    → has (finishes_since since n events) x ≡ true → n < x.event
later since n [] x h = no_both false h refl
later since n (e ∷ es) x h =
    by_test (has (note_since since (n + 1) e) x)
    (λ first. let k : x.event ≡ n + 1 = note_since_at since (n + 1) e x first in omega arith)
    (λ none.
    let k : n + 1 < x.event = later since (n + 1) es x
    (sym (or_next _ _ none)
    ∙ sym (has_append (note_since since (n + 1) e) (finishes_since since (n + 1) es) x)
    ∙ h) in
    omega arith)

note_of_once :
    (n : ℕ) (e : Event) (rest : List Note) → NoneTwice rest
    → ((x : Note) → has rest x ≡ true → n < x.event) → NoneTwice (note_of n e ++ rest)
note_of_once n (event.Finish task outcome) rest once late =
    let x : Note = record { event = n; task = task; outcome = outcome } in (
      by_test (has rest x)
          (λ holds. let k : n < n = late x holds in absurd (omega arith))
          (λ fails. fails),
      once,
    )
note_of_once n _ rest once late = once

finishes_once :
    (since n : ℕ) (events : List Event) → NoneTwice (finishes_since since n events)
finishes_once since n [] = tt
finishes_once since n (e ∷ es) =
    let rest : List Note = finishes_since since (n + 1) es in
    let once : NoneTwice rest = finishes_once since (n + 1) es in
    elim (nat_lt since (n + 1)) as (λ b.
    NoneTwice ((if b then note_of (n + 1) e else []) ++ rest)) [
      | true ↦ note_of_once (n + 1) e rest once (later since (n + 1) es)
      | false ↦ once
    ]

-- ---- none stray, as a walk over all notes

abbrev pub NoneStray : List Note → List Note → List Note → Type 0
NoneStray made earlier [] = Unit {0}
NoneStray made earlier (y ∷ ys) =
    (is_stray made earlier y ≡ false) × NoneStray made (earlier ++ y ∷ []) ys

none_stray_in :
    (made earlier notes : List Note) → ((i : ℕ) → IsStrayIn made earlier notes i → ⊥)
    → NoneStray made earlier notes
none_stray_in made earlier [] none = tt
none_stray_in made earlier (y ∷ ys) none = (
  by_test (is_stray made earlier y)
      (λ holds. absurd (none 0
      (y, refl, ap (λ l. is_stray made l y) (append-nil earlier) ∙ holds)))
      (λ fails. fails),
  none_stray_in made (earlier ++ y ∷ []) ys (λ i s. none (suc i) (
    s.0,
    s.1,
    ap (λ l. is_stray made l s.0) (sym (append_assoc earlier (y ∷ []) (take i ys))) ∙ s.2,
  )),
)

none_stray_join :
    (made earlier xs ys : List Note) → NoneStray made earlier xs
    → NoneStray made (earlier ++ xs) ys → NoneStray made earlier (xs ++ ys)
none_stray_join made earlier [] ys first second =
    let P : List Note → Type 0 = λ l. NoneStray made l ys in
    subst P (append-nil earlier) second
none_stray_join made earlier (x ∷ xs) ys first second =
    let P : List Note → Type 0 = λ l. NoneStray made l ys in (
      first.0,
      none_stray_join made (earlier ++ x ∷ []) xs ys first.1
          (subst P (sym (append_assoc earlier (x ∷ []) xs)) second),
    )

none_stray_lists :
    (made earlier : List Note) (lists : List (List Note))
    → ((w i : ℕ) → IsStrayIn made (earlier ++ all_notes (take w lists))
    (slice_index_or lists w []) i → ⊥)
    → NoneStray made earlier (all_notes lists)
none_stray_lists made earlier [] none = tt
none_stray_lists made earlier (notes ∷ rest) none =
    none_stray_join made earlier notes (all_notes rest)
    (none_stray_in made earlier notes (λ i s.
    let P : List Note → Type 0 = λ l. IsStrayIn made l notes i in
    none 0 i (subst P (sym (append-nil earlier)) s)))
    (none_stray_lists made (earlier ++ notes) rest (λ w i s.
    let P : List Note → Type 0 =
    λ l. IsStrayIn made l (slice_index_or rest w []) i in
    none (suc w) i (subst P (append_assoc earlier notes (all_notes (take w rest))) s)))

-- A note of such a walk is a finish, and isn't an earlier one.
fresh :
    (made earlier ys : List Note) → NoneStray made earlier ys → (x : Note) → has ys x ≡ true
    → (has made x ≡ true) × (has earlier x ≡ false)
fresh made earlier [] none x h = no_both false h refl
fresh made earlier (y ∷ ys) none x h =
    by_test (is_same x y)
    (λ same.
    let P : Note → Type 0 = λ w. (has made w ≡ true) × (has earlier w ≡ false) in
    subst P (sym (same_is x y same))
    (not-false _ (or_parts _ _ none.0).0, (or_parts (not (has made y)) _ none.0).1))
    (λ other.
    let rest : (has made x ≡ true) × (has (earlier ++ y ∷ []) x ≡ false) =
    fresh made (earlier ++ y ∷ []) ys none.1 x (sym (or_next _ _ other) ∙ h) in
    (rest.0, (or_parts _ _ (sym (has_append earlier (y ∷ []) x) ∙ rest.1)).0))

notes_once : (made earlier ys : List Note) → NoneStray made earlier ys → NoneTwice ys
notes_once made earlier [] none = tt
notes_once made earlier (y ∷ ys) none = (
  by_test (has ys y)
      (λ holds. no_both _ (has_there earlier [] y)
      (fresh made (earlier ++ y ∷ []) ys none.1 y holds).1)
      (λ fails. fails),
  notes_once made (earlier ++ y ∷ []) ys none.1,
)

noted_each :
    (made : List Note) (lists : List (List Note)) → are_noted made lists ≡ true
    → (x : Note) → has made x ≡ true → has (all_notes lists) x ≡ true
noted_each made lists noted x h =
    let p : Note → Bool = λ note. list_any (λ notes. has notes note) lists in
    let at : StandsIn made x = stands made x h in
    let all : list_all p (at.before ++ x ∷ at.behind) ≡ true =
    ap (λ l. list_all p l) (sym at.split) ∙ noted in
    let here : list_all p (x ∷ at.behind) ≡ true = (and_parts (list_all p at.before) _
    (sym (list_all-append p at.before (x ∷ at.behind)) ∙ all)).1 in
    has-all lists x ∙ (and_parts (p x) (list_all p at.behind) here).0

-- ---- both together

pub settled :
    (since n : ℕ) (events : List Event) (lists : List (List Note))
    → NoStray (finishes_since since n events) lists
    → are_noted (finishes_since since n events) lists ≡ true
    → IsPermutation (finishes_since since n events) (all_notes lists)
settled since n events lists none noted =
    let made : List Note = finishes_since since n events in
    let walk : NoneStray made [] (all_notes lists) = none_stray_lists made [] lists none in
    permuted (all_notes lists) made (notes_once made [] (all_notes lists) walk)
    (finishes_once since n events)
    (λ x h. (fresh made [] (all_notes lists) walk x h).0)
    (noted_each made lists noted)
