-- If as many tasks were started as noted, each worker's shift is whole.
use Rattle.run_model.proofs.Common.{◌≡◌, ◌≤◌, ◌+◌, ℕ, Bool, List, [], ◌∷◌, ap, arith, inl, inr}
use Rattle.run_model.proofs.Common.{length, refl, sum_by-cons}
use Rattle.run_model.specs.declared.answers.TaskInfo.{TaskInfo}
use Rattle.run_crew.specs.declared.jobs.Turn.{Turn}
use Rattle.run_crew.specs.declared.notes.Note.{Note}
use Rattle.run_crew.specs.Courses.{Call, IsOfShift, IsShift, StepsShift, Went, starts_in}
use Rattle.run_crew.specs.Nights.{AreShifts}
use Rattle.run_crew.specs.Notes.{noted}
use Rattle.run_crew.proofs.StartCounts.{courses_start, starts-append, task_starts}
use Rattle.crew_laws.specs.Audits.{AreWholeShifts, IsWholeShift}

-- The calls of a shift start a task for each note, and those of its last calls.
shift_starts : (jobs : ℕ) (notes : List Note) (calls : List Call) (shift : IsShift jobs notes calls)
    → starts_in calls ≡ length notes + starts_in shift.1
shift_starts jobs notes calls (courses, last, are, ends, is) =
    let same = ap starts_in is in
    let sum = starts-append courses last in
    let each = courses_start jobs notes courses are in
    omega (arith, same, sum, each)

whole_of : (jobs : ℕ) (notes : List Note) (calls : List Call) (shift : IsShift jobs notes calls)
    → starts_in shift.1 ≡ 0 → IsWholeShift jobs notes calls
whole_of jobs notes calls (courses, last, are, inl full, is) none =
    (courses, last, are, inl full.1, is)
whole_of jobs notes calls (courses, last, are, inr (few, inl (inl refused)), is) none =
    (courses, last, are, inr refused, is)
whole_of jobs notes calls (courses, last, are, inr (few, inl (inr failed)), is) none =
    let one = ap starts_in failed.2 in absurd (omega (arith, one, none))
whole_of jobs notes calls
    (courses, last, are, inr (few, inr (started, durable, run, how, why, more, is_run, ends)), is)
    none =
    let one = task_starts jobs started durable run _ last how is_run ends refl in
    absurd (omega (arith, one, none))

module _ {J L : Type 0} (Answered : Call → Type 0) (answers : J → List ℕ → Bool → Type 0)
    (turns : J → TaskInfo → ℕ → Bool → Turn → J → Type 0) (items : L → List J) where
  each_noted : (jobs : List J) (notes : List Note) (own : ℕ)
      → IsOfShift Answered answers turns jobs notes own → length notes ≤ own
  each_noted jobs notes own (left, (calls, (shift, counted), path)) =
      let sum = shift_starts (length jobs) notes calls shift in omega (arith, sum, counted)

  all_noted : (jobs : List L) (lists : List (List Note)) (starts : ℕ)
      → AreShifts Answered answers turns items jobs lists starts → noted lists ≤ starts
  all_noted [] [] starts none = omega arith
  all_noted [] (notes ∷ lists) starts never = absurd never
  all_noted (list ∷ jobs) [] starts never = absurd never
  all_noted (list ∷ jobs) (notes ∷ lists) starts (own, others, sum, shift, are) =
      let first = each_noted (items list) notes own shift in
      let rest = all_noted jobs lists others are in
      let all = sum_by-cons (λ (l : List Note). length l) notes lists in
      omega (arith, sum, first, rest, all)

  one_whole : (jobs : List J) (notes : List Note) (own : ℕ)
      → IsOfShift Answered answers turns jobs notes own → own ≤ length notes
      → (left : List J)
      × Went (StepsShift Answered answers turns) (IsWholeShift (length jobs) notes) jobs left
  one_whole jobs notes own (left, (calls, (shift, counted), path)) few =
      let sum = shift_starts (length jobs) notes calls shift in (
        left,
        (
          calls,
          whole_of (length jobs) notes calls shift (omega (arith, sum, counted, few)),
          path,
        ),
      )

  pub are_whole : (jobs : List L) (lists : List (List Note)) (starts : ℕ)
      → AreShifts Answered answers turns items jobs lists starts → starts ≤ noted lists
      → AreWholeShifts Answered answers turns items jobs lists
  are_whole [] [] starts none few = tt
  are_whole [] (notes ∷ lists) starts never few = absurd never
  are_whole (list ∷ jobs) [] starts never few = absurd never
  are_whole (list ∷ jobs) (notes ∷ lists) starts (own, others, sum, shift, are) few =
      let first = each_noted (items list) notes own shift in
      let rest = all_noted jobs lists others are in
      let all = sum_by-cons (λ (l : List Note). length l) notes lists in (
        one_whole (items list) notes own shift (omega (arith, sum, few, rest, all)),
        are_whole jobs lists others are (omega (arith, sum, few, first, all)),
      )
