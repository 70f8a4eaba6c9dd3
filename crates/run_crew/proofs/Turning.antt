-- The turns of a worker's jobs, as the calls of its shift show them.
use Rattle.std.proofs.Common.{◌≡◌, ◌∙◌, ℕ, zero, suc, ◌<◌, List, [], ◌∷◌, ◌++◌, length, Bool}
use Rattle.std.proofs.Common.{true, false, Ok, Some, ap, arith, inl, inr, refl, subst, sym}
use Rattle.std.proofs.lemmas.List.{length-set}
use Rattle.std.proofs.lemmas.Bool.{cases_lt}
use Rattle.std.proofs.lemmas.Option.{slice_get_within}
use Rattle.std.specs.Prelude.{IfSome, MatchOption, ⊤, slice_get, slice_set}
use Rattle.run_model.specs.declared.answers.TaskInfo.{TaskInfo}
use Rattle.run_model.specs.declared.tasks.Outcome.{Outcome}
use Rattle.run_crew.specs.declared.jobs.Turn.{Turn}
use Rattle.run_crew.specs.declared.jobs.Turn.TheVariants as turn
use Rattle.run_crew.specs.declared.notes.Note.{Note}
use Rattle.run_crew.specs.Courses.{AreCourses, AreRounds, AreTurns, Call, EndsAt, IsCourse, IsRun}
use Rattle.run_crew.specs.Courses.{IsOfShift, Path, StepsShift, declined, most_turns, round}
use Rattle.run_crew.specs.Courses.{task_calls}
use Rattle.run_crew.specs.Courses as call
use Rattle.run_crew.specs.Turns.{AreDone, EndsAmong, EndsBy, EndsTurn, IsDone, Turned}

-- ---- places of a list

some_same : {X : Type 0} (x y : X) → Some x ≡ Some y → x ≡ y
some_same x y same = subst (λ o. IfSome o (λ z. x ≡ z)) same refl

get_set : {X : Type 0} (xs : List X) (i : ℕ) (x y : X) → slice_get xs i ≡ Some x
    → slice_get (slice_set xs i y) i ≡ Some y
get_set [] i x y is = absurd (subst (λ o. MatchOption o ⊥ (λ z. ⊤)) (sym is) tt)
get_set (z ∷ xs) zero x y is = refl
get_set (z ∷ xs) (suc i) x y is = get_set xs i x y is

set_same : {X : Type 0} (xs : List X) (i : ℕ) (x : X) → slice_get xs i ≡ Some x
    → slice_set xs i x ≡ xs
set_same [] i x is = refl
set_same (z ∷ xs) zero x is = ap (λ y. y ∷ xs) (sym (some_same z x is))
set_same (z ∷ xs) (suc i) x is = ap (λ l. z ∷ l) (set_same xs i x is)

set_set : {X : Type 0} (xs : List X) (i : ℕ) (x y : X)
    → slice_set (slice_set xs i x) i y ≡ slice_set xs i y
set_set [] i x y = refl
set_set (z ∷ xs) zero x y = refl
set_set (z ∷ xs) (suc i) x y = ap (λ l. z ∷ l) (set_set xs i x y)

-- The first call of a path, and the path of the rest.
path_split : {A : Type 0} (step : A → Call → A → Type 0) (xs ys : List Call) (a c : A)
    → Path step a (xs ++ ys) c → (b : A) × Path step a xs b × Path step b ys c
path_split step [] ys a c path = (a, refl, path)
path_split step (x ∷ xs) ys a c path =
    let rest = path_split step xs ys path.0 c path.2 in
    (rest.0, (path.0, path.1, rest.1), rest.2)

module _ {J : Type 0} (answers : J → List ℕ → Bool → Type 0)
    (turns : J → TaskInfo → ℕ → Bool → Turn → J → Type 0) (Answered : Call → Type 0) where
  abbrev Steps : List J → Call → List J → Type 0
  Steps = StepsShift Answered answers turns

  abbrev Walk : List Call → List J → List J → Type 0
  Walk calls jobs left = Path (StepsShift Answered answers turns) jobs calls left

  -- ---- the turns

  -- A turn of the job at this place, which changes no other.
  one_round : (info : TaskInfo) (place number : ℕ) (done : Bool) (answer : Turn)
      (jobs left : List J) (it : J) → slice_get jobs place ≡ Some it
      → Walk (round info place number done answer) jobs left
      → (after : J) × Answered (call.Gate info.task number true)
      × Answered (call.Scope info.task done) × turns it info number done answer after
      × (left ≡ slice_set jobs place after)
  one_round info place number done answer jobs left it at path =
      let gate = path.1 in
      let scope = path.2.1 in
      let make = path.2.2.1 in
      let end = path.2.2.2 in
      let jobs_same : path.2.0 ≡ jobs = scope.1 ∙ gate.1 in
      let job_same : make.1.0 ≡ it =
      some_same make.1.0 it
      (sym make.1.2 ∙ (ap (λ l. slice_get l place) jobs_same ∙ at)) in (
        make.1.1,
        gate.0,
        scope.0,
        subst (λ j. turns j info number done answer make.1.1) job_same make.1.3,
        sym end ∙ (make.1.4 ∙ ap (λ l. slice_set l place make.1.1) jobs_same),
      )

  rounds : (info : TaskInfo) (place number : ℕ) (calls : List Call) (jobs left : List J) (it : J)
      → slice_get jobs place ≡ Some it → AreRounds info place number calls → Walk calls jobs left
      → (now : J) × Turned answers turns Answered info number it now
      × (left ≡ slice_set jobs place now)
  rounds info place zero calls jobs left it at are path =
      let none : Walk [] jobs left = subst (λ l. Walk l jobs left) are path in
      (it, refl, sym none ∙ sym (set_same jobs place it at))
  rounds info place (suc number) calls jobs left it at are path =
      let before = are.0 in
      let done = are.1 in
      let both = path_split Steps before (round info place number done turn.More) jobs left
      (subst (λ l. Walk l jobs left) are.3 path) in
      let first = rounds info place number before jobs both.0 it at are.2 both.1 in
      let here : slice_get both.0 place ≡ Some first.0 =
      ap (λ l. slice_get l place) first.2 ∙ get_set jobs place it first.0 at in
      let last = one_round info place number done turn.More both.0 left first.0 here both.2 in (
        last.0,
        (first.0, done, first.1, last.1, last.2, last.3),
        last.4 ∙ (ap (λ l. slice_set l place last.0) first.2
            ∙ set_set jobs place first.0 last.0),
      )

  -- How the turns end at this number.
  last_turn : (info : TaskInfo) (place number : ℕ) (calls : List Call) (how : Outcome)
      (jobs left : List J) (it : J) → slice_get jobs place ≡ Some it
      → EndsAt info place number calls how → Walk calls jobs left
      → (now : J) × EndsTurn answers turns Answered info number it now how
      × (left ≡ slice_set jobs place now)
  last_turn info place number calls how jobs left it at (inl gate) path =
      let went = subst (λ l. Walk l jobs left) gate.0 path in (
        it,
        inl (went.1.0, refl, gate.1),
        sym went.2 ∙ (went.1.1 ∙ sym (set_same jobs place it at)),
      )
  last_turn info place number calls how jobs left it at (inr (inl ended)) path =
      let went = one_round info place number ended.0 turn.Finished jobs left it at
      (subst (λ l. Walk l jobs left) ended.1 path) in
      (went.0, inr (ended.0, went.1, went.2, inl (went.3, ended.2)), went.4)
  last_turn info place number calls how jobs left it at (inr (inr failed)) path =
      let went = one_round info place number failed.0 (turn.Failed failed.1) jobs left it at
      (subst (λ l. Walk l jobs left) failed.2 path) in
      (went.0, inr (failed.0, went.1, went.2, inr (failed.1, went.3, failed.3)), went.4)

  all_turns : (info : TaskInfo) (place : ℕ) (calls : List Call) (how : Outcome)
      (jobs left : List J) (it : J) → slice_get jobs place ≡ Some it
      → AreTurns info place calls how → Walk calls jobs left
      → (now : J) × EndsBy answers turns Answered info it now how
      × (left ≡ slice_set jobs place now)
  all_turns info place calls how jobs left it at (inl limit) path =
      let went = rounds info place most_turns calls jobs left it at limit.0 path in
      (went.0, inl (went.1, limit.1), went.2)
  all_turns info place calls how jobs left it at (inr ended) path =
      let number = ended.0 in
      let both = path_split Steps ended.1 ended.2 jobs left
      (subst (λ l. Walk l jobs left) ended.6 path) in
      let first = rounds info place number ended.1 jobs both.0 it at ended.4 both.1 in
      let here : slice_get both.0 place ≡ Some first.0 =
      ap (λ l. slice_get l place) first.2 ∙ get_set jobs place it first.0 at in
      let last =
      last_turn info place number ended.2 how both.0 left first.0 here ended.5 both.2 in (
        last.0,
        inr (number, first.0, ended.3, first.1, last.1),
        last.2 ∙ (ap (λ l. slice_set l place last.0) first.2
            ∙ set_set jobs place first.0 last.0),
      )

  -- ---- the choice of a job

  declines : (name : List ℕ) (n : ℕ) (calls : List Call) (jobs left : List J)
      → calls ≡ declined name n → Walk calls jobs left
      → (left ≡ jobs) × ((place : ℕ) (job : J) → place < n → slice_get jobs place ≡ Some job
      → answers job name false)
  declines name zero calls jobs left is path =
      let none : Walk [] jobs left = subst (λ l. Walk l jobs left) is path in
      (sym none, λ place job below at. absurd (omega (arith, below)))
  declines name (suc n) calls jobs left is path =
      let both = path_split Steps (declined name n) (call.Handles n name false ∷ []) jobs left
      (subst (λ l. Walk l jobs left) is path) in
      let before = declines name n (declined name n) jobs both.0 refl both.1 in
      let asked = both.2.1.1 in (
        sym both.2.2 ∙ (asked.3 ∙ before.0),
        λ place job below at. elim (cases_lt place n) [
          | inl less ↦ before.1 place job less at
          | inr least ↦
              let same : n ≡ place = omega (arith, below, least) in
              let one : asked.0 ≡ job =
              some_same asked.0 job (sym asked.1 ∙ (ap (λ l. slice_get l n) before.0
              ∙ (ap (λ i. slice_get jobs i) same ∙ at))) in
              subst (λ j. answers j name false) one asked.2
        ],
      )

  runs : (n : ℕ) (info : TaskInfo) (calls : List Call) (how : Outcome) (jobs left : List J)
      → n ≡ length jobs → IsRun n info calls how → Walk calls jobs left
      → EndsAmong answers turns Answered info jobs left how
  runs n info calls how jobs left counts (inl none) path =
      let all = declines info.job n calls jobs left none.0 path in
      inl (
        λ place job at. all.1 place job
            (subst (λ m. place < m) (sym counts) (slice_get_within jobs place job at)) at,
        all.0,
        none.1,
      )
  runs n info calls how jobs left counts (inr (place, last, below, are, is)) path =
      let both = path_split Steps (declined info.job place)
      (call.Handles place info.job true ∷ last) jobs left (subst (λ l. Walk l jobs left) is path) in
      let before = declines info.job place (declined info.job place) jobs both.0 refl both.1 in
      let asked = both.2.1.1 in
      let same : both.2.0 ≡ jobs = asked.3 ∙ before.0 in
      let at : slice_get both.2.0 place ≡ Some asked.0 =
      ap (λ l. slice_get l place) asked.3 ∙ asked.1 in
      let went = all_turns info place last how both.2.0 left asked.0 at are both.2.2 in
      inr (
        place,
        asked.0,
        went.0,
        ap (λ l. slice_get l place) (sym same) ∙ at,
        λ earlier other less has. before.1 earlier other less has,
        asked.2,
        went.1,
        went.2 ∙ ap (λ l. slice_set l place went.0) same,
      )

  same_length : (info : TaskInfo) (jobs left : List J) (how : Outcome)
      → EndsAmong answers turns Answered info jobs left how → length left ≡ length jobs
  same_length info jobs left how (inl none) = ap length none.1
  same_length info jobs left how (inr (place, job, after, at, before, has, ends, is)) =
      ap length is ∙ length-set jobs place after

  -- ---- the notes

  is_done : (n : ℕ) (calls : List Call) (note : Note) (jobs left : List J) → n ≡ length jobs
      → IsCourse n calls note → Walk calls jobs left
      → IsDone answers turns Answered note jobs left
  is_done n calls note jobs left counts (started, durable, run, counted, is_run, task, is) path =
      let went = subst (λ l. Walk l jobs left) is path in
      let both = path_split Steps run (call.Finish note.task note.outcome (Ok note.event)
      ∷ call.Report note.task ∷ call.Wake note.event ∷ []) went.2.0 left went.2.2 in
      let begun : went.2.0 ≡ jobs = went.2.1.1 ∙ went.1.1 in
      let fin = both.2 in
      let ended : left ≡ both.0 = sym fin.2.2.2 ∙ (fin.2.2.1.1 ∙ (fin.2.1.1 ∙ fin.1.1)) in
      let ends = runs n started.info run note.outcome went.2.0 both.0
      (counts ∙ ap length (sym begun)) is_run both.1 in
      record {
        started = started;
        durable = durable;
        task = task;
        start = went.1.0;
        counted = counted;
        saved = went.2.1.0;
        ends = subst (λ l. EndsAmong answers turns Answered started.info jobs l note.outcome)
            (sym ended)
            (subst (λ l. EndsAmong answers turns Answered started.info l both.0 note.outcome)
            begun ends);
        finish = fin.1.0;
      }

  are_done : (n : ℕ) (notes : List Note) (calls : List Call) (jobs left : List J)
      → n ≡ length jobs → AreCourses n notes calls → Walk calls jobs left
      → AreDone answers turns Answered notes jobs
  are_done n [] calls jobs left counts are path = tt
  are_done n (note ∷ notes) calls jobs left counts are path =
      let both = path_split Steps are.0 are.1 jobs left
      (subst (λ l. Walk l jobs left) are.4 path) in
      let first = is_done n are.0 note jobs both.0 counts are.2 both.1 in (
        both.0,
        first,
        are_done n notes are.1 both.0 left
            (counts ∙ sym (same_length first.started.info jobs both.0 note.outcome first.ends))
            are.3 both.2,
      )

  pub shift_is_done : (jobs : List J) (notes : List Note) (starts : ℕ)
      → IsOfShift Answered answers turns jobs notes starts
      → AreDone answers turns Answered notes jobs
  shift_is_done jobs notes starts shift =
      let went = shift.1 in
      let is = went.1.0 in
      let both = path_split Steps is.0 is.1 jobs shift.0
      (subst (λ l. Walk l jobs shift.0) is.4 went.2) in
      are_done (length jobs) notes is.0 jobs both.0 refl is.2 both.1
