-- The number of tasks that the calls of a worker start: one for each note, and those of its last
-- calls.
use Rattle.std.proofs.Common.{◌≡◌, ◌∙◌, ℕ, zero, suc, ◌+◌, List, [], ◌∷◌, ◌++◌, Bool, true, false}
use Rattle.std.proofs.Common.{Ok, Err, Some, None, ap, arith, inl, inr, length, refl}
use Rattle.run_model.specs.declared.answers.Started.{Started}
use Rattle.run_model.specs.declared.answers.TaskInfo.{TaskInfo}
use Rattle.run_model.specs.declared.tasks.Outcome.{Outcome}
use Rattle.run_crew.specs.declared.jobs.Turn.{Turn}
use Rattle.run_crew.specs.declared.jobs.Turn.TheVariants as turn
use Rattle.run_crew.specs.declared.notes.Note.{Note}
use Rattle.run_crew.specs.Courses.{AreCourses, AreRounds, AreTurns, Call, EndsAt, IsCourse, IsRun}
use Rattle.run_crew.specs.Courses.{declined, most_turns, round, starts_in, task_calls}
use Rattle.run_crew.specs.Courses as call

pub starts-append : (xs ys : List Call) → starts_in (xs ++ ys) ≡ starts_in xs + starts_in ys
starts-append [] ys = omega arith
starts-append (x ∷ xs) ys = let more = starts-append xs ys in omega (arith, more)

declined_starts : (name : List ℕ) (n : ℕ) → starts_in (declined name n) ≡ 0
declined_starts name zero = refl
declined_starts name (suc n) =
    let sum = starts-append (declined name n) (call.Handles n name false ∷ []) in
    let none = declined_starts name n in
    omega (arith, sum, none)

-- A run whose calls are those of two parts, neither of which starts a task.
both_none : (calls xs ys : List Call) → calls ≡ xs ++ ys → starts_in xs ≡ 0 → starts_in ys ≡ 0
    → starts_in calls ≡ 0
both_none calls xs ys is one two =
    let sum = starts-append xs ys in
    let same = ap starts_in is in
    omega (arith, sum, same, one, two)

rounds_start : (info : TaskInfo) (job number : ℕ) (calls : List Call)
    → AreRounds info job number calls → starts_in calls ≡ 0
rounds_start info job zero calls none = ap starts_in none
rounds_start info job (suc number) calls (before, done, are, is) =
    both_none calls before (round info job number done turn.More) is
    (rounds_start info job number before are) refl

last_starts : (info : TaskInfo) (job number : ℕ) (calls : List Call) (how : Outcome)
    → EndsAt info job number calls how → starts_in calls ≡ 0
last_starts info job number calls how (inl gate) = ap starts_in gate.0
last_starts info job number calls how (inr (inl ended)) = ap starts_in ended.1
last_starts info job number calls how (inr (inr failed)) = ap starts_in failed.2

turns_start : (info : TaskInfo) (job : ℕ) (calls : List Call) (how : Outcome)
    → AreTurns info job calls how → starts_in calls ≡ 0
turns_start info job calls how (inl limit) = rounds_start info job most_turns calls limit.0
turns_start info job calls how (inr (number, before, last, below, are, ends, is)) =
    both_none calls before last is (rounds_start info job number before are)
    (last_starts info job number last how ends)

-- The run of a task starts none.
pub run_starts : (jobs : ℕ) (info : TaskInfo) (calls : List Call) (how : Outcome)
    → IsRun jobs info calls how → starts_in calls ≡ 0
run_starts jobs info calls how (inl none) =
    ap starts_in none.0 ∙ declined_starts info.job jobs
run_starts jobs info calls how (inr (job, turns, below, are, is)) =
    both_none calls (declined info.job job) (call.Handles job info.job true ∷ turns) is
    (declined_starts info.job job)
    (let none = turns_start info job turns how are in omega (arith, none))

-- A task that was begun, its run and the calls after it start one task, if these calls start none.
pub task_starts : (jobs : ℕ) (started : Started) (durable : ℕ) (run last calls : List Call)
    (how : Outcome) → IsRun jobs started.info run how → calls ≡ task_calls started durable run last
    → starts_in last ≡ 0 → starts_in calls ≡ 1
task_starts jobs started durable run last calls how is_run is none =
    let sum = starts-append run last in
    let ran = run_starts jobs started.info run how is_run in
    let same = ap starts_in is in
    omega (arith, sum, ran, same, none)

course_starts : (jobs : ℕ) (calls : List Call) (note : Note) → IsCourse jobs calls note
    → starts_in calls ≡ 1
course_starts jobs calls note (started, durable, run, counted, is_run, task, is) =
    task_starts jobs started durable run
    (call.Finish note.task note.outcome (Ok note.event)
    ∷ call.Report note.task ∷ call.Wake note.event ∷ []) calls note.outcome is_run is refl

-- The courses of a worker start one task for each note.
pub courses_start : (jobs : ℕ) (notes : List Note) (calls : List Call)
    → AreCourses jobs notes calls → starts_in calls ≡ length notes
courses_start jobs [] calls none = ap starts_in none
courses_start jobs (note ∷ notes) calls (course, rest, is_course, are, is) =
    let sum = starts-append course rest in
    let one = course_starts jobs course note is_course in
    let more = courses_start jobs notes rest are in
    let same = ap starts_in is in
    omega (arith, sum, one, more, same)
