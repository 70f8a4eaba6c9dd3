-- Each turn comes after the start of its task has become durable.
use Rattle.std.proofs.Common.{◌≡◌, ◌∙◌, ℕ, zero, suc, ◌≤◌, List, [], ◌∷◌, ◌++◌, Bool, All, Ok}
use Rattle.std.proofs.Common.{true, false, Err, ap, append-nil, append_assoc, inl, inr}
use Rattle.std.proofs.Common.{refl, subst, sym}
use Rattle.std.proofs.lemmas.List.Elements.{All-append, All-cons, All-head, All-nil, All-rest}
use Rattle.std.specs.Prelude.{⊤}
use Rattle.run_model.specs.declared.answers.Started.{Started}
use Rattle.run_model.specs.declared.answers.TaskInfo.{TaskInfo}
use Rattle.run_model.specs.declared.tasks.Outcome.{Outcome}
use Rattle.run_crew.specs.declared.jobs.Turn.{Turn}
use Rattle.run_crew.specs.declared.jobs.Turn.TheVariants as turn
use Rattle.run_crew.specs.declared.notes.Note.{Note}
use Rattle.run_crew.specs.Courses.{AreCourses, AreRounds, AreTurns, Call, EndsAt, EndsShift}
use Rattle.run_crew.specs.Courses.{IsBegun, IsCourse, IsRun, IsShift, declined, most_turns, round}
use Rattle.run_crew.specs.Courses.{task_calls}
use Rattle.run_crew.specs.Courses as call
use Rattle.run_crew.specs.Turns.{IsStarted, TurnsFollow}

-- A turn comes after these calls only if the start of its task is among them.
abbrev Follows : List Call → Call → Type 0
Follows before (call.Make place info number done answer) = IsStarted before info
Follows before other = ⊤

-- Each of these calls may come after the earlier ones.
abbrev EachFollows : List Call → List Call → Type 0
EachFollows before [] = ⊤
EachFollows before (x ∷ calls) = Follows before x × EachFollows (before ++ x ∷ []) calls

-- A turn is one of this task.
abbrev IsOf : TaskInfo → Call → Type 0
IsOf info (call.Make place other number done answer) = other ≡ info
IsOf info other = ⊤

each_append : (before xs ys : List Call) → EachFollows before xs → EachFollows (before ++ xs) ys
    → EachFollows before (xs ++ ys)
each_append before [] ys first second =
    subst (λ l. EachFollows l ys) (append-nil before) second
each_append before (x ∷ xs) ys first second = (
  first.0,
  each_append (before ++ x ∷ []) xs ys first.1
      (subst (λ l. EachFollows l ys) (sym (append_assoc before (x ∷ []) xs)) second),
)

at_split : (before early late : List Call) (x : Call) → EachFollows before (early ++ x ∷ late)
    → Follows (before ++ early) x
at_split before [] late x each = subst (λ l. Follows l x) (sym (append-nil before)) each.0
at_split before (e ∷ early) late x each =
    subst (λ l. Follows l x) (append_assoc before (e ∷ []) early)
    (at_split (before ++ e ∷ []) early late x each.1)

started_more : (before : List Call) (x : Call) (info : TaskInfo) → IsStarted before info
    → IsStarted (before ++ x ∷ []) info
started_more before x info is = record {
  early = is.early;
  late = is.late ++ x ∷ [];
  started = is.started;
  durable = is.durable;
  is_in = ap (λ l. l ++ x ∷ []) is.is_in
      ∙ append_assoc is.early
      (call.Start (Ok is.started) ∷ call.Save is.started.event (Ok is.durable) ∷ is.late)
      (x ∷ []);
  same = is.same;
  counted = is.counted;
}

one_follows : (before : List Call) (info : TaskInfo) (x : Call) → IsStarted before info
    → IsOf info x → Follows before x
one_follows before info (call.Make place other number done answer) is same =
    subst (λ i. IsStarted before i) (sym same) is
one_follows before info (call.Start r) is same = tt
one_follows before info (call.Save event r) is same = tt
one_follows before info (call.Handles place name answer) is same = tt
one_follows before info (call.Gate task number answer) is same = tt
one_follows before info (call.Scope task answer) is same = tt
one_follows before info (call.Finish task how r) is same = tt
one_follows before info (call.Report task) is same = tt
one_follows before info (call.Wake event) is same = tt
one_follows before info (call.Wait event r) is same = tt

of_one_task : (before calls : List Call) (info : TaskInfo) → IsStarted before info
    → All (IsOf info) calls → EachFollows before calls
of_one_task before [] info is all = tt
of_one_task before (x ∷ xs) info is all = (
  one_follows before info x is (All-head (IsOf info) x xs all),
  of_one_task (before ++ x ∷ []) xs info (started_more before x info is)
      (All-rest (IsOf info) x xs (x ∷ xs) refl all),
)

-- ---- the calls of a run

round_of : (info : TaskInfo) (place number : ℕ) (done : Bool) (answer : Turn)
    → All (IsOf info) (round info place number done answer)
round_of info place number done answer =
    let gate : Call = call.Gate info.task number true in
    let scope : Call = call.Scope info.task done in
    let make : Call = call.Make place info number done answer in
    let is : IsOf info make = refl in
    All-cons (IsOf info) gate (scope ∷ make ∷ []) tt
    (All-cons (IsOf info) scope (make ∷ []) tt
    (All-cons (IsOf info) make [] is (All-nil (IsOf info))))

rounds_of : (info : TaskInfo) (place number : ℕ) (calls : List Call)
    → AreRounds info place number calls → All (IsOf info) calls
rounds_of info place zero calls are =
    subst (λ l. All (IsOf info) l) (sym are) (All-nil (IsOf info))
rounds_of info place (suc number) calls (before, done, are, is) =
    subst (λ l. All (IsOf info) l) (sym is)
    (All-append (IsOf info) before (round info place number done turn.More)
    (rounds_of info place number before are) (round_of info place number done turn.More))

last_of : (info : TaskInfo) (place number : ℕ) (calls : List Call) (how : Outcome)
    → EndsAt info place number calls how → All (IsOf info) calls
last_of info place number calls how (inl gate) =
    subst (λ l. All (IsOf info) l) (sym gate.0)
    (All-cons (IsOf info) (call.Gate info.task number false) [] tt (All-nil (IsOf info)))
last_of info place number calls how (inr (inl ended)) =
    subst (λ l. All (IsOf info) l) (sym ended.1) (round_of info place number ended.0 turn.Finished)
last_of info place number calls how (inr (inr failed)) =
    subst (λ l. All (IsOf info) l) (sym failed.2)
    (round_of info place number failed.0 (turn.Failed failed.1))

turns_of : (info : TaskInfo) (place : ℕ) (calls : List Call) (how : Outcome)
    → AreTurns info place calls how → All (IsOf info) calls
turns_of info place calls how (inl limit) = rounds_of info place most_turns calls limit.0
turns_of info place calls how (inr (number, before, last, below, are, ends, is)) =
    subst (λ l. All (IsOf info) l) (sym is)
    (All-append (IsOf info) before last (rounds_of info place number before are)
    (last_of info place number last how ends))

declined_of : (info : TaskInfo) (name : List ℕ) (n : ℕ) → All (IsOf info) (declined name n)
declined_of info name zero = All-nil (IsOf info)
declined_of info name (suc n) =
    All-append (IsOf info) (declined name n) (call.Handles n name false ∷ [])
    (declined_of info name n)
    (All-cons (IsOf info) (call.Handles n name false) [] tt (All-nil (IsOf info)))

run_of : (jobs : ℕ) (info : TaskInfo) (calls : List Call) (how : Outcome)
    → IsRun jobs info calls how → All (IsOf info) calls
run_of jobs info calls how (inl none) =
    subst (λ l. All (IsOf info) l) (sym none.0) (declined_of info info.job jobs)
run_of jobs info calls how (inr (place, turns, below, are, is)) =
    subst (λ l. All (IsOf info) l) (sym is)
    (All-append (IsOf info) (declined info.job place) (call.Handles place info.job true ∷ turns)
    (declined_of info info.job place)
    (All-cons (IsOf info) (call.Handles place info.job true) turns tt
    (turns_of info place turns how are)))

-- ---- the calls of a shift

task_follows : (before : List Call) (started : Started) (durable : ℕ) (run last : List Call)
    → started.event ≤ durable → All (IsOf started.info) run → All (IsOf started.info) last
    → EachFollows before (task_calls started durable run last)
task_follows before started durable run last counted is_run is_last =
    let start : Call = call.Start (Ok started) in
    let save : Call = call.Save started.event (Ok durable) in
    let is : IsStarted ((before ++ start ∷ []) ++ save ∷ []) started.info = record {
      early = before;
      late = [];
      started = started;
      durable = durable;
      is_in = append_assoc before (start ∷ []) (save ∷ []);
      same = refl;
      counted = counted;
    } in (
      tt,
      (
        tt,
        of_one_task ((before ++ start ∷ []) ++ save ∷ []) (run ++ last) started.info is
            (All-append (IsOf started.info) run last is_run is_last),
      ),
    )

course_follows : (before : List Call) (jobs : ℕ) (calls : List Call) (note : Note)
    → IsCourse jobs calls note → EachFollows before calls
course_follows before jobs calls note (started, durable, run, counted, is_run, task, is) =
    let finish : Call = call.Finish note.task note.outcome (Ok note.event) in
    let report : Call = call.Report note.task in
    let wake : Call = call.Wake note.event in
    subst (λ l. EachFollows before l) (sym is)
    (task_follows before started durable run (finish ∷ report ∷ wake ∷ []) counted
    (run_of jobs started.info run note.outcome is_run)
    (All-cons (IsOf started.info) finish (report ∷ wake ∷ []) tt
    (All-cons (IsOf started.info) report (wake ∷ []) tt
    (All-cons (IsOf started.info) wake [] tt (All-nil (IsOf started.info))))))

courses_follow : (before : List Call) (jobs : ℕ) (notes : List Note) (calls : List Call)
    → AreCourses jobs notes calls → EachFollows before calls
courses_follow before jobs [] calls none = subst (λ l. EachFollows before l) (sym none) tt
courses_follow before jobs (note ∷ notes) calls (course, rest, is_course, are, is) =
    subst (λ l. EachFollows before l) (sym is)
    (each_append before course rest (course_follows before jobs course note is_course)
    (courses_follow (before ++ course) jobs notes rest are))

last_follows : (before : List Call) (jobs : ℕ) (notes : List Note) (calls : List Call)
    → EndsShift jobs notes calls → EachFollows before calls
last_follows before jobs notes calls (inl full) =
    subst (λ l. EachFollows before l) (sym full.1) tt
last_follows before jobs notes calls (inr (few, inl (inl refused))) =
    subst (λ l. EachFollows before l) (sym refused.1) (tt, tt)
last_follows before jobs notes calls (inr (few, inl (inr failed))) =
    subst (λ l. EachFollows before l) (sym failed.2) (tt, (tt, tt))
last_follows before jobs notes calls
    (inr (few, inr (started, durable, run, how, why, counted, is_run, is))) =
    subst (λ l. EachFollows before l) (sym is)
    (task_follows before started durable run (call.Finish started.info.task how (Err why) ∷ [])
    counted (run_of jobs started.info run how is_run)
    (All-cons (IsOf started.info) (call.Finish started.info.task how (Err why)) [] tt
    (All-nil (IsOf started.info))))

pub turns_follow : (jobs : ℕ) (notes : List Note) (calls : List Call) → IsShift jobs notes calls
    → TurnsFollow calls
turns_follow jobs notes calls (courses, last, are, ends, is) early late place info number done
    answer split =
    at_split [] early late (call.Make place info number done answer)
    (subst (λ l. EachFollows [] l) split
    (subst (λ l. EachFollows [] l) (sym is)
    (each_append [] courses last (courses_follow [] jobs notes courses are)
    (last_follows courses jobs notes last ends))))
