-- The turns in a whole shift: each is of a noted task, and those of one task go up.
use Rattle.run_model.proofs.Common.{◌≡◌, ◌∙◌, ◌⊎◌, ◌<◌, ◌≤◌, ◌+◌, ◌==◌, ℕ, zero, suc, Bool, true}
use Rattle.run_model.proofs.Common.{false, List, [], ◌∷◌, ◌++◌, Err, Ok, ap, arith, cond, eq-eqb}
use Rattle.run_model.proofs.Common.{inl, inr, subst, sum_by-cons, sym, ⊤}
use Rattle.std.proofs.lemmas.List.Elements.{All-cons, All-nil}
use Rattle.std.proofs.lemmas.List.Kept.{AllPairs-cons}
use Rattle.std.specs.Prelude.{All, AllPairs}
use Rattle.run_model.specs.declared.answers.TaskInfo.{TaskInfo}
use Rattle.run_model.specs.declared.refusals.Refusal.{Refusal}
use Rattle.run_model.specs.declared.tasks.Outcome.{Outcome}
use Rattle.run_crew.specs.declared.jobs.Turn.{Turn}
use Rattle.run_crew.specs.declared.jobs.Turn.TheVariants as turn
use Rattle.run_crew.specs.declared.notes.Note.{Note}
use Rattle.run_crew.specs.Courses.{AreCourses, AreRounds, AreTurns, Call, EndsAt, IsCourse, IsRun}
use Rattle.run_crew.specs.Courses.{declined, most_turns, round}
use Rattle.run_crew.specs.Courses as call
use Rattle.crew_laws.specs.Audits.{GoesUp, IsMade, IsOfNoted, IsWholeShift, notes_of}

-- ---- lists

-- Each element has this property.
abbrev Each : {X : Type 0} → (X → Type 0) → List X → Type 0
Each P [] = ⊤
Each P (x ∷ xs) = P x × Each P xs

each_append : {X : Type 0} (P : X → Type 0) (xs ys : List X) → Each P xs → Each P ys
    → Each P (xs ++ ys)
each_append P [] ys first second = second
each_append P (x ∷ xs) ys first second = (first.0, each_append P xs ys first.1 second)

each_weaker : {X : Type 0} (P Q : X → Type 0) → ((x : X) → P x → Q x) → (xs : List X) → Each P xs
    → Each Q xs
each_weaker P Q weaker [] each = tt
each_weaker P Q weaker (x ∷ xs) each = (weaker x each.0, each_weaker P Q weaker xs each.1)

all_of : {X : Type 0} (P : X → Type 0) (xs : List X) → Each P xs → All P xs
all_of P [] each = All-nil P
all_of P (x ∷ xs) each = All-cons P x xs each.0 (all_of P xs each.1)

-- Each call and each later one go up.
abbrev GoUp : List Call → Type 0
GoUp [] = ⊤
GoUp (x ∷ xs) = Each (GoesUp x) xs × GoUp xs

up_append : (xs ys : List Call) → GoUp xs → GoUp ys → Each (λ x. Each (GoesUp x) ys) xs
    → GoUp (xs ++ ys)
up_append [] ys first second between = second
up_append (x ∷ xs) ys first second between = (
  each_append (GoesUp x) xs ys first.0 between.0,
  up_append xs ys first.1 second between.1,
)

all_up : (xs : List Call) → GoUp xs → AllPairs GoesUp xs
all_up [] up = λ i j d less within. absurd (omega (arith, less, within))
all_up (x ∷ xs) up = AllPairs-cons GoesUp x xs (all_of (GoesUp x) xs up.0) (all_up xs up.1)

-- If each of these calls goes up to each of those.
between : (P Q : Call → Type 0) → ((x y : Call) → P x → Q y → GoesUp x y) → (xs ys : List Call)
    → Each P xs → Each Q ys → Each (λ x. Each (GoesUp x) ys) xs
between P Q up xs ys first second =
    each_weaker P (λ x. Each (GoesUp x) ys)
    (λ x is. each_weaker Q (GoesUp x) (λ y too. up x y is too) ys second) xs first

-- ---- calls

abbrev NoTurn : Call → Type 0
NoTurn x = (task number : ℕ) → IsMade x task number → ⊥

-- If the call is a turn, it is one of this task with a smaller number.
abbrev Below : ℕ → ℕ → Call → Type 0
Below task most x = (t k : ℕ) → IsMade x t k → (t ≡ task) × (k < most)

abbrev From : ℕ → ℕ → Call → Type 0
From task least x = (t k : ℕ) → IsMade x t k → (t ≡ task) × (least ≤ k)

abbrev Of : ℕ → Call → Type 0
Of task x = (t k : ℕ) → IsMade x t k → t ≡ task

none_goes_up : (x : Call) → NoTurn x → (ys : List Call) → Each (GoesUp x) ys
none_goes_up x none [] = tt
none_goes_up x none (y ∷ ys) =
    (λ t k later made next. absurd (none t k made), none_goes_up x none ys)

none_up : (xs : List Call) → Each NoTurn xs → GoUp xs
none_up [] none = tt
none_up (x ∷ xs) none = (none_goes_up x none.0 xs, none_up xs none.1)

below_from : (task n : ℕ) (x y : Call) → Below task n x → From task n y → GoesUp x y
below_from task n x y below from t k later made next =
    let a = (below t k made).1 in
    let b = (from t later next).1 in
    omega (arith, a, b)

none_first : (x y : Call) → NoTurn x → ⊤ → GoesUp x y
none_first x y none any t k later made next = absurd (none t k made)

none_last : (x y : Call) → ⊤ → NoTurn y → GoesUp x y
none_last x y any none t k later made next = absurd (none t later next)

none_of : (task : ℕ) (x : Call) → NoTurn x → Of task x
none_of task x none t k made = absurd (none t k made)

any_of : (xs : List Call) → Each (λ x. ⊤) xs
any_of [] = tt
any_of (x ∷ xs) = (tt, any_of xs)

-- ---- the turns of a task

-- The calls go up, and each turn among them is of this task.
record OneTask (task : ℕ) (calls : List Call) : Type 0 where
  of : Each (Of task) calls
  up : GoUp calls

round_below : (info : TaskInfo) (job number : ℕ) (done : Bool) (answer : Turn)
    → Each (Below info.task (suc number)) (round info job number done answer)
round_below info job number done answer = (
  (λ t k none. absurd none),
  (
    (λ t k none. absurd none),
    ((λ t k made. (sym made.0, (let is = made.1 in omega (arith, is)))), tt),
  ),
)

round_from : (info : TaskInfo) (job number : ℕ) (done : Bool) (answer : Turn)
    → Each (From info.task number) (round info job number done answer)
round_from info job number done answer = (
  (λ t k none. absurd none),
  (
    (λ t k none. absurd none),
    ((λ t k made. (sym made.0, (let is = made.1 in omega (arith, is)))), tt),
  ),
)

round_up : (info : TaskInfo) (job number : ℕ) (done : Bool) (answer : Turn)
    → GoUp (round info job number done answer)
round_up info job number done answer = (
  ((λ t k later none next. absurd none), ((λ t k later none next. absurd none), tt)),
  (((λ t k later none next. absurd none), tt), (tt, tt)),
)

rounds_go : (info : TaskInfo) (job number : ℕ) (calls : List Call) → AreRounds info job number calls
    → Each (Below info.task number) calls × GoUp calls
rounds_go info job zero calls none =
    subst (λ l. Each (Below info.task 0) l × GoUp l) (sym none) (tt, tt)
rounds_go info job (suc number) calls (before, done, are, is) =
    let last : List Call = round info job number done turn.More in
    let first = rounds_go info job number before are in
    let wider = each_weaker (Below info.task number) (Below info.task (suc number))
    (λ x was t k made.
    let a = (was t k made).1 in ((was t k made).0, omega (arith, a))) before first.0 in
    subst (λ l. Each (Below info.task (suc number)) l × GoUp l) (sym is) (
      each_append (Below info.task (suc number)) before last wider
          (round_below info job number done turn.More),
      up_append before last first.1 (round_up info job number done turn.More)
          (between (Below info.task number) (From info.task number)
          (below_from info.task number) before last first.0
          (round_from info job number done turn.More)),
    )

last_goes : (info : TaskInfo) (job number : ℕ) (calls : List Call) (how : Outcome)
    → EndsAt info job number calls how → Each (From info.task number) calls × GoUp calls
last_goes info job number calls how (inl gate) =
    subst (λ l. Each (From info.task number) l × GoUp l) (sym gate.0)
    (((λ t k none. absurd none), tt), (tt, tt))
last_goes info job number calls how (inr (inl ended)) =
    subst (λ l. Each (From info.task number) l × GoUp l) (sym ended.1) (
      round_from info job number ended.0 turn.Finished,
      round_up info job number ended.0 turn.Finished,
    )
last_goes info job number calls how (inr (inr failed)) =
    subst (λ l. Each (From info.task number) l × GoUp l) (sym failed.2) (
      round_from info job number failed.0 (turn.Failed failed.1),
      round_up info job number failed.0 (turn.Failed failed.1),
    )

turns_go : (info : TaskInfo) (job : ℕ) (calls : List Call) (how : Outcome)
    → AreTurns info job calls how → OneTask info.task calls
turns_go info job calls how (inl limit) =
    let all = rounds_go info job most_turns calls limit.0 in
    record {
      of = each_weaker (Below info.task most_turns) (Of info.task)
          (λ x was t k made. (was t k made).0) calls all.0;
      up = all.1;
    }
turns_go info job calls how (inr (number, before, last, below, are, ends, is)) =
    let first = rounds_go info job number before are in
    let rest = last_goes info job number last how ends in
    subst (λ l. OneTask info.task l) (sym is) record {
      of = each_append (Of info.task) before last
          (each_weaker (Below info.task number) (Of info.task)
          (λ x was t k made. (was t k made).0) before first.0)
          (each_weaker (From info.task number) (Of info.task)
          (λ x was t k made. (was t k made).0) last rest.0);
      up = up_append before last first.1 rest.1
          (between (Below info.task number) (From info.task number)
          (below_from info.task number) before last first.0 rest.0);
    }

declined_none : (name : List ℕ) (n : ℕ) → Each NoTurn (declined name n)
declined_none name zero = tt
declined_none name (suc n) =
    each_append NoTurn (declined name n) (call.Handles n name false ∷ []) (declined_none name n)
    ((λ t k none. absurd none), tt)

-- Calls without a turn, and then those of one task.
none_then : (task : ℕ) (xs ys : List Call) → Each NoTurn xs → OneTask task ys
    → OneTask task (xs ++ ys)
none_then task xs ys none rest = record {
  of = each_append (Of task) xs ys (each_weaker NoTurn (Of task) (none_of task) xs none) rest.of;
  up = up_append xs ys (none_up xs none) rest.up
      (between NoTurn (λ y. ⊤) none_first xs ys none (any_of ys));
}

then_none : (task : ℕ) (xs ys : List Call) → OneTask task xs → Each NoTurn ys
    → OneTask task (xs ++ ys)
then_none task xs ys first none = record {
  of = each_append (Of task) xs ys first.of (each_weaker NoTurn (Of task) (none_of task) ys none);
  up = up_append xs ys first.up (none_up ys none)
      (between (λ x. ⊤) NoTurn none_last xs ys (any_of xs) none);
}

none_one : (task : ℕ) (xs : List Call) → Each NoTurn xs → OneTask task xs
none_one task xs none = record {
  of = each_weaker NoTurn (Of task) (none_of task) xs none;
  up = none_up xs none;
}

run_goes : (jobs : ℕ) (info : TaskInfo) (calls : List Call) (how : Outcome)
    → IsRun jobs info calls how → OneTask info.task calls
run_goes jobs info calls how (inl none) =
    subst (λ l. OneTask info.task l) (sym none.0)
    (none_one info.task (declined info.job jobs) (declined_none info.job jobs))
run_goes jobs info calls how (inr (job, turns, below, are, is)) =
    let asked : List Call = call.Handles job info.job true ∷ [] in
    subst (λ l. OneTask info.task l) (sym is)
    (none_then info.task (declined info.job job) (asked ++ turns) (declined_none info.job job)
    (none_then info.task asked turns ((λ t k none. absurd none), tt)
    (turns_go info job turns how are)))

course_goes : (jobs : ℕ) (calls : List Call) (note : Note) → IsCourse jobs calls note
    → OneTask note.task calls
course_goes jobs calls note (started, durable, run, counted, is_run, task, is) =
    let begun : List Call = call.Start (Ok started) ∷ call.Save started.event (Ok durable) ∷ [] in
    let last : List Call = call.Finish note.task note.outcome (Ok note.event)
    ∷ call.Report note.task ∷ call.Wake note.event ∷ [] in
    subst (λ l. OneTask note.task l) (sym is)
    (none_then note.task begun (run ++ last)
    ((λ t k none. absurd none), ((λ t k none. absurd none), tt))
    (then_none note.task run last
    (subst (λ t. OneTask t run) (sym task) (run_goes jobs started.info run note.outcome is_run)) (
      (λ t k none. absurd none),
      ((λ t k none. absurd none), ((λ t k none. absurd none), tt)),
    )))

-- ---- the turns of a worker

-- The notes of a task, with those of one more note.
noted_more : (note : Note) (notes : List Note) (task : ℕ)
    → notes_of task (note ∷ notes) ≡ cond (note.task == task) 1 0 + notes_of task notes
noted_more note notes task = sum_by-cons (λ (y : Note). cond (y.task == task) 1 0) note notes

noted_first : (note : Note) (notes : List Note) (task : ℕ) → task ≡ note.task
    → notes_of task (note ∷ notes) ≡ 1 + notes_of task notes
noted_first note notes task same =
    noted_more note notes task
    ∙ ap (λ c. cond c 1 0 + notes_of task notes) (eq-eqb note.task task (sym same))

noted_rest : (note : Note) (notes : List Note) (task : ℕ)
    → notes_of task notes ≤ notes_of task (note ∷ notes)
noted_rest note notes task = let sum = noted_more note notes task in omega (arith, sum)

course_noted : (note : Note) (notes : List Note) (x : Call) → Of note.task x
    → IsOfNoted (note ∷ notes) x
course_noted note notes x of t k made =
    let sum = noted_first note notes t (of t k made) in omega (arith, sum)

rest_noted : (note : Note) (notes : List Note) (x : Call) → IsOfNoted notes x
    → IsOfNoted (note ∷ notes) x
rest_noted note notes x of t k made =
    let some = of t k made in
    let more = noted_rest note notes t in
    omega (arith, some, more)

courses_noted : (jobs : ℕ) (notes : List Note) (calls : List Call) → AreCourses jobs notes calls
    → Each (IsOfNoted notes) calls
courses_noted jobs [] calls none = subst (λ l. Each (IsOfNoted []) l) (sym none) tt
courses_noted jobs (note ∷ notes) calls (course, rest, is_course, are, is) =
    let P : Call → Type 0 = IsOfNoted (note ∷ notes) in
    subst (λ l. Each P l) (sym is)
    (each_append P course rest
    (each_weaker (Of note.task) P (course_noted note notes) course
    (course_goes jobs course note is_course).of)
    (each_weaker (IsOfNoted notes) P (rest_noted note notes) rest
    (courses_noted jobs notes rest are)))

-- A turn of the first task, and then one of another.
two_tasks : (note : Note) (notes : List Note)
    → ((task : ℕ) → notes_of task (note ∷ notes) ≤ 1) → (x y : Call) → Of note.task x
    → IsOfNoted notes y → GoesUp x y
two_tasks note notes once x y of noted t k later made next =
    let sum = noted_first note notes t (of t k made) in
    let some = noted t later next in
    let most = once t in
    absurd (omega (arith, sum, some, most))

courses_up : (jobs : ℕ) (notes : List Note) (calls : List Call) → AreCourses jobs notes calls
    → ((task : ℕ) → notes_of task notes ≤ 1) → GoUp calls
courses_up jobs [] calls none once = subst (λ l. GoUp l) (sym none) tt
courses_up jobs (note ∷ notes) calls (course, rest, is_course, are, is) once =
    let first = course_goes jobs course note is_course in
    let fewer : (task : ℕ) → notes_of task notes ≤ 1 =
    λ task.
    let most = once task in
    let more = noted_rest note notes task in
    omega (arith, most, more) in
    subst (λ l. GoUp l) (sym is)
    (up_append course rest first.up (courses_up jobs notes rest are fewer)
    (between (Of note.task) (IsOfNoted notes) (two_tasks note notes once) course rest first.of
    (courses_noted jobs notes rest are)))

last_none : (last : List Call)
    → (last ≡ []) ⊎ ((why : Refusal) × (last ≡ call.Start (Err why) ∷ [])) → Each NoTurn last
last_none last (inl none) = subst (λ l. Each NoTurn l) (sym none) tt
last_none last (inr (why, is)) =
    subst (λ l. Each NoTurn l) (sym is) ((λ t k none. absurd none), tt)

none_noted : (notes : List Note) (x : Call) → NoTurn x → IsOfNoted notes x
none_noted notes x none t k made = absurd (none t k made)

pub whole_noted : (jobs : ℕ) (notes : List Note) (calls : List Call) → IsWholeShift jobs notes calls
    → All (IsOfNoted notes) calls
whole_noted jobs notes calls (courses, last, are, ends, is) =
    let P : Call → Type 0 = IsOfNoted notes in
    all_of P calls (subst (λ l. Each P l) (sym is)
    (each_append P courses last (courses_noted jobs notes courses are)
    (each_weaker NoTurn P (none_noted notes) last (last_none last ends))))

pub whole_up : (jobs : ℕ) (notes : List Note) (calls : List Call) → IsWholeShift jobs notes calls
    → ((task : ℕ) → notes_of task notes ≤ 1) → AllPairs GoesUp calls
whole_up jobs notes calls (courses, last, are, ends, is) once =
    all_up calls (subst (λ l. GoUp l) (sym is)
    (up_append courses last (courses_up jobs notes courses are once) (none_up last (last_none last
    ends))
    (between (λ x. ⊤) NoTurn none_last courses last (any_of courses) (last_none last ends))))
