-- The courses that single calls make together.
use Rattle.std.proofs.Common.{◌≡◌, ℕ, ◌+◌, ◌<◌, List, [], ◌∷◌, ◌++◌, length, Bool, true, false}
use Rattle.std.proofs.Common.{Option, None, Some, suc, arith, ◌∙◌, append-nil, append_assoc, ap}
use Rattle.std.proofs.Common.{inl, inr, refl, subst, sym}
use Rattle.std.proofs.lemmas.List.Elements.{All-cons, All-nil}
use Rattle.std.specs.Prelude.{Result, Ok, Err, All, IfOk, IfSome, codes, ◌≤◌}
use Rattle.run_model.specs.declared.answers.Started.{Started}
use Rattle.run_model.specs.declared.answers.TaskInfo.{TaskInfo}
use Rattle.run_model.specs.declared.bounds.TheConstants.{MOST_TASKS}
use Rattle.run_model.specs.declared.faults.Trouble.{Trouble}
use Rattle.run_model.specs.declared.refusals.Refusal.{Refusal}
use Rattle.run_model.specs.declared.tasks.Outcome.{Outcome}
use Rattle.run_model.specs.declared.tasks.Outcome.TheVariants as outcome
use Rattle.run_crew.specs.declared.jobs.Turn.{Turn}
use Rattle.run_crew.specs.declared.jobs.Turn.TheVariants as turn
use Rattle.run_crew.specs.declared.notes.Note.{Note}
use Rattle.run_crew.specs.Courses.{AreCourses, AreRounds, AreSaves, AreTurns, Call, EndsAt}
use Rattle.run_crew.specs.Courses.{IsBegun, IsCourse, IsRun}
use Rattle.run_crew.specs.Courses.{IsShift, IsFlusherRun, Path}
use Rattle.run_crew.specs.Courses.{Counts, TakesTask, Went, declined, most_turns, round}
use Rattle.run_crew.specs.Courses.{starts_in, task_calls}
use Rattle.run_crew.specs.Courses as call
use Rattle.run_crew.proofs.StartCounts.{courses_start, starts-append, task_starts}

-- A path over the parts of the states that stay the same, if each call is answered by those parts.
pub seen_path :
    {A B C : Type 0} (step : A → Call → A → Type 0) (at : A → C) (seen : A → B)
    (Answered : C → Call → Type 0) (steps : B → Call → B → Type 0)
    → ((a : A) (x : Call) (b : A) → step a x b
    → (at b ≡ at a) × Answered (at a) x × steps (seen a) x (seen b))
    → (calls : List Call) (a b : A) → Path step a calls b
    → Path (λ from call to. Answered (at a) call × steps from call to) (seen a) calls (seen b)
seen_path step at seen Answered steps each [] a b path = ap seen path
seen_path step at seen Answered steps each (x ∷ xs) a b path =
    let first = each a x path.0 path.1 in (
      seen path.0,
      (first.1, first.2),
      subst (λ s. Path (λ from call to. Answered s call × steps from call to) (seen path.0) xs
          (seen b)) first.0
          (seen_path step at seen Answered steps each xs path.0 b path.2),
    )

-- Each call of a path has such an answer.
pub all_answered : {A : Type 0} (Answered : Call → Type 0) (steps : A → Call → A → Type 0)
    → (calls : List Call) (a b : A) → Path (λ from call to. Answered call × steps from call to)
    a calls b → All Answered calls
all_answered Answered steps [] a b path = All-nil Answered
all_answered Answered steps (x ∷ xs) a b path =
    All-cons Answered x xs path.1.0 (all_answered Answered steps xs path.0 b path.2)

-- A whole course more, after the others.
courses-snoc :
    (jobs : ℕ) (notes : List Note) (calls course : List Call) (note : Note)
    → AreCourses jobs notes calls → IsCourse jobs course note
    → AreCourses jobs (notes ++ note ∷ []) (calls ++ course)
courses-snoc jobs [] calls course note none is =
    (course, [], is, refl, ap (λ l. l ++ course) none ∙ sym (append-nil course))
courses-snoc jobs (first ∷ notes) calls course note all is = (
  all.0,
  all.1 ++ course,
  all.2,
  courses-snoc jobs notes all.1 course note all.3 is,
  ap (λ l. l ++ course) all.4 ∙ append_assoc all.0 all.1 course,
)

-- A task was begun, and the calls after its run start none.
one_task : (jobs before mid after : ℕ) (started : Started) (durable : ℕ)
    (begun run last : List Call) (how : Outcome) → after ≡ mid
    → begun ≡ call.Start (Ok started) ∷ call.Save started.event (Ok durable) ∷ []
    → mid ≡ before + starts_in begun → IsRun jobs started.info run how → starts_in last ≡ 0
    → after ≡ before + starts_in (task_calls started durable run last)
one_task jobs before mid after started durable begun run last how same is counted is_run none =
    let first = ap starts_in is in
    let one = task_starts jobs started durable run last (task_calls started durable run last) how
    is_run refl none in
    omega (arith, same, first, counted, one)

module _ {A : Type 0} (step : A → Call → A → Type 0) where
  -- The calls of two paths lead from the first one's begin to the second one's end.
  path-append : (xs ys : List Call) (a b c : A) → Path step a xs b → Path step b ys c
      → Path step a (xs ++ ys) c
  path-append [] ys a b c same path = subst (λ m. Path step m ys c) (sym same) path
  path-append (x ∷ xs) ys a b c first path =
      (first.0, first.1, path-append xs ys first.0 b c first.2 path)

  -- ---- turns

  pub no_rounds : (info : TaskInfo) (job : ℕ) (a : A) → Went step (AreRounds info job 0) a a
  no_rounds info job a = ([], refl, refl)

  pub round-path : (info : TaskInfo) (job number : ℕ) (passes done : Bool) (answer : Turn)
      (a b c d : A) → passes ≡ true → step a (call.Gate info.task number passes) b
      → step b (call.Scope info.task done) c → step c (call.Make job info number done answer) d
      → Path step a (round info job number done answer) d
  round-path info job number passes done answer a b c d is gate scope make =
      (b, subst (λ x. step a (call.Gate info.task number x) b) is gate, (c, scope, (d, make, refl)))

  pub next_round : (info : TaskInfo) (job number : ℕ) (done : Bool) (answer : Turn) (a b c : A)
      → answer ≡ turn.More → Went step (AreRounds info job number) a b
      → Path step b (round info job number done answer) c
      → Went step (AreRounds info job (number + 1)) a c
  next_round info job number done answer a b c is rounds path =
      let e : suc number ≡ number + 1 = omega arith in
      let all : Went step (AreRounds info job (suc number)) a c = (
        rounds.0 ++ round info job number done answer,
        (rounds.0, done, rounds.1, ap (λ t. rounds.0 ++ round info job number done t) is),
        path-append rounds.0 (round info job number done answer) a b c rounds.2 path,
      ) in
      subst (λ n. Went step (AreRounds info job n) a c) e all

  last_calls : (info : TaskInfo) (job number : ℕ) (last : List Call) (how : Outcome) (a b c : A)
      → number < most_turns → EndsAt info job number last how
      → Went step (AreRounds info job number) a b → Path step b last c
      → Went step (λ calls. AreTurns info job calls how) a c
  last_calls info job number last how a b c below ends rounds path = (
    rounds.0 ++ last,
    inr (number, rounds.0, last, below, rounds.1, ends, refl),
    path-append rounds.0 last a b c rounds.2 path,
  )

  pub refused_turn : (info : TaskInfo) (job number : ℕ) (passes : Bool) (how : Outcome) (a b c : A)
      → number < most_turns → passes ≡ false → how ≡ outcome.Failure (codes "gate")
      → Went step (AreRounds info job number) a b → step b (call.Gate info.task number passes) c
      → Went step (λ calls. AreTurns info job calls how) a c
  refused_turn info job number passes how a b c below is as_gate rounds gate =
      last_calls info job number (call.Gate info.task number false ∷ []) how a b c below
      (inl (refl, as_gate)) rounds
      (c, subst (λ x. step b (call.Gate info.task number x) c) is gate, refl)

  pub finished_turn : (info : TaskInfo) (job number : ℕ) (done : Bool) (answer : Turn) (a b c : A)
      → number < most_turns → answer ≡ turn.Finished → Went step (AreRounds info job number) a b
      → Path step b (round info job number done answer) c
      → Went step (λ calls. AreTurns info job calls outcome.Success) a c
  finished_turn info job number done answer a b c below is rounds path =
      last_calls info job number (round info job number done answer) outcome.Success a b c below
      (inr (inl (done, ap (λ t. round info job number done t) is, refl))) rounds path

  pub failed_turn : (info : TaskInfo) (job number : ℕ) (done : Bool) (answer : Turn)
      (error : List ℕ) (a b c : A) → number < most_turns → answer ≡ turn.Failed error
      → Went step (AreRounds info job number) a b
      → Path step b (round info job number done answer) c
      → Went step (λ calls. AreTurns info job calls (outcome.Failure error)) a c
  failed_turn info job number done answer error a b c below is rounds path =
      last_calls info job number (round info job number done answer) (outcome.Failure error)
      a b c below
      (inr (inr (done, error, ap (λ t. round info job number done t) is, refl))) rounds path

  pub all_turns : (info : TaskInfo) (job number : ℕ) (how : Outcome) (a b : A) → number ≡ most_turns
      → how ≡ outcome.Failure (codes "turn limit") → Went step (AreRounds info job number) a b
      → Went step (λ calls. AreTurns info job calls how) a b
  all_turns info job number how a b is as_limit rounds =
      let all = subst (λ n. Went step (AreRounds info job n) a b) is rounds in
      (all.0, inl (all.1, as_limit), all.2)

  -- ---- jobs

  pub declines : (name : List ℕ) (job : ℕ) (handles : Bool) (a b c : A) → handles ≡ false
      → Went step (λ calls. calls ≡ declined name job) a b
      → step b (call.Handles job name handles) c
      → Went step (λ calls. calls ≡ declined name (job + 1)) a c
  declines name job handles a b c is before asked =
      let one : List Call = call.Handles job name false ∷ [] in
      let e : suc job ≡ job + 1 = omega arith in
      let all : Went step (λ calls. calls ≡ declined name (suc job)) a c = (
        before.0 ++ one,
        ap (λ calls. calls ++ one) before.1,
        path-append before.0 one a b c before.2
            (c, subst (λ x. step b (call.Handles job name x) c) is asked, refl),
      ) in
      subst (λ n. Went step (λ calls. calls ≡ declined name n) a c) e all

  pub run_by : (jobs : ℕ) (info : TaskInfo) (job : ℕ) (handles : Bool) (how : Outcome) (a b c d : A)
      → job < jobs → handles ≡ true → Went step (λ calls. calls ≡ declined info.job job) a b
      → step b (call.Handles job info.job handles) c
      → Went step (λ calls. AreTurns info job calls how) c d
      → Went step (λ calls. IsRun jobs info calls how) a d
  run_by jobs info job handles how a b c d below is before asked turns =
      let more : List Call = call.Handles job info.job true ∷ turns.0 in (
        before.0 ++ more,
        inr (job, turns.0, below, turns.1, ap (λ calls. calls ++ more) before.1),
        path-append before.0 more a b d before.2
            (c, subst (λ x. step b (call.Handles job info.job x) c) is asked, turns.2),
      )

  pub run_by_none : (jobs : ℕ) (info : TaskInfo) (job : ℕ) (how : Outcome) (a b : A) → job ≡ jobs
      → how ≡ outcome.Failure (codes "no such job")
      → Went step (λ calls. calls ≡ declined info.job job) a b
      → Went step (λ calls. IsRun jobs info calls how) a b
  run_by_none jobs info job how a b is as_none before =
      let all = subst (λ n. Went step (λ calls. calls ≡ declined info.job n) a b) is before in
      (all.0, inl (all.1, as_none), all.2)

  -- ---- the task

  -- What was begun, a run and the calls after it.
  run_and : (started : Started) (durable : ℕ) (begun run calls : List Call) (a b c d : A)
      → begun ≡ call.Start (Ok started) ∷ call.Save started.event (Ok durable) ∷ []
      → Path step a begun b → Path step b run c → Path step c calls d
      → Path step a (task_calls started durable run calls) d
  run_and started durable begun run calls a b c d is first behind last =
      path-append (call.Start (Ok started) ∷ call.Save started.event (Ok durable) ∷ [])
      (run ++ calls) a b d (subst (λ l. Path step a l b) is first)
      (path-append run calls b c d behind last)

  pub refused_start : (answer : Result Started Refusal) (why : Refusal) (before after : ℕ) (a b : A)
      → answer ≡ Err why → after ≡ before → step a (call.Start answer) b
      → Went step (Counts before after (IsBegun None)) a b
  refused_start answer why before after a b is none start = (
    call.Start (Err why) ∷ [],
    (inl (why, refl), omega (arith, none)),
    (b, subst (λ x. step a (call.Start x) b) is start, refl),
  )

  pub failed_save : (answer : Result Started Refusal) (started : Started) (saved : Result ℕ Trouble)
      (trouble : Trouble) (before after : ℕ) (a b c : A) → answer ≡ Ok started
      → saved ≡ Err trouble → after ≡ before + 1 → step a (call.Start answer) b
      → step b (call.Save started.event saved) c
      → Went step (Counts before after (IsBegun None)) a c
  failed_save answer started saved trouble before after a b c is was one start save = (
    call.Start (Ok started) ∷ call.Save started.event (Err trouble) ∷ [],
    (inr (started, trouble, refl), omega (arith, one)),
    (
      b,
      subst (λ x. step a (call.Start x) b) is start,
      (c, subst (λ x. step b (call.Save started.event x) c) was save, refl),
    ),
  )

  pub begun_task : (answer : Result Started Refusal) (started : Started) (saved : Result ℕ Trouble)
      (durable before after : ℕ) (a b c : A) → answer ≡ Ok started → saved ≡ Ok durable
      → IfOk saved (λ n. started.event ≤ n) → after ≡ before + 1 → step a (call.Start answer) b
      → step b (call.Save started.event saved) c
      → Went step (Counts before after (IsBegun (Some started))) a c
  begun_task answer started saved durable before after a b c is was reached one start save = (
    call.Start (Ok started) ∷ call.Save started.event (Ok durable) ∷ [],
    ((durable, subst (λ x. IfOk x (λ n. started.event ≤ n)) was reached, refl), omega (arith, one)),
    (
      b,
      subst (λ x. step a (call.Start x) b) is start,
      (c, subst (λ x. step b (call.Save started.event x) c) was save, refl),
    ),
  )

  pub not_finished : (jobs had before mid after : ℕ) (answered : Option Started) (started : Started)
      (how : Outcome) (answer : Result ℕ Refusal) (why : Refusal) (notes : List Note) (a b c d : A)
      → had ≡ jobs → answered ≡ Some started → answer ≡ Err why → length notes < MOST_TASKS
      → after ≡ mid → Went step (Counts before mid (IsBegun answered)) a b
      → Went step (λ calls. IsRun had started.info calls how) b c
      → step c (call.Finish started.info.task how answer) d
      → Went step (Counts before after (TakesTask jobs false notes notes)) a d
  not_finished jobs had before mid after answered started how answer why notes a b c d same some is
      room kept first behind finish =
      let begun = subst (λ s. Went step (Counts before mid (IsBegun s)) a b) some first in
      let run = subst (λ n. Went step (λ calls. IsRun n started.info calls how) b c) same behind in
      let last : List Call = call.Finish started.info.task how (Err why) ∷ [] in
      let went = begun.1.0 in
      let calls : List Call = task_calls started went.0 run.0 last in (
        calls,
        (
          (refl, inr (room, inr (started, went.0, run.0, how, why, went.1, run.1, refl))),
          one_task jobs before mid after started went.0 begun.0 run.0 last how kept went.2 begun.1.1
              run.1 refl,
        ),
        run_and started went.0 begun.0 run.0 last a b c d went.2 begun.2 run.2
            (d, subst (λ x. step c (call.Finish started.info.task how x) d) is finish, refl),
      )

  pub finished : (jobs had before mid later : ℕ) (answered : Option Started) (started : Started)
      (how : Outcome) (answer : Result ℕ Refusal) (event : ℕ) (notes after : List Note)
      (a b c d e f : A) → had ≡ jobs → answered ≡ Some started → answer ≡ Ok event
      → after ≡ notes ++ record { event = event; task = started.info.task; outcome = how } ∷ []
      → later ≡ mid → Went step (Counts before mid (IsBegun answered)) a b
      → Went step (λ calls. IsRun had started.info calls how) b c
      → step c (call.Finish started.info.task how answer) d → step e (call.Wake event) f
      → step d (call.Report started.info.task) e
      → Went step (Counts before later (TakesTask jobs true notes after)) a f
  finished jobs had before mid later answered started how answer event notes after a b c d e f same
      some is noted kept first behind finish wake report =
      let begun = subst (λ s. Went step (Counts before mid (IsBegun s)) a b) some first in
      let went = begun.1.0 in
      let run = subst (λ n. Went step (λ calls. IsRun n started.info calls how) b c) same behind in
      let task = started.info.task in
      let last : List Call =
      call.Finish task how (Ok event) ∷ call.Report task ∷ call.Wake event ∷ [] in (
        task_calls started went.0 run.0 last,
        (
          (
            record { event = event; task = task; outcome = how },
            (started, went.0, run.0, went.1, run.1, refl, refl),
            noted,
          ),
          one_task jobs before mid later started went.0 begun.0 run.0 last how kept went.2 begun.1.1
              run.1 refl,
        ),
        run_and started went.0 begun.0 run.0 last a b c f went.2 begun.2 run.2 (
          d,
          subst (λ x. step c (call.Finish task how x) d) is finish,
          (e, report, (f, wake, refl)),
        ),
      )

  -- ---- the shift

  pub next_course : (jobs had from to : ℕ) (came : Bool) (notes after : List Note) (a b c : A)
      → had ≡ jobs → came ≡ true → Went step (AreCourses jobs notes) a b
      → Went step (Counts from to (TakesTask had came notes after)) b c
      → Went step (AreCourses jobs after) a c
  next_course jobs had from to came notes after a b c same is before more =
      let last = subst (λ n. Went step (Counts from to (TakesTask n came notes after)) b c) same
      more in
      let taken = subst (λ t. Went step (Counts from to (TakesTask jobs t notes after)) b c) is
      last in
      let took = taken.1.0 in
      let all : Went step (AreCourses jobs (notes ++ took.0 ∷ [])) a c = (
        before.0 ++ taken.0,
        courses-snoc jobs notes before.0 taken.0 took.0 before.1 took.1,
        path-append before.0 taken.0 a b c before.2 taken.2,
      ) in
      subst (λ l. Went step (AreCourses jobs l) a c) (sym took.2) all

  pub ended_shift : (jobs had from to : ℕ) (came : Bool) (notes after : List Note) (a b c : A)
      → had ≡ jobs → came ≡ false → from ≡ length notes → Went step (AreCourses jobs notes) a b
      → Went step (Counts from to (TakesTask had came notes after)) b c
      → Went step (Counts 0 to (IsShift jobs after)) a c
  ended_shift jobs had from to came notes after a b c same is counted before more =
      let last = subst (λ n. Went step (Counts from to (TakesTask n came notes after)) b c) same
      more in
      let ended = subst (λ t. Went step (Counts from to (TakesTask jobs t notes after)) b c) is
      last in
      let took = ended.1.0 in
      let sum = starts-append before.0 ended.0 in
      let each = courses_start jobs notes before.0 before.1 in
      let rest = ended.1.1 in
      let all : Went step (Counts 0 to (IsShift jobs notes)) a c = (
        before.0 ++ ended.0,
        (
          (before.0, ended.0, before.1, took.1, refl),
          omega (arith, sum, each, rest, counted),
        ),
        path-append before.0 ended.0 a b c before.2 ended.2,
      ) in
      subst (λ l. Went step (Counts 0 to (IsShift jobs l)) a c) (sym took.0) all

  -- ---- the flusher

  -- What holds of a flusher that has heard of this event: some rounds were made.
  abbrev pub Watched : ℕ → A → A → Type 0
  Watched heard a b = (rounds : ℕ) × Went step (AreSaves rounds heard) a b

  pub no_save : (a : A) → Watched 0 a a
  no_save a = (0, ([], (refl, refl), refl))

  pub next_save : (was heard : ℕ) (answer : Option ℕ) (r : Result ℕ Trouble) (a b c d : A)
      → answer ≡ Some heard → IfSome answer (λ event. was < event)
      → IfOk r (λ durable. heard ≤ durable) → Watched was a b
      → step b (call.Wait was answer) c → step c (call.Save heard r) d → Watched heard a d
  next_save was heard answer r a b c d is later reached watched wait save =
      let went : Went step (AreSaves watched.0 was) a b = watched.1 in
      let last : List Call = call.Wait was (Some heard) ∷ call.Save heard r ∷ [] in
      let below : was < heard = subst (λ x. IfSome x (λ event. was < event)) is later in
      let waited : step b (call.Wait was (Some heard)) c =
      subst (λ x. step b (call.Wait was x) c) is wait in
      let all : Went step (AreSaves (suc watched.0) heard) a d = (
        went.0 ++ last,
        (went.0, was, r, went.1, below, reached, refl),
        path-append went.0 last a b d went.2 (c, waited, (d, save, refl)),
      ) in
      (suc watched.0, all)

  pub ended_watch : (heard : ℕ) (answer : Option ℕ) (a b c : A) → answer ≡ None
      → Watched heard a b → step b (call.Wait heard answer) c → Went step IsFlusherRun a c
  ended_watch heard answer a b c is watched wait =
      let went : Went step (AreSaves watched.0 heard) a b = watched.1 in
      let last : List Call = call.Wait heard None ∷ [] in
      let waited : step b (call.Wait heard None) c =
      subst (λ x. step b (call.Wait heard x) c) is wait in (
        went.0 ++ last,
        (watched.0, heard, went.0, went.1, refl),
        path-append went.0 last a b c went.2 (c, waited, refl),
      )
