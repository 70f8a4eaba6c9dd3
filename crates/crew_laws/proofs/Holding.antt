-- What a worker holds after its first calls: the task that it has started last, and how many turns
-- of it were made since then.
use Rattle.std.proofs.Common.{◌≡◌, ◌∙◌, ℕ, zero, suc, ◌≤◌, List, [], ◌∷◌, ◌++◌, Bool, true}
use Rattle.std.proofs.Common.{false, Option, Some, None, Ok, Err, ap, inl, inr, refl}
use Rattle.std.proofs.Common.{subst, sym}
use Rattle.std.specs.Prelude.{⊤}
use Rattle.run_model.specs.declared.answers.Started.{Started}
use Rattle.run_model.specs.declared.answers.TaskInfo.{TaskInfo}
use Rattle.run_model.specs.declared.tasks.Outcome.{Outcome}
use Rattle.run_crew.specs.declared.jobs.Turn.{Turn}
use Rattle.run_crew.specs.declared.jobs.Turn.TheVariants as turn
use Rattle.run_crew.specs.declared.notes.Note.{Note}
use Rattle.run_crew.specs.Courses.{AreCourses, AreRounds, AreTurns, Call, EndsAt, EndsShift}
use Rattle.run_crew.specs.Courses.{IsCourse, IsRun, IsShift, declined, most_turns, round}
use Rattle.run_crew.specs.Courses.{task_calls}
use Rattle.run_crew.specs.Courses as call
use Rattle.crew_laws.specs.Nights.{BeginsShift}

-- A task that a worker has started: the event of the start, the turns since then, and whether the
-- worker knows that the start is durable.
pub record Held : Type 0 where
  pub info : TaskInfo
  pub event : ℕ
  pub turns : ℕ
  pub saved : Bool

-- A task that was just started.
abbrev pub begun : Started → Held
begun started = record {
  info = started.info;
  event = started.event;
  turns = 0;
  saved = false;
}

-- A task after this many turns.
abbrev pub turned : Started → ℕ → Held
turned started number = record {
  info = started.info;
  event = started.event;
  turns = number;
  saved = true;
}

abbrev pub save : Option Held → Option Held
save (Some x) = Some (record x { saved = true })
save None = None

abbrev pub turn_on : Option Held → Option Held
turn_on (Some x) = Some (record x { turns = suc x.turns })
turn_on None = None

-- What a worker holds after a call.
abbrev pub held_after : Option Held → Call → Option Held
held_after h (call.Start (Ok started)) = Some (begun started)
held_after h (call.Save event (Ok durable)) = save h
held_after h (call.Make place info number done answer) = turn_on h
held_after h other = h

-- The calls that depend on what a worker holds: a start is durable, or a turn is made.
pub record Saves (h : Option Held) (durable : ℕ) : Type 0 where
  pub of : Held
  pub is : h ≡ Some of
  pub counted : of.event ≤ durable

pub record Turns (h : Option Held) (info : TaskInfo) (number : ℕ) : Type 0 where
  pub of : Held
  pub is : h ≡ Some of
  pub same_info : of.info ≡ info
  pub same_number : of.turns ≡ number
  pub saved : of.saved ≡ true

abbrev pub May : Option Held → Call → Type 0
May h (call.Save event (Ok durable)) = Saves h durable
May h (call.Make place info number done answer) = Turns h info number
May h other = ⊤

abbrev pub EachMay : Option Held → List Call → Type 0
EachMay h [] = ⊤
EachMay h (x ∷ calls) = May h x × EachMay (held_after h x) calls

abbrev held_over : Option Held → List Call → Option Held
held_over h [] = h
held_over h (x ∷ calls) = held_over (held_after h x) calls

each_append : (h : Option Held) (xs ys : List Call) → EachMay h xs → EachMay (held_over h xs) ys
    → EachMay h (xs ++ ys)
each_append h [] ys first second = second
each_append h (x ∷ xs) ys first second =
    (first.0, each_append (held_after h x) xs ys first.1 second)

each_prefix : (h : Option Held) (xs ys : List Call) → EachMay h (xs ++ ys) → EachMay h xs
each_prefix h [] ys each = tt
each_prefix h (x ∷ xs) ys each = (each.0, each_prefix (held_after h x) xs ys each.1)

held_append : (h : Option Held) (xs ys : List Call)
    → held_over h (xs ++ ys) ≡ held_over (held_over h xs) ys
held_append h [] ys = refl
held_append h (x ∷ xs) ys = held_append (held_after h x) xs ys

-- ---- the calls of a run

-- The calls may come, and leave this.
abbrev Leads : Option Held → List Call → Option Held → Type 0
Leads h calls left = EachMay h calls × (held_over h calls ≡ left)

then_on : (h mid left : Option Held) (xs ys : List Call) → Leads h xs mid → Leads mid ys left
    → Leads h (xs ++ ys) left
then_on h mid left xs ys first second = (
  each_append h xs ys first.0 (subst (λ k. EachMay k ys) (sym first.1) second.0),
  held_append h xs ys ∙ ap (λ k. held_over k ys) first.1 ∙ second.1,
)

round_leads : (started : Started) (place number : ℕ) (done : Bool) (answer : Turn)
    → Leads (Some (turned started number)) (round started.info place number done answer)
    (Some (turned started (suc number)))
round_leads started place number done answer = (
  (
    tt,
    (
      tt,
      (
        record {
          of = turned started number;
          is = refl;
          same_info = refl;
          same_number = refl;
          saved = refl;
        },
        tt,
      ),
    ),
  ),
  refl,
)

rounds_lead : (started : Started) (place number : ℕ) (calls : List Call)
    → AreRounds started.info place number calls
    → Leads (Some (turned started 0)) calls (Some (turned started number))
rounds_lead started place zero calls are =
    subst (λ l. Leads (Some (turned started 0)) l (Some (turned started 0))) (sym are) (tt, refl)
rounds_lead started place (suc number) calls (before, done, are, is) =
    let h = Some (turned started 0) in
    let left = Some (turned started (suc number)) in
    subst (λ l. Leads h l left) (sym is)
    (then_on h (Some (turned started number)) left before
    (round started.info place number done turn.More)
    (rounds_lead started place number before are)
    (round_leads started place number done turn.More))

-- The calls may come after this many turns.
last_may : (started : Started) (place number : ℕ) (calls : List Call) (how : Outcome)
    → EndsAt started.info place number calls how
    → EachMay (Some (turned started number)) calls
last_may started place number calls how (inl gate) =
    subst (λ l. EachMay (Some (turned started number)) l) (sym gate.0) (tt, tt)
last_may started place number calls how (inr (inl ended)) =
    subst (λ l. EachMay (Some (turned started number)) l) (sym ended.1)
    (round_leads started place number ended.0 turn.Finished).0
last_may started place number calls how (inr (inr failed)) =
    subst (λ l. EachMay (Some (turned started number)) l) (sym failed.2)
    (round_leads started place number failed.0 (turn.Failed failed.1)).0

turns_may : (started : Started) (place : ℕ) (calls : List Call) (how : Outcome)
    → AreTurns started.info place calls how → EachMay (Some (turned started 0)) calls
turns_may started place calls how (inl limit) =
    (rounds_lead started place most_turns calls limit.0).0
turns_may started place calls how (inr (number, before, last, below, are, ends, is)) =
    let h = Some (turned started 0) in
    let first = rounds_lead started place number before are in
    subst (λ l. EachMay h l) (sym is)
    (each_append h before last first.0
    (subst (λ k. EachMay k last) (sym first.1) (last_may started place number last how ends)))

declined_leads : (h : Option Held) (name : List ℕ) (n : ℕ) → Leads h (declined name n) h
declined_leads h name zero = (tt, refl)
declined_leads h name (suc n) =
    then_on h h h (declined name n) (call.Handles n name false ∷ []) (declined_leads h name n)
    ((tt, tt), refl)

run_may : (started : Started) (jobs : ℕ) (calls : List Call) (how : Outcome)
    → IsRun jobs started.info calls how → EachMay (Some (turned started 0)) calls
run_may started jobs calls how (inl none) =
    let h = Some (turned started 0) in
    subst (λ l. EachMay h l) (sym none.0) (declined_leads h started.info.job jobs).0
run_may started jobs calls how (inr (place, turns, below, are, is)) =
    let h = Some (turned started 0) in
    let first = declined_leads h started.info.job place in
    let rest : List Call = call.Handles place started.info.job true ∷ turns in
    subst (λ l. EachMay h l) (sym is)
    (each_append h (declined started.info.job place) rest first.0
    (subst (λ k. EachMay k rest) (sym first.1) (tt, turns_may started place turns how are)))

-- ---- the calls of a shift

-- Calls that depend on nothing.
abbrev IsFree : Call → Type 0
IsFree x = (h : Option Held) → May h x

abbrev AreFree : List Call → Type 0
AreFree [] = ⊤
AreFree (x ∷ calls) = IsFree x × AreFree calls

free_may : (h : Option Held) (calls : List Call) → AreFree calls → EachMay h calls
free_may h [] free = tt
free_may h (x ∷ calls) free = (free.0 h, free_may (held_after h x) calls free.1)

task_may : (h : Option Held) (started : Started) (durable : ℕ) (run last : List Call)
    → started.event ≤ durable → EachMay (Some (turned started 0)) run → AreFree last
    → EachMay h (task_calls started durable run last)
task_may h started durable run last counted is_run free = (
  tt,
  (
    record { of = begun started; is = refl; counted = counted },
    each_append (Some (turned started 0)) run last is_run
        (free_may (held_over (Some (turned started 0)) run) last free),
  ),
)

course_may : (h : Option Held) (jobs : ℕ) (calls : List Call) (note : Note)
    → IsCourse jobs calls note → EachMay h calls
course_may h jobs calls note (started, durable, run, counted, is_run, task, is) =
    let last : List Call = call.Finish note.task note.outcome (Ok note.event)
    ∷ call.Report note.task ∷ call.Wake note.event ∷ [] in
    subst (λ l. EachMay h l) (sym is)
    (task_may h started durable run last counted (run_may started jobs run note.outcome is_run)
    ((λ k. tt), ((λ k. tt), ((λ k. tt), tt))))

courses_may : (h : Option Held) (jobs : ℕ) (notes : List Note) (calls : List Call)
    → AreCourses jobs notes calls → EachMay h calls
courses_may h jobs [] calls none = subst (λ l. EachMay h l) (sym none) tt
courses_may h jobs (note ∷ notes) calls (course, rest, is_course, are, is) =
    subst (λ l. EachMay h l) (sym is)
    (each_append h course rest (course_may h jobs course note is_course)
    (courses_may (held_over h course) jobs notes rest are))

shift_ends : (h : Option Held) (jobs : ℕ) (notes : List Note) (calls : List Call)
    → EndsShift jobs notes calls → EachMay h calls
shift_ends h jobs notes calls (inl full) = subst (λ l. EachMay h l) (sym full.1) tt
shift_ends h jobs notes calls (inr (few, inl (inl refused))) =
    subst (λ l. EachMay h l) (sym refused.1) (tt, tt)
shift_ends h jobs notes calls (inr (few, inl (inr failed))) =
    subst (λ l. EachMay h l) (sym failed.2) (tt, (tt, tt))
shift_ends h jobs notes calls
    (inr (few, inr (started, durable, run, how, why, counted, is_run, is))) =
    let last : List Call = call.Finish started.info.task how (Err why) ∷ [] in
    subst (λ l. EachMay h l) (sym is)
    (task_may h started durable run last counted (run_may started jobs run how is_run)
    ((λ k. tt), tt))

shift_may : (h : Option Held) (jobs : ℕ) (notes : List Note) (calls : List Call)
    → IsShift jobs notes calls → EachMay h calls
shift_may h jobs notes calls (courses, last, are, ends, is) =
    subst (λ l. EachMay h l) (sym is)
    (each_append h courses last (courses_may h jobs notes courses are)
    (shift_ends (held_over h courses) jobs notes last ends))

pub beginning_may : (calls : List Call) → BeginsShift calls → EachMay None calls
beginning_may calls begins =
    each_prefix None calls begins.later
    (shift_may None begins.jobs begins.notes (calls ++ begins.later) begins.shift)
