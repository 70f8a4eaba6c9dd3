-- The calls of a desk under a lock, and the result of a run.
use Rattle.std.specs.Prelude.{◌≡◌, ◌≤◌, ◌+◌, ℕ, Bool, List, [], ◌∷◌, Result}
use Rattle.run_model.specs.declared.answers.Started.{Started}
use Rattle.run_model.specs.declared.answers.TaskInfo.{TaskInfo}
use Rattle.run_model.specs.declared.answers.Reply.TheVariants as answered
use Rattle.run_model.specs.declared.commands.Step.TheVariants as step
use Rattle.run_model.specs.Session.{replied}
use Rattle.run_model.specs.declared.faults.Trouble.{Trouble}
use Rattle.run_model.specs.declared.refusals.Refusal.{Refusal}
use Rattle.run_model.specs.declared.tasks.Outcome.{Outcome}
use Rattle.run_disk.specs.Disk.{DiskState}
use Rattle.book_model.specs.Books.{BookView, Flushes, IsDurable}
use Rattle.run_crew.specs.declared.jobs.Turn.{Turn}
use Rattle.run_crew.specs.declared.notes.Note.{Note}
use Rattle.run_crew.specs.Courses.{Call, IsAnswered, IsOfShift}
use Rattle.run_crew.specs.Desks.{DeskView, finishes_of, is_done_for, starts_of}
use Rattle.run_crew.specs.Openings.{Carries, Known}
use Rattle.run_crew.specs.OwnCounts.{OwnCountsView}
use Rattle.run_crew.specs.Steps.{TakesStep}

-- ---- the calls of a desk

-- In each of these calls the book of the desk carries on from the facts known at its opening.
module _ {D : Type 0} (state : D → DiskState) (known : Known) where
  -- A start, with this answer.
  abbrev pub StartsAt : DeskView D → Result Started Refusal → DeskView D → Type 0
  StartsAt d r e =
      Carries known state d.book × TakesStep state d step.Start (replied answered.Started r) e

  -- A finish of a task with an outcome, with this answer.
  abbrev pub FinishesAt
      : DeskView D → ℕ → Outcome → Result ℕ Refusal → DeskView D → Type 0
  FinishesAt d task how r e =
      Carries known state d.book
      × TakesStep state d (step.Finish task how) (replied answered.Finished r) e

  -- This many events are durable.
  abbrev pub HoldsAt : DeskView D → ℕ → Type 0
  HoldsAt d n = Carries known state d.book × (n ≡ d.book.durable) × IsDurable state d.book

  -- A flush, with this answer.
  abbrev pub FlushesAt : DeskView D → Result ℕ Trouble → DeskView D → Type 0
  FlushesAt d r e = Carries known state d.book × Flushes state d.book r e.book

  -- Whether the scope of a task is done.
  abbrev pub ReportsAt : DeskView D → ℕ → Bool → Type 0
  ReportsAt d task answer =
      Carries known state d.book × (answer ≡ is_done_for d.book.session.state task)

  -- Some desk gave this answer, or a gate that may give it, or the gate was informed of this.
  abbrev pub OfDesk : (ℕ → ℕ → Bool → Type 0) → (ℕ → Type 0) → Call → Type 0
  OfDesk lets reported call =
      IsAnswered StartsAt HoldsAt FlushesAt ReportsAt FinishesAt lets reported call

-- ---- a run

-- There is a list of notes for each list of jobs. They are the notes of a shift with these jobs,
-- each of whose calls has such an answer. All shifts together have started this many tasks.
abbrev pub AreShifts : {J L : Type 0} → (Call → Type 0) → (J → List ℕ → Bool → Type 0)
    → (J → TaskInfo → ℕ → Bool → Turn → J → Type 0) → (L → List J) → List L → List (List Note)
    → (starts : ℕ) → Type 0
AreShifts Answered answers turns items [] [] starts = starts ≡ 0
AreShifts Answered answers turns items (list ∷ jobs) (notes ∷ lists) starts =
    (own : ℕ) × (others : ℕ) × (starts ≡ own + others)
    × IsOfShift Answered answers turns (items list) notes own
    × AreShifts Answered answers turns items jobs lists others
AreShifts Answered answers turns items jobs lists starts = ⊥

-- The result of a flush of some book that carries on from the facts known at the opening. Its
-- history contains each start and finish that the counts hold.
pub record FlushesNight {D : Type 0} (state : D → DiskState) (known : Known) (own : OwnCountsView)
    (answer : Result ℕ Trouble) : Type 0
  where
    pub old : BookView D
    pub new : BookView D
    pub carries : Carries known state old
    pub starts : own.starts ≤ starts_of old.session.history
    pub finishes : own.finishes ≤ finishes_of old.session.history
    pub flushes : Flushes state old answer new
