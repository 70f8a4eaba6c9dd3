-- The shifts of a crew, without their jobs.
use Rattle.std.proofs.Common.{ℕ, List, [], ◌∷◌, Bool, inl, inr, length}
use Rattle.std.proofs.lemmas.List.Elements.{All-cons, All-nil}
use Rattle.std.specs.Prelude.{All, Option, Result}
use Rattle.run_model.specs.declared.answers.TaskInfo.{TaskInfo}
use Rattle.run_disk.specs.Disk.{DiskState}
use Rattle.console_lines.specs.declared.faults.RunFault.{RunFault}
use Rattle.run_crew.specs.declared.jobs.Turn.{Turn}
use Rattle.run_crew.specs.declared.notes.Note.{Note}
use Rattle.run_crew.specs.Courses.{Call, IsSomeShift, StepsJobs}
use Rattle.run_crew.specs.Crews.{CrewEnds}
use Rattle.run_crew.specs.Nights.{AreShifts}
use Rattle.run_crew.specs.Openings.{From, Known, opened_of}
use Rattle.run_crew.proofs.Coursing.{all_answered}

some_shifts : {J L : Type 0} (Answered : Call → Type 0) (answers : J → List ℕ → Bool → Type 0)
    (turns : J → TaskInfo → ℕ → Bool → Turn → J → Type 0) (items : L → List J) (jobs : List L)
    (lists : List (List Note)) (starts : ℕ)
    → AreShifts Answered answers turns items jobs lists starts → All (IsSomeShift Answered) lists
some_shifts Answered answers turns items [] [] starts none = All-nil (IsSomeShift Answered)
some_shifts Answered answers turns items [] (notes ∷ lists) starts never = absurd never
some_shifts Answered answers turns items (list ∷ jobs) [] starts never = absurd never
some_shifts Answered answers turns items (list ∷ jobs) (notes ∷ lists) starts
    (own, others, sum, shift, are) =
    All-cons (IsSomeShift Answered) notes lists (
      length (items list),
      shift.1.0,
      shift.1.1.0,
      all_answered Answered (StepsJobs answers turns) shift.1.0 (items list) shift.0 shift.1.2,
    ) (some_shifts Answered answers turns items jobs lists others are)

-- What follows from the shifts of a crew can stand in their place.
crew_for : {D : Type 0} (state : D → DiskState) (P Q : Known → List (List Note) → ℕ → Type 0)
    → ((known : Known) (lists : List (List Note)) (n : ℕ) → P known lists n → Q known lists n)
    → (given : D)
    (workers : ℕ) (answer : Result Bool RunFault) (left : D) (w0 w1 : Option (List ℕ))
    → CrewEnds state P given workers answer left w0 w1
    → CrewEnds state Q given workers answer left w0 w1
crew_for state P Q each given workers answer left w0 w1 (inl none) = inl none
crew_for state P Q each given workers answer left w0 w1 (inr (b, opened, begun, inl refused)) =
    inr (b, opened, begun, inl refused)
crew_for state P Q each given workers answer left w0 w1
    (inr (b, opened, begun, inr (audited, starts, finishes, flushed, worked, reported, promises))) =
    inr (
      b,
      opened,
      begun,
      inr (
        audited,
        starts,
        finishes,
        flushed,
        record {
          book = worked.book;
          desk = worked.desk;
          lists = worked.lists;
          flushes = worked.flushes;
          session = worked.session;
          carries = worked.carries;
          disk = worked.disk;
          acked = worked.acked;
          replays = worked.replays;
          durable = worked.durable;
          audit = worked.audit;
          exactly = worked.exactly;
          started = worked.started;
          finished = worked.finished;
          shifts = each (From (opened_of state b)) worked.lists starts worked.shifts;
          each_has_a_list = worked.each_has_a_list;
          each_is_noted = worked.each_is_noted;
          each_was_started = worked.each_was_started;
          one_more_at_most = worked.one_more_at_most;
        },
        reported,
        promises,
      ),
    )

-- So the jobs of the workers can be left out.
pub crew_shifts : {D J L : Type 0} (state : D → DiskState) (Answered : Known → Call → Type 0)
    (answers : J → List ℕ → Bool → Type 0) (turns : J → TaskInfo → ℕ → Bool → Turn → J → Type 0)
    (items : L → List J) (jobs : List L) (given : D) (workers : ℕ) (answer : Result Bool RunFault)
    (left : D) (w0 w1 : Option (List ℕ))
    → CrewEnds state
    (λ known lists starts. AreShifts (Answered known) answers turns items jobs lists starts)
    given workers answer left w0 w1
    → CrewEnds state (λ known lists starts. All (IsSomeShift (Answered known)) lists) given workers
    answer
    left w0 w1
crew_shifts state Answered answers turns items jobs given workers answer left w0 w1 =
    crew_for state
    (λ known lists starts. AreShifts (Answered known) answers turns items jobs lists starts)
    (λ known lists starts. All (IsSomeShift (Answered known)) lists)
    (λ known lists n are. some_shifts (Answered known) answers turns items jobs lists n are) given
    workers answer left w0 w1
