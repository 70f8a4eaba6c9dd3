-- The starts of noted tasks were durable at some desk.
use Rattle.std.proofs.Common.{ℕ, List, [], ◌∷◌, Bool, All, subst, ◌≤◌}
use Rattle.std.proofs.lemmas.List.Elements.{All-cons, All-nil}
use Rattle.run_model.specs.declared.answers.TaskInfo.{TaskInfo}
use Rattle.run_disk.specs.Disk.{DiskState}
use Rattle.run_crew.specs.declared.jobs.Turn.{Turn}
use Rattle.run_crew.specs.declared.notes.Note.{Note}
use Rattle.run_crew.specs.Nights.{OfDesk}
use Rattle.run_crew.specs.Openings.{Known}
use Rattle.run_crew.specs.Turns.{AreDone, WasDurable}

pub starts_were_durable : {D J : Type 0} (state : D → DiskState) (known : Known)
    (lets : ℕ → ℕ → Bool → Type 0) (reported : ℕ → Type 0) (answers : J → List ℕ → Bool → Type 0)
    (turns : J → TaskInfo → ℕ → Bool → Turn → J → Type 0) (notes : List Note) (jobs : List J)
    → AreDone answers turns (OfDesk state known lets reported) notes jobs
    → All (λ note. WasDurable state known note) notes
starts_were_durable state known lets reported answers turns [] jobs are =
    All-nil (λ note. WasDurable state known note)
starts_were_durable state known lets reported answers turns (note ∷ notes) jobs (left, is, are) =
    let desk = is.saved.0 in
    let was : WasDurable state known note = record {
      started = is.started;
      desk = desk;
      task = is.task;
      carries = is.saved.1.0;
      counted = subst (λ n. is.started.event ≤ n) is.saved.1.1 is.counted;
      durable = is.saved.1.2;
    } in
    All-cons (λ note. WasDurable state known note) note notes was
    (starts_were_durable state known lets reported answers turns notes left are)
