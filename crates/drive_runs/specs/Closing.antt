-- The end of a night is marked in a store.
use Rattle.std.specs.Prelude.{◌≡◌, ◌⊎◌, ℕ, Bool, true, false, List, [], ◌∷◌, Option, Some, None}
use Rattle.std.specs.List.{list_all}
use Rattle.std.specs.Option.{option_map_or}
use Rattle.run_model.specs.declared.answers.Reply.{Reply}
use Rattle.run_model.specs.declared.answers.Reply.TheVariants as reply
use Rattle.run_model.specs.declared.commands.Step.{Step}
use Rattle.run_model.specs.declared.commands.Step.TheVariants as step
use Rattle.run_model.specs.declared.faults.Fault.{Fault}
use Rattle.run_disk.specs.Disk.{DiskState}
use Rattle.book_model.specs.Books.{BookView}
use Rattle.book_model.specs.Steps.{StepsOn}
use Rattle.drive_nights.specs.Marks.{mark_of}
use Rattle.drive_runs.specs.declared.openings.Hindrance.{Hindrance}
use Rattle.drive_runs.specs.declared.openings.Hindrance.TheVariants as hindrance
use Rattle.drive_runs.specs.Faults.{first_fault}
use Rattle.drive_runs.specs.Laws.{IsPlayedWhole}

-- The step was carried out: it was taken, or a flush has acknowledged all.
abbrev pub is_carried_out : Reply → Bool
is_carried_out (reply.Answer answer) = true
is_carried_out (reply.Acked count) = true
is_carried_out _ = false

-- What hinders a night, if a step was refused or met this fault.
abbrev pub hindrance_of : Option Fault → Hindrance
hindrance_of fault = option_map_or hindrance.Fault fault hindrance.Full

-- The end of the night was marked in the store, and the mark is acknowledged.
pub record IsMarked {D : Type 0} (state : D → DiskState) (night : ℕ) (old new : BookView D)
    : Type 0 where
  pub mark : Step
  pub is : mark_of old.session.state night ≡ Some mark
  pub replies : List Reply
  pub taken : list_all is_carried_out replies ≡ true
  pub whole : IsPlayedWhole old (mark ∷ step.Flush ∷ []) replies new

-- The mark and its flush were played, and one of them was refused or met a fault.
pub record IsUnmarked {D : Type 0} (state : D → DiskState) (night : ℕ) (old : BookView D)
    (what : Hindrance) (new : BookView D) : Type 0 where
  pub mark : Step
  pub is : mark_of old.session.state night ≡ Some mark
  pub replies : List Reply
  pub played : StepsOn state old (mark ∷ step.Flush ∷ []) replies new
  pub refused : list_all is_carried_out replies ≡ false
  pub why : what ≡ hindrance_of (first_fault replies)

-- The end of the night was marked. Otherwise something hindered that: the store has no night that
-- could be marked, or a step was refused or met a fault.
abbrev pub Closes : {D : Type 0} → (D → DiskState) → (night : ℕ) → (old : BookView D)
    → Option Hindrance → (new : BookView D) → Type 0
Closes state night old None new = IsMarked state night old new
Closes state night old (Some what) new =
    ((mark_of old.session.state night ≡ None) × (what ≡ hindrance.Full))
    ⊎ IsUnmarked state night old what new
