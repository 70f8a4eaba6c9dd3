-- The notes of workers: when two are the same, and the finishes to which they should belong.
use Rattle.std.specs.Prelude.{ℕ, ◌+◌, ◌==◌, nat_lt, Bool, true, false, ◌&&◌, if◌then◌else◌}
use Rattle.std.specs.Prelude.{List, [], ◌∷◌, ◌++◌, length, sum_by}
use Rattle.std.specs.List.{flat_map, list_any}
use Rattle.std.specs.Str.{bytes_eq}
use Rattle.run_model.specs.declared.tasks.Outcome.{Outcome}
use Rattle.run_model.specs.declared.tasks.Outcome.TheVariants.{Success, Failure}
use Rattle.run_model.specs.Event.{Event}
use Rattle.run_model.specs.Event as event
use Rattle.run_crew.specs.declared.notes.Note.{Note}

-- ---- notes

-- The number of notes.
abbrev pub noted : List (List Note) → ℕ
noted lists = sum_by (λ notes. length notes) lists

-- The notes of all workers, one list after another.
abbrev pub all_notes : List (List Note) → List Note
all_notes lists = flat_map (λ notes. notes) lists

-- Both tasks ended without an error, or both with the same error.
abbrev pub is_same_outcome : Outcome → Outcome → Bool
is_same_outcome Success Success = true
is_same_outcome (Failure one) (Failure other) = bytes_eq one other
is_same_outcome Success (Failure other) = false
is_same_outcome (Failure one) Success = false

-- Both notes have the same event, the same task and the same outcome.
abbrev pub is_same : Note → Note → Bool
is_same note other =
    (note.event == other.event) && (note.task == other.task)
    && is_same_outcome note.outcome other.outcome

-- The note is one of these.
abbrev pub has : List Note → Note → Bool
has notes note = list_any (λ other. is_same note other) notes

-- ---- finishes

-- The note of the event with this number, if it is a finish.
abbrev pub note_of : ℕ → Event → List Note
note_of number (event.Finish task outcome) =
    record { event = number; task = task; outcome = outcome } ∷ []
note_of number _ = []

-- The same, if the number is greater than `since`.
abbrev pub note_since : ℕ → ℕ → Event → List Note
note_since since number event = if nat_lt since number then note_of number event else []

-- The notes of the finishes among these events that have a greater number than `since`. The number
-- of the first event is the one after `count`.
abbrev pub finishes_since : ℕ → ℕ → List Event → List Note
finishes_since since count [] = []
finishes_since since count (event ∷ events) =
    note_since since (count + 1) event ++ finishes_since since (count + 1) events
