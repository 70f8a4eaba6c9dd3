-- The result of an audit of the notes.
use Rattle.std.specs.Prelude.{◌≡◌, ◌⊎◌, ◌<◌, ◌+◌, ◌++◌, ◌||◌, ℕ, Bool, true, false, not, List, []}
use Rattle.std.specs.Prelude.{length, take, slice_get, slice_index_or, Option, Some, MatchOption}
use Rattle.std.specs.List.{list_all, list_any}
use Rattle.std.specs.Option.{option_map_or}
use Rattle.run_model.specs.declared.tasks.Phase.{Phase}
use Rattle.run_model.specs.declared.tasks.Phase.TheVariants as phase
use Rattle.run_model.specs.State.{WorkState}
use Rattle.run_model.specs.Tasks.{phase_of}
use Rattle.run_crew.specs.declared.audits.Strayed.{Strayed}
use Rattle.run_crew.specs.declared.notes.Note.{Note}
use Rattle.run_crew.specs.Desks.{DeskView}
use Rattle.run_crew.specs.Notes.{all_notes}
use Rattle.run_crew.specs.Notes.{finishes_since, has}

-- ---- notes

-- The finishes since the desk was made.
abbrev pub made_at : {D : Type 0} → DeskView D → List Note
made_at d = finishes_since d.since d.book.session.start.count d.book.session.history

-- A note is stray if it belongs to no finish that was made, or repeats an earlier note.
abbrev pub is_stray : List Note → List Note → Note → Bool
is_stray made earlier note = not (has made note) || has earlier note

-- The note at this place of its list is stray, given the earlier notes and those before it in the
-- list.
abbrev pub IsStrayIn : List Note → List Note → List Note → ℕ → Type 0
IsStrayIn made earlier notes i =
    (note : Note) × (slice_get notes i ≡ Some note)
    × (is_stray made (earlier ++ take i notes) note ≡ true)

-- The note at this place of this worker's list is stray. The earlier notes are those of the workers
-- before.
abbrev pub IsStray : List Note → List (List Note) → ℕ → ℕ → Type 0
IsStray made lists w i = IsStrayIn made (all_notes (take w lists)) (slice_index_or lists w []) i

abbrev pub NoStray : List Note → List (List Note) → Type 0
NoStray made lists = (w i : ℕ) → IsStray made lists w i → ⊥

-- A place comes before another one: it is in an earlier list, or earlier in the same list.
abbrev pub IsBefore : ℕ → ℕ → Strayed → Type 0
IsBefore w i place = (w < place.worker) ⊎ ((w ≡ place.worker) × (i < place.note))

-- The note at this place is stray, and none before it is.
pub record IsFirstStray (made : List Note) (lists : List (List Note)) (place : Strayed) : Type 0
  where
    pub stray : IsStray made lists place.worker place.note
    pub first : (w i : ℕ) → IsBefore w i place → IsStray made lists w i → ⊥

-- Some worker has noted each finish that was made.
abbrev pub are_noted : List Note → List (List Note) → Bool
are_noted made lists = list_all (λ note. list_any (λ notes. has notes note) lists) made

-- ---- tasks

abbrev pub is_ready_or_running : Phase → Bool
is_ready_or_running phase.Ready = true
is_ready_or_running phase.Running = true
is_ready_or_running _ = false

-- The task with this number is left: it is ready or running.
abbrev pub is_left : WorkState → ℕ → Bool
is_left work n = option_map_or is_ready_or_running (phase_of work n) false

abbrev pub NoneLeft : WorkState → Type 0
NoneLeft work = (n : ℕ) → is_left work n ≡ false

-- It is the lowest number of a task that is left.
pub record IsFirstLeft (work : WorkState) (n : ℕ) : Type 0 where
  pub left : is_left work n ≡ true
  pub first : (m : ℕ) → m < n → is_left work m ≡ false

-- ---- the audit

-- No note is stray, each finish is noted, and no task is left.
pub record IsComplete {D : Type 0} (d : DeskView D) (lists : List (List Note)) : Type 0 where
  pub no_stray : NoStray (made_at d) lists
  pub noted : are_noted (made_at d) lists ≡ true
  pub none_left : NoneLeft d.book.session.state.work

-- No note is stray, but some finish isn't noted. It is reported as the first place after the lists.
pub record LacksNote {D : Type 0} (d : DeskView D) (lists : List (List Note)) (place : Strayed)
    : Type 0 where
  pub no_stray : NoStray (made_at d) lists
  pub not_noted : are_noted (made_at d) lists ≡ false
  pub worker : place.worker ≡ length lists
  pub note : place.note ≡ 0

-- The notes are the finishes, but a task is left. The lowest number of such a task is reported
-- after that place.
pub record LeavesTask {D : Type 0} (d : DeskView D) (lists : List (List Note)) (place : Strayed)
    : Type 0 where
  pub no_stray : NoStray (made_at d) lists
  pub noted : are_noted (made_at d) lists ≡ true
  pub task : ℕ
  pub left : IsFirstLeft d.book.session.state.work task
  pub worker : place.worker ≡ length lists
  pub note : place.note ≡ task + 1

-- What an audit reports.
abbrev pub HasStrayed : {D : Type 0} → DeskView D → List (List Note) → Strayed → Type 0
HasStrayed d lists place =
    IsFirstStray (made_at d) lists place ⊎ LacksNote d lists place ⊎ LeavesTask d lists place

-- ---- its steps

-- The place of the first stray note among these, if there is one, given the earlier notes.
abbrev pub FirstStrayIn : List Note → List Note → List Note → Option ℕ → Type 0
FirstStrayIn made earlier notes place =
    MatchOption place ((i : ℕ) → IsStrayIn made earlier notes i → ⊥)
    (λ k. IsStrayIn made earlier notes k
    × ((i : ℕ) → i < k → IsStrayIn made earlier notes i → ⊥))
