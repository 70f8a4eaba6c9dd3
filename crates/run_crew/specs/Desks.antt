-- What contracts see of a desk.
use Rattle.std.specs.Prelude.{ℕ, Bool, false, List, count_by, slice_get}
use Rattle.std.specs.Option.{option_map_or}
use Rattle.run_model.specs.Event.{Event}
use Rattle.run_model.specs.State.{State}
use Rattle.run_model.specs.Replies.{is_task_done}
use Rattle.model_laws.specs.Kinds.{is_finish, is_start}
use Rattle.book_model.specs.Books.{BookView}

-- What contracts see of a desk: its book, and the number of events when the desk was made.
pub record DeskView (D : Type 0) : Type 0 where
  pub book : BookView D
  pub since : ℕ

-- ---- totals

-- The number of starts in these events.
abbrev pub starts_of : List Event → ℕ
starts_of events = count_by is_start events

-- The number of finishes in these events.
abbrev pub finishes_of : List Event → ℕ
finishes_of events = count_by is_finish events

-- ---- tasks

-- There is a task with this number, and its scope is done.
abbrev pub is_done_for : State → ℕ → Bool
is_done_for p n = option_map_or (λ task. is_task_done p task) (slice_get p.work.tasks n) false
