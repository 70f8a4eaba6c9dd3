-- The queue of a group's tasks, as lists of numbers.
use Rattle.std.specs.Prelude.{◌≡◌, ◌≤◌, ℕ, ◌==◌, true, false, ◌&&◌, Bool, List, slice_get, filter}
use Rattle.std.specs.Prelude.{length}
use Rattle.std.specs.Option.{option_map_or}
use Rattle.run_model.specs.State.{WorkState}
use Rattle.run_model.specs.Tasks.{is_unfinished, is_admitted, is_ready}
use Rattle.std.specs.List.{range_with_len}

-- Task n is ready, and no ready task has a lower number.
pub record IsLeastReady (w : WorkState) (n : ℕ) : Type 0 where
  pub ready : is_ready w n ≡ true
  pub least : (m : ℕ) → is_ready w m ≡ true → n ≤ m

-- Task n belongs to group g, and is unfinished.
abbrev pub is_unfinished_of : WorkState → ℕ → ℕ → Bool
is_unfinished_of w g n =
    option_map_or (λ task. task.group == g && is_unfinished task.stage) (slice_get w.tasks n) false

-- Task n belongs to group g, and is admitted.
abbrev pub is_admitted_of : WorkState → ℕ → ℕ → Bool
is_admitted_of w g n =
    option_map_or (λ task. task.group == g && is_admitted w n task) (slice_get w.tasks n) false

-- The unfinished tasks of a group, in ascending order of their numbers.
abbrev pub unfinished_tasks : WorkState → ℕ → List ℕ
unfinished_tasks w g = filter (is_unfinished_of w g) (range_with_len 0 (length w.tasks))

-- The admitted tasks of a group, in ascending order of their numbers.
abbrev pub admitted_tasks : WorkState → ℕ → List ℕ
admitted_tasks w g = filter (is_admitted_of w g) (range_with_len 0 (length w.tasks))
