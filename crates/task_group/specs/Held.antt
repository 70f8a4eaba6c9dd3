-- Held tasks, by their numbers.
use Rattle.std.specs.Prelude.{ℕ, ◌==◌, Bool, false, not, ◌&&◌, take, slice_get}
use Rattle.std.specs.Option.{option_map_or}
use Rattle.run_model.specs.declared.tasks.Task.{Task}
use Rattle.run_model.specs.State.{WorkState}
use Rattle.run_model.specs.Tasks.{admits, is_fresh, limit_of, unfinished_in}

-- The group of the task has fewer unfinished tasks with lower numbers than the limit says.
abbrev pub fits_limit : WorkState → ℕ → Task → Bool
fits_limit w n task = admits (limit_of w task.group) (unfinished_in task.group (take n w.tasks))

-- A task of this group is held: it wasn't started, and the limit of the group doesn't admit it.
abbrev pub is_held : WorkState → ℕ → ℕ → Bool
is_held w g n =
    option_map_or
    (λ task. (task.group == g && is_fresh task.stage) && not (fits_limit w n task))
    (slice_get w.tasks n) false
