-- Facts that no change undoes.
use Rattle.std.specs.Prelude.{◌≡◌, ℕ, false, List, Option, Some, slice_get}
use Rattle.std.specs.Option.{option_and_then}
use Rattle.run_model.specs.declared.tasks.Task.{Task}
use Rattle.run_model.specs.State.{WorkState}
use Rattle.run_model.specs.Tasks.{is_unfinished}

-- The first error of a group; none, too, if there is no such group.
abbrev pub first_error : WorkState → ℕ → Option (List ℕ)
first_error w g = option_and_then (λ group. group.error) (slice_get w.groups g)

-- A task that has ended keeps its stage, and a group keeps its first error.
pub record EndsStay (old new : WorkState) : Type 0 where
  pub tasks : (n : ℕ) (row : Task) → slice_get old.tasks n ≡ Some row
      → is_unfinished row.stage ≡ false → slice_get new.tasks n ≡ Some row
  pub errors : (g : ℕ) (text : List ℕ) → first_error old g ≡ Some text
      → first_error new g ≡ Some text
