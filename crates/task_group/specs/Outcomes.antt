-- How a task ends, depending on its error.
use Rattle.std.specs.Prelude.{ℕ, List, Option, Some, None}
use Rattle.run_model.specs.declared.tasks.Outcome.{Outcome}
use Rattle.run_model.specs.declared.tasks.Outcome.TheVariants as outcome

-- A task with an error ends as a failure, and a task without one as a success.
abbrev pub outcome_with : Option (List ℕ) → Outcome
outcome_with None = outcome.Success
outcome_with (Some text) = outcome.Failure text
