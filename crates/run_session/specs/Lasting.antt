-- Facts that no event undoes.
use Rattle.run_model.specs.State.{State}
use Rattle.model_laws.specs.Endings.{EndingsStay}
use Rattle.task_group.specs.Lasting.{EndsStay}

-- Each scope that was done is still done, for the same reason and with the same cause. Each task
-- that had ended keeps its stage, and each group keeps its first error.
pub record Stays (old new : State) : Type 0 where
  pub scopes : EndingsStay old.tree.scopes new.tree.scopes
  pub work : EndsStay old.work new.work
