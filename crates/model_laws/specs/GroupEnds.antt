-- Groups that have ended.
use Rattle.std.specs.Prelude.{◌≡◌, ◌⊎◌, ℕ, true, IsSome}
use Rattle.run_model.specs.declared.groups.Group.{Group}
use Rattle.run_model.specs.Rules.{IsConsistent, HasRow}
use Rattle.run_model.specs.State.{State}

-- The state is consistent, and group g has an error or was waited for.
pub record HasGroupEnded (p : State) (g : ℕ) : Type 0 where
  pub kept : IsConsistent p
  pub row : Group
  pub found : HasRow p.work.groups g row
  pub ended : IsSome row.error ⊎ (row.waited ≡ true)
