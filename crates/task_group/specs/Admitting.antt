-- The task that is admitted when another one ends.
use Rattle.std.specs.Prelude.{◌≡◌, ◌≢◌, ◌<◌, ℕ, if◌then◌else◌, Some}
use Rattle.run_model.specs.declared.tasks.Phase.TheVariants as phase
use Rattle.run_model.specs.declared.tasks.Phase.{Phase}
use Rattle.run_model.specs.State.{WorkState}
use Rattle.run_model.specs.Tasks.{phase_of, admits, limit_of, unfinished_in}
use Rattle.run_model.specs.WorkChanges.{group_of_task}

-- Task h of this group is held, and none with a lower number is.
pub record IsOldestHeld (w : WorkState) (g h : ℕ) : Type 0 where
  pub held : phase_of w h ≡ Some phase.Held
  pub group : group_of_task w h ≡ g
  pub oldest : (j : ℕ) → j < h → group_of_task w j ≡ g → phase_of w j ≢ Some phase.Held

-- Task n has ended. The oldest held task of its group is ready, and every other task has the same
-- phase as before.
pub record AdmitsOldest (old : WorkState) (n : ℕ) (new : WorkState) : Type 0 where
  pub oldest : (h : ℕ) → IsOldestHeld old (group_of_task old n) h
      → phase_of new h ≡ Some phase.Ready
  pub others : (m : ℕ) → m ≢ n → (IsOldestHeld old (group_of_task old n) m → ⊥)
      → phase_of new m ≡ phase_of old m

-- The phase of a new task of the group: ready if the limit admits one more, and otherwise held.
abbrev pub phase_new : WorkState → ℕ → Phase
phase_new w g = if admits (limit_of w g) (unfinished_in g w.tasks) then phase.Ready else phase.Held
