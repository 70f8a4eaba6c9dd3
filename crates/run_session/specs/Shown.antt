-- What a state returns about itself and about one of its scopes.
use Rattle.std.specs.Borrow.{Bor}
use Rattle.std.specs.Option.{option_map}
use Rattle.std.specs.Prelude.{◌+◌, ◌*◌, ◌-◌, ℕ, List, Option, length}
use Rattle.run_model.specs.State.{State, TreeState, WorkState}
use Rattle.run_model.specs.declared.scopes.Reason.{Reason}
use Rattle.run_session.specs.declared.questions.ScopeStatusRef.{ScopeStatusRef}

-- The state that consists of a count, a tree and groups.
abbrev pub shown : ℕ → TreeState → WorkState → State
shown count tree work = record { count = count; tree = tree; work = work }

-- The greatest number of bytes in an image with this many rows: a head has 23, the row of a scope
-- at most 192, that of a group 103 and that of a task 136.
abbrev pub image_bound : State → ℕ
image_bound p =
    23 + 192 * (length p.tree.scopes - 1) + 103 * length p.work.groups + 136 * length p.work.tasks

-- The reason and the cause of a scope that is done, from a view that lends the cause.
abbrev pub ending_of : Reason × Bor (List ℕ) → Reason × List ℕ
ending_of ending = (ending.0, ending.1.now)

-- What a view shows of a scope: the reason and the cause if it is done, and its deadline if it has
-- one.
abbrev pub shown_by : ScopeStatusRef → Option (Reason × List ℕ) × Option ℕ
shown_by view = (option_map ending_of view.done, view.deadline)
