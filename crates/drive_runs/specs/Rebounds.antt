-- The tries that live when a store was opened again get new tasks.
use Rattle.std.specs.Prelude.{◌≡◌, ◌⊎◌, ◌&&◌, ◌∷◌, ℕ, Bool, false, List, [], Option, Some, None}
use Rattle.std.specs.Prelude.{length, ltb, map, slice_get}
use Rattle.std.specs.List.{filter_map, list_all}
use Rattle.std.specs.Option.{option_map, option_map_or}
use Rattle.run_model.specs.State.{State}
use Rattle.run_disk.specs.Disk.{DiskState}
use Rattle.book_model.specs.Books.{BookView}
use Rattle.drive_lines.specs.declared.orders.Order.{Order}
use Rattle.drive_lines.specs.declared.orders.Order.TheVariants as order
use Rattle.drive_steps.specs.declared.reported.Begun.{Begun}
use Rattle.drive_steps.specs.Rooms.{are_housed}
use Rattle.drive_steps.specs.Starts.{row_of}
use Rattle.drive_runs.specs.declared.bindings.Binding.{Binding}
use Rattle.drive_runs.specs.declared.living.Living.{Living}
use Rattle.drive_runs.specs.declared.openings.Hindrance.{Hindrance}
use Rattle.drive_runs.specs.declared.openings.Hindrance.TheVariants as hindrance
use Rattle.drive_runs.specs.declared.rebounds.Bound.{Bound}
use Rattle.drive_runs.specs.declared.rebounds.Bound.TheVariants as bound
use Rattle.drive_runs.specs.declared.sittings.Sitting.{Sitting}
use Rattle.drive_runs.specs.Begins.{Binds}
use Rattle.drive_runs.specs.Closing.{hindrance_of}
use Rattle.drive_runs.specs.Living.{with_task}
use Rattle.drive_runs.specs.Sittings.{DiffersInTries}
use Rattle.drive_runs.specs.Tries.{try_name}

-- ---- the lines

-- The line by which a living try is bound to its new task names the command, the task and the try.
abbrev pub rebound_line : State → Begun → Option Order
rebound_line p begin =
    option_map (λ named. order.Rebound begin.command begin.task named) (try_name p begin.task)

-- A line for each of these tries whose task the store has, in their order.
abbrev pub rebound_lines : State → List Begun → List Order
rebound_lines p begun = filter_map (rebound_line p) begun

-- ---- the tries

-- The commands of these tries.
abbrev pub commands_of : List Living → List ℕ
commands_of living = map (λ (one : Living). one.command) living

-- The tries with their new tasks: each has the task that stands at its place, and nothing else of
-- it has changed.
abbrev pub with_tasks : List Living → List Begun → List Living
with_tasks [] begun = []
with_tasks (one ∷ living) [] = one ∷ living
with_tasks (one ∷ living) (begin ∷ begun) =
    with_task begin.task one ∷ with_tasks living begun

-- ---- the steps

-- The living tries can get tasks: each group of the plan has a group of the store, and the tries
-- are those of commands of the plan.
abbrev pub can_bind : State → Sitting → Bool
can_bind p s =
    are_housed p s.names
    && list_all (λ c. ltb c (length s.plan.commands.items)) (commands_of s.kept.living.items)

-- The steps in which each living try gets another task were played, as for commands that begin.
abbrev pub BindsTries : {D : Type 0} → (D → DiskState) → Sitting → (old : BookView D) → Binding
    → (new : BookView D) → Type 0
BindsTries state s old made new =
    Binds state (row_of old.session.state s.names s.plan.commands.items
    (commands_of s.kept.living.items)) (commands_of s.kept.living.items) old made new

-- Each living try has got another task. The lines name the tries in their order, with these tasks,
-- and the tries live on with them.
pub record Rebinds {D : Type 0} (state : D → DiskState) (s : Sitting) (old : BookView D)
    (lines : List Order) (t : Sitting) (new : BookView D) : Type 0 where
  pub made : Binding
  pub binds : BindsTries state s old made new
  pub begun : List Begun
  pub reported : option_map (λ all. all.items) made.begun ≡ Some begun
  pub living : t.kept.living.items ≡ with_tasks s.kept.living.items begun
  pub others : DiffersInTries s t
  pub named : lines ≡ rebound_lines new.session.state begun

-- No try got a task, and this hinders the night: no steps could be made, or one of them met this
-- fault or was refused.
abbrev pub IsUnbound : {D : Type 0} → (D → DiskState) → Sitting → (old : BookView D)
    → (what : Hindrance) → (new : BookView D) → Type 0
IsUnbound state s old what new =
    ((can_bind old.session.state s ≡ false) × (what ≡ hindrance.Full) × (new ≡ old))
    ⊎ ((made : Binding) × BindsTries state s old made new × (made.begun ≡ None)
    × (what ≡ hindrance_of made.fault))

-- What became of the living tries.
abbrev pub BindsAll : {D : Type 0} → (D → DiskState) → (s : Sitting) → (old : BookView D) → Bound
    → (t : Sitting) → (new : BookView D) → Type 0
BindsAll state s old (bound.Orders lines) t new = Rebinds state s old lines.items t new
BindsAll state s old (bound.Hindered what) t new = IsUnbound state s old what new

-- ---- for private functions: no public contract cites what follows

-- The task at this place, or the one that the try had if there is none.
abbrev pub task_at : List Begun → (i known : ℕ) → ℕ
task_at begun i known = option_map_or (λ (begin : Begun). begin.task) (slice_get begun i) known
