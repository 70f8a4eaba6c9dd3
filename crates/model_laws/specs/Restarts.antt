-- The effect of a restart on a state.
use Rattle.std.specs.List.{list_any}
use Rattle.std.specs.Option.{option_map, option_map_or}
use Rattle.std.specs.Prelude.{◌≡◌, ℕ, ◌+◌, ◌==◌, Bool, false, not, ◌&&◌, if◌then◌else◌, List, map}
use Rattle.std.specs.Prelude.{Option, Some, None, slice_get, codes}
use Rattle.run_model.specs.declared.groups.Group.{Group}
use Rattle.run_model.specs.declared.scopes.Hit.{Hit}
use Rattle.run_model.specs.declared.scopes.Reason.TheVariants.{Canceled}
use Rattle.run_model.specs.declared.scopes.Scope.{Scope}
use Rattle.run_model.specs.declared.tasks.Stage.{Stage}
use Rattle.run_model.specs.declared.tasks.Stage.TheVariants as stage
use Rattle.run_model.specs.declared.tasks.Task.{Task}
use Rattle.run_model.specs.State.{State, WorkState}
use Rattle.run_model.specs.Tasks.{is_running, has_stage}

-- A task of the group is running.
abbrev pub has_running : WorkState → ℕ → Bool
has_running w g = list_any (λ task. task.group == g && is_running task.stage) w.tasks

-- The group isn't bare, and this is its scope.
abbrev pub lives_in : WorkState → ℕ → ℕ → Bool
lives_in w g s =
    option_map_or (λ group. not group.bare && group.scope == s) (slice_get w.groups g) false

-- This is the scope of a group that isn't bare, and one of the group's tasks is running.
abbrev pub hosts_running : WorkState → ℕ → Bool
hosts_running w s = list_any (λ task. lives_in w task.group s && is_running task.stage) w.tasks

-- A running task is interrupted, and every other task stays at its stage.
abbrev pub stage_restarted : Stage → Stage
stage_restarted stage.Running = stage.Interrupted
stage_restarted other = other

-- A group keeps its error. If it has none and one of its tasks was running, the error is
-- `interrupted`.
abbrev pub error_restarted : Bool → Option (List ℕ) → Option (List ℕ)
error_restarted running (Some text) = Some text
error_restarted running None = if running then Some (codes "interrupted") else None

-- A scope keeps its hit. If it has none and a task of its group was running, it gets this hit.
abbrev pub hit_restarted : Bool → Hit → Option Hit → Option Hit
hit_restarted hosting new (Some hit) = Some hit
hit_restarted hosting new None = if hosting then Some new else None

-- The hit that a restart of this state makes.
abbrev pub restart_hit : State → Hit
restart_hit p =
    record {
      event = p.count + 1;
      moment = p.tree.clock;
      reason = Canceled;
      cause = codes "interrupted";
    }

-- The row of a task after a restart. Only its stage may have changed.
abbrev pub task_restarted : Task → Task
task_restarted row = record row { stage = stage_restarted row.stage }

-- The row of group g after a restart. Only its error may have changed.
abbrev pub group_restarted : State → ℕ → Group → Group
group_restarted p g row = record row { error = error_restarted (has_running p.work g) row.error }

-- The row of scope s after a restart. Only its hit may have changed.
abbrev pub scope_restarted : State → ℕ → Scope → Scope
scope_restarted p s row =
    record row { hit = hit_restarted (hosts_running p.work s) (restart_hit p) row.hit }

-- State q is state p after a restart.
pub record IsRestart (p q : State) : Type 0 where
  pub counted : q.count ≡ p.count + 1
  pub tree_layout : q.tree.layout ≡ p.tree.layout
  pub work_layout : q.work.layout ≡ p.work.layout
  pub clock : q.tree.clock ≡ p.tree.clock
  pub none_running : (n : ℕ) → has_stage is_running q.work n ≡ false
  pub tasks : q.work.tasks ≡ map task_restarted p.work.tasks
  pub groups : (g : ℕ)
      → slice_get q.work.groups g ≡ option_map (group_restarted p g) (slice_get p.work.groups g)
  pub scopes : (s : ℕ)
      → slice_get q.tree.scopes s ≡ option_map (scope_restarted p s) (slice_get p.tree.scopes s)
