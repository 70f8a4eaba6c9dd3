-- What the view of a row shows, and at which places its names and texts are.
use Rattle.std.specs.Prelude.{ℕ, ◌+◌, List, [], ◌∷◌, ◌++◌, length, Option, Some, None}
use Rattle.std.specs.Option.{option_copied, option_map}
use Rattle.run_model.specs.declared.scopes.Hit.{Hit}
use Rattle.run_model.specs.declared.scopes.Scope.{Scope}
use Rattle.run_model.specs.declared.groups.Group.{Group}
use Rattle.run_model.specs.declared.tasks.Stage.{Stage}
use Rattle.run_model.specs.declared.tasks.Stage.TheVariants as stage
use Rattle.run_model.specs.declared.tasks.Task.{Task}
use Rattle.run_model.specs.Lengths.{kind_len}
use Rattle.row_view.specs.declared.scope_rows.HitView.{HitView}
use Rattle.row_view.specs.declared.task_rows.StageView.{StageView}
use Rattle.row_view.specs.declared.task_rows.StageView.TheVariants as stages
use Rattle.row_view.specs.declared.scope_rows.ScopeRow.{ScopeRow}
use Rattle.row_view.specs.declared.group_rows.GroupRow.{GroupRow}
use Rattle.row_view.specs.declared.task_rows.TaskRow.{TaskRow}
use Rattle.row_view.specs.Views.{kind_of, PlacedText, optional_text, kind_texts}

-- The hit that a view shows.
abbrev pub hit_of : HitView → Hit
hit_of view = record {
  event = view.event;
  moment = view.moment;
  reason = view.reason;
  cause = view.cause.now;
}

-- The scope that a view shows.
abbrev pub scope_of : ScopeRow → Scope
scope_of view = record {
  name = view.name.now;
  parent = view.parent;
  kind = kind_of view.kind;
  hit = option_map hit_of view.hit;
}

-- The group that a view shows.
abbrev pub group_of : GroupRow → Group
group_of view = record {
  name = view.name.now;
  scope = view.scope;
  bare = view.bare;
  limit = view.limit;
  waited = view.waited;
  error = option_copied view.error;
}

-- The stage that a view shows.
abbrev pub stage_of : StageView → Stage
stage_of stages.Fresh = stage.Fresh
stage_of stages.Running = stage.Running
stage_of stages.Success = stage.Success
stage_of (stages.Failure text) = stage.Failure text.now
stage_of stages.Interrupted = stage.Interrupted

-- The task that a view shows.
abbrev pub task_of : TaskRow → Task
task_of view = record {
  group = view.group;
  job = view.job.now;
  argument = view.argument.now;
  stage = stage_of view.stage;
  retry_of = view.retry_of;
}

-- The text of a hit, which comes after the hit's byte, two numbers, the reason and a byte for the
-- length.
abbrev pub hit_texts : ℕ → Option HitView → List PlacedText
hit_texts place None = []
hit_texts place (Some hit) = (place + 19, hit.cause) ∷ []

-- The names and texts of a scope's row that begins at this place.
abbrev pub scope_texts : ℕ → ScopeRow → List PlacedText
scope_texts place row =
    (place + 1, row.name)
    ∷ kind_texts (place + 3 + length row.name.now) row.kind
    ++ hit_texts (place + 3 + length row.name.now + kind_len (kind_of row.kind)) row.hit

-- The name and the error of a group's row that begins at this place.
abbrev pub group_texts : ℕ → GroupRow → List PlacedText
group_texts place row =
    (place + 1, row.name) ∷ optional_text (place + 7 + length row.name.now) row.error

-- The text of a stage, which comes after the stage's byte and a byte for the length.
abbrev pub stage_texts : ℕ → StageView → List PlacedText
stage_texts place (stages.Failure text) = (place + 2, text) ∷ []
stage_texts place _ = []

-- The job, the argument and the failure of a task's row that begins at this place.
abbrev pub task_texts : ℕ → TaskRow → List PlacedText
task_texts place row =
    (place + 3, row.job)
    ∷ (place + 4 + length row.job.now, row.argument)
    ∷ stage_texts (place + 4 + length row.job.now + length row.argument.now) row.stage
