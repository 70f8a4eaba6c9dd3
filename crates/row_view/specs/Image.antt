-- The grammar of images: the bytes of each row, and of a whole state.
use Rattle.std.specs.Prelude.{ℕ, ◌+◌, ◌-◌, ◌*◌, ◌^◌, nat_lt, Bool, true, false, ◌&&◌, List, [], ◌∷◌}
use Rattle.std.specs.Prelude.{◌++◌}
use Rattle.std.specs.Prelude.{length, Option, Some, None, drop, is_none}
use Rattle.std.specs.List.{flat_map}
use Rattle.run_model.specs.declared.bounds.TheConstants.{MOST_GROUPS}
use Rattle.run_model.specs.declared.layouts.Layout.{Layout}
use Rattle.run_model.specs.declared.scopes.Kind.{Kind}
use Rattle.run_model.specs.declared.scopes.Kind.TheVariants as kind
use Rattle.run_model.specs.declared.scopes.Reason.{Reason}
use Rattle.run_model.specs.declared.scopes.Reason.TheVariants.{Canceled, DeadlineExceeded}
use Rattle.run_model.specs.declared.scopes.Hit.{Hit}
use Rattle.run_model.specs.declared.scopes.Scope.{Scope}
use Rattle.run_model.specs.declared.groups.Group.{Group}
use Rattle.run_model.specs.declared.tasks.Stage.{Stage}
use Rattle.run_model.specs.declared.tasks.Stage.TheVariants as stage
use Rattle.run_model.specs.declared.tasks.Task.{Task}
use Rattle.run_model.specs.Layouts.{most_scopes, most_tasks}
use Rattle.run_model.specs.State.{State}
use Rattle.run_model.specs.Records.{is_row_number, is_moment, is_limit, is_optional_text}
use Rattle.run_model.specs.Records.{is_recorded_kind}
use Rattle.run_model.specs.Texts.{is_name, is_text}
use Rattle.row_view.specs.declared.heads.ImageHead.{ImageHead}
use Rattle.row_view.specs.declared.heads.ImageVersion.{ImageVersion}
use Rattle.row_view.specs.declared.heads.ImageVersion.TheVariants.{One, Two}
use Rattle.run_model.specs.Spelling.{text_bytes, optional_bytes}
use Rattle.run_model.specs.Spelling.{limit_bytes, kind_bytes}
use Rattle.std.specs.Int.{to_be_bytes, w16, w64}

-- ---- fields

-- A flag is one byte.
abbrev pub flag_bytes : Bool → List ℕ
flag_bytes false = 0 ∷ []
flag_bytes true = 1 ∷ []

-- A reason is one byte.
abbrev pub reason_bytes : Reason → List ℕ
reason_bytes Canceled = 1 ∷ []
reason_bytes DeadlineExceeded = 2 ∷ []

-- A hit is one byte. After a 1 come the number of the event and the moment, in eight bytes each,
-- the reason and the cause.
abbrev pub hit_bytes : Option Hit → List ℕ
hit_bytes None = 0 ∷ []
hit_bytes (Some hit) =
    1 ∷ to_be_bytes w64 hit.event ++ to_be_bytes w64 hit.moment ++ reason_bytes hit.reason
    ++ text_bytes hit.cause

-- A stage is one byte, followed by the text of a failure.
abbrev pub stage_bytes : Stage → List ℕ
stage_bytes stage.Fresh = 0 ∷ []
stage_bytes stage.Running = 1 ∷ []
stage_bytes stage.Success = 2 ∷ []
stage_bytes (stage.Failure text) = 3 ∷ text_bytes text
stage_bytes stage.Interrupted = 4 ∷ []

-- A link is the number of the task that is retried, and 65,535 if there is none. Rows of version 1
-- have no link.
abbrev pub link_bytes : ImageVersion → Option ℕ → List ℕ
link_bytes One link = []
link_bytes Two None = 255 ∷ 255 ∷ []
link_bytes Two (Some n) = to_be_bytes w16 n

-- ---- rows

-- The row of a scope.
abbrev pub scope_bytes : Scope → List ℕ
scope_bytes row =
    text_bytes row.name ++ to_be_bytes w16 row.parent ++ kind_bytes row.kind ++ hit_bytes row.hit

-- The row of a group.
abbrev pub group_bytes : Group → List ℕ
group_bytes row =
    text_bytes row.name ++ to_be_bytes w16 row.scope ++ flag_bytes row.bare ++ limit_bytes row.limit
    ++ flag_bytes row.waited ++ optional_bytes row.error

-- The row of a task.
abbrev pub task_bytes : ImageVersion → Task → List ℕ
task_bytes version row =
    to_be_bytes w16 row.group ++ text_bytes row.job ++ text_bytes row.argument
    ++ stage_bytes row.stage ++ link_bytes version row.retry_of

-- ---- images

-- A version is one byte.
abbrev pub version_bytes : ImageVersion → List ℕ
version_bytes One = 1 ∷ []
version_bytes Two = 2 ∷ []

-- A head is the version, the clock and the count of events, in eight bytes each, and the numbers of
-- rows of scopes, groups and tasks, in two bytes each.
abbrev pub head_bytes : ImageHead → List ℕ
head_bytes head =
    version_bytes head.version ++ to_be_bytes w64 head.clock ++ to_be_bytes w64 head.count
    ++ to_be_bytes w16 head.scopes ++ to_be_bytes w16 head.groups ++ to_be_bytes w16 head.tasks

-- The head in this version.
abbrev pub in_version : ImageVersion → ImageHead → ImageHead
in_version version head = record head { version = version }

-- The head of the image of a state. Root has no row in an image.
abbrev pub head_of : ImageVersion → State → ImageHead
head_of version p = record {
  version = version;
  clock = p.tree.clock;
  count = p.count;
  scopes = length (drop 1 p.tree.scopes);
  groups = length p.work.groups;
  tasks = length p.work.tasks;
}

-- The image of a state in this version: the head, and the rows in the order of their numbers.
abbrev pub image_in : ImageVersion → State → List ℕ
image_in version p =
    head_bytes (head_of version p) ++ flat_map scope_bytes (drop 1 p.tree.scopes)
    ++ flat_map group_bytes p.work.groups ++ flat_map (task_bytes version) p.work.tasks

-- The image of a state, which is written in version 2.
abbrev pub image : State → List ℕ
image p = image_in Two p

-- ---- the ranges of fields

-- The kinds that a row can have.
abbrev pub is_kept_kind : Kind → Bool
is_kept_kind kind.Group = true
is_kept_kind other = is_recorded_kind other

-- There is no hit, or the fields of the hit are in range. A reason can't be out of range, so `true`
-- stands for it.
abbrev pub is_kept_hit : Option Hit → Bool
is_kept_hit None = true
is_kept_hit (Some hit) =
    nat_lt hit.event (2 ^ 64) && is_moment hit.moment && true && is_text hit.cause

-- A stage is in range unless it is a failure whose text isn't a text, which has 1 to 64 text bytes.
abbrev pub is_kept_stage : Stage → Bool
is_kept_stage (stage.Failure text) = is_text text
is_kept_stage _ = true

-- A link to the task that is retried is below 65,535. In version 1 there is no link.
abbrev pub is_kept_link : ImageVersion → Option ℕ → Bool
is_kept_link One link = is_none link
is_kept_link Two None = true
is_kept_link Two (Some n) = nat_lt n 65535

-- The fields of the row of a scope are in range.
abbrev pub is_kept_scope : Scope → Bool
is_kept_scope row =
    is_name row.name && is_row_number row.parent && is_kept_kind row.kind && is_kept_hit row.hit

-- The fields of the row of a group are in range. The two flags can't be out of range, so `true`
-- stands for each.
abbrev pub is_kept_group : Group → Bool
is_kept_group row =
    is_name row.name && is_row_number row.scope && true && is_limit row.limit && true
    && is_optional_text row.error

-- The fields of the row of a task are in range.
abbrev pub is_kept_task : ImageVersion → Task → Bool
is_kept_task version row =
    is_row_number row.group && is_name row.job && is_name row.argument
    && is_kept_stage row.stage && is_kept_link version row.retry_of

-- The fields of a head are in range. The count of events is below 2^63, and the numbers of rows are
-- within the limits of the layout. Root has no row, but counts as a scope.
abbrev pub is_kept_head : Layout → ImageHead → Bool
is_kept_head layout head =
    is_moment head.clock && nat_lt head.count (2 ^ 63) && nat_lt head.scopes (most_scopes layout)
    && nat_lt head.groups (MOST_GROUPS + 1) && nat_lt head.tasks (most_tasks layout + 1)

-- ---- lengths

-- The greatest length of a task's row: 134 bytes, and two more for the link in version 2.
abbrev pub task_most : ImageVersion → ℕ
task_most One = 134
task_most Two = 136

-- The greatest length of an image: a head has 23 bytes, a group's row at most 103, and a scope's
-- row at most 192, because only the kinds that can be hit have a hit.
abbrev pub greatest_image : ImageVersion → Layout → ℕ
greatest_image version layout =
    23 + 192 * (most_scopes layout - 1) + 103 * MOST_GROUPS
    + task_most version * most_tasks layout
