-- Reading a row from the beginning of some bytes.
use Rattle.std.specs.Prelude.{ℕ, ◌+◌, nat_lt, ◌==◌, Bool, true, false, if◌then◌else◌, List, ◌^◌}
use Rattle.std.specs.Prelude.{Option, Some, None}
use Rattle.std.specs.Int.{w16, w64}
use Rattle.run_model.specs.declared.scopes.Kind.{Kind}
use Rattle.run_model.specs.declared.scopes.Kind.TheVariants as kind
use Rattle.run_model.specs.declared.scopes.Reason.{Reason}
use Rattle.run_model.specs.declared.scopes.Reason.TheVariants.{Canceled, DeadlineExceeded}
use Rattle.run_model.specs.declared.scopes.Hit.{Hit}
use Rattle.run_model.specs.declared.scopes.Scope.{Scope}
use Rattle.run_model.specs.declared.groups.Group.{Group}
use Rattle.run_model.specs.declared.tasks.Stage.{Stage}
use Rattle.run_model.specs.declared.tasks.Stage.TheVariants as stage
use Rattle.run_model.specs.declared.tasks.Task.{Task}
use Rattle.run_model.specs.declared.bounds.TheConstants.{MOST_GROUPS}
use Rattle.run_model.specs.declared.layouts.Layout.{Layout}
use Rattle.run_model.specs.Layouts.{most_scopes, most_tasks}
use Rattle.run_model.specs.Texts.{is_name, is_text}
use Rattle.row_view.specs.Fields.{Reader, ◌>>=◌, one, byte_at, number_at, moment_at, text_at}
use Rattle.row_view.specs.Fields.{optional_at, limit_at, kind_by}
use Rattle.row_view.specs.declared.heads.ImageHead.{ImageHead}
use Rattle.row_view.specs.declared.heads.ImageVersion.{ImageVersion}
use Rattle.row_view.specs.declared.heads.ImageVersion.TheVariants.{One, Two}

-- ---- several in a row

-- Four values, from which another one is made; in the same way five, and six.
abbrev pub four :
    {A B C D X : Type 0} → Reader A → Reader B → Reader C → Reader D → (A → B → C → D → X)
    → Reader X
four first second third fourth make bytes = do
  a ← first bytes
  b ← second a.1
  c ← third b.1
  d ← fourth c.1
  Some (make a.0 b.0 c.0 d.0, d.1)

abbrev pub five :
    {A B C D E X : Type 0} → Reader A → Reader B → Reader C → Reader D → Reader E
    → (A → B → C → D → E → X) → Reader X
five first second third fourth fifth make bytes = do
  a ← first bytes
  b ← second a.1
  c ← third b.1
  d ← fourth c.1
  e ← fifth d.1
  Some (make a.0 b.0 c.0 d.0 e.0, e.1)

abbrev pub six :
    {A B C D E F X : Type 0} → Reader A → Reader B → Reader C → Reader D → Reader E → Reader F
    → (A → B → C → D → E → F → X) → Reader X
six first second third fourth fifth sixth make bytes = do
  a ← first bytes
  b ← second a.1
  c ← third b.1
  d ← fourth c.1
  e ← fifth d.1
  f ← sixth e.1
  Some (make a.0 b.0 c.0 d.0 e.0 f.0, f.1)

-- ---- fields

-- The flag that this byte stands for.
unfoldable pub flag_by : ℕ → Reader Bool
flag_by b bytes =
    if b == 0 then Some (false, bytes) else (if b == 1 then Some (true, bytes) else None)

-- A flag.
unfoldable pub flag_at : Reader Bool
flag_at bytes = do
  b ← byte_at bytes
  flag_by b.0 b.1

-- The reason that this byte stands for.
unfoldable pub reason_by : ℕ → Reader Reason
reason_by b bytes =
    if b == 1 then Some (Canceled, bytes) else
    (if b == 2 then Some (DeadlineExceeded, bytes) else None)

-- A reason.
unfoldable pub reason_at : Reader Reason
reason_at bytes = do
  b ← byte_at bytes
  reason_by b.0 b.1

-- The kind of a row that begins with this byte.
abbrev pub row_kind_by : ℕ → Reader Kind
row_kind_by b bytes = if b == 6 then Some (kind.Group, bytes) else kind_by b bytes

-- The kind of a row.
unfoldable pub row_kind_at : Reader Kind
row_kind_at bytes = do
  b ← byte_at bytes
  row_kind_by b.0 b.1

-- The hit with these fields.
abbrev pub hit_made : ℕ → ℕ → Reason → List ℕ → Hit
hit_made event moment reason cause =
    record { event = event; moment = moment; reason = reason; cause = cause }

-- The fields of a hit.
unfoldable pub hit_fields_at : Reader Hit
hit_fields_at = four (number_at w64) moment_at reason_at (text_at is_text) hit_made

-- The hit that begins with this byte, or none.
unfoldable pub hit_by : ℕ → Reader (Option Hit)
hit_by b bytes =
    if b == 0 then Some (None, bytes) else (if b == 1 then one hit_fields_at Some bytes else None)

-- A hit that may be missing.
unfoldable pub hit_at : Reader (Option Hit)
hit_at bytes = do
  b ← byte_at bytes
  hit_by b.0 b.1

-- The stage that begins with this byte.
unfoldable pub stage_by : ℕ → Reader Stage
stage_by b bytes =
    if b == 0 then Some (stage.Fresh, bytes) else
    (if b == 1 then Some (stage.Running, bytes) else
    (if b == 2 then Some (stage.Success, bytes) else
    (if b == 3 then one (text_at is_text) stage.Failure bytes else
    (if b == 4 then Some (stage.Interrupted, bytes) else None))))

-- A stage.
unfoldable pub stage_at : Reader Stage
stage_at bytes = do
  b ← byte_at bytes
  stage_by b.0 b.1

-- The link that two bytes stand for.
unfoldable pub link_by : ℕ → Reader (Option ℕ)
link_by n bytes = if n == 65535 then Some (None, bytes) else Some (Some n, bytes)

-- A link. In version 1 it has no bytes, and there is none.
unfoldable pub link_at : ImageVersion → Reader (Option ℕ)
link_at One bytes = Some (None, bytes)
link_at Two bytes = do
  n ← number_at w16 bytes
  link_by n.0 n.1

-- ---- rows

-- The scope with these fields.
abbrev pub scope_made : List ℕ → ℕ → Kind → Option Hit → Scope
scope_made name parent kind hit =
    record { name = name; parent = parent; kind = kind; hit = hit }

-- The row of a scope.
unfoldable pub scope_at : Reader Scope
scope_at = four (text_at is_name) (number_at w16) row_kind_at hit_at scope_made

-- The group with these fields.
abbrev pub group_made : List ℕ → ℕ → Bool → Option ℕ → Bool → Option (List ℕ) → Group
group_made name scope bare limit waited error = record {
  name = name;
  scope = scope;
  bare = bare;
  limit = limit;
  waited = waited;
  error = error;
}

-- The row of a group.
unfoldable pub group_row_at : Reader Group
group_row_at =
    six (text_at is_name) (number_at w16) flag_at limit_at flag_at optional_at group_made

-- The task with these fields.
abbrev pub task_made : ℕ → List ℕ → List ℕ → Stage → Option ℕ → Task
task_made group job argument stage retry_of = record {
  group = group;
  job = job;
  argument = argument;
  stage = stage;
  retry_of = retry_of;
}

-- The row of a task.
unfoldable pub task_at : ImageVersion → Reader Task
task_at version =
    five (number_at w16) (text_at is_name) (text_at is_name) stage_at (link_at version) task_made

-- ---- the head

-- The version that this byte stands for.
abbrev pub version_by : ℕ → Reader ImageVersion
version_by b bytes =
    if b == 1 then Some (One, bytes) else (if b == 2 then Some (Two, bytes) else None)

-- The version.
unfoldable pub version_at : Reader ImageVersion
version_at bytes = do
  b ← byte_at bytes
  version_by b.0 b.1

-- A count of events, in its range.
unfoldable pub count_at : Reader ℕ
count_at bytes = do
  count ← number_at w64 bytes
  if nat_lt count.0 (2 ^ 63) then Some count else None

-- A number of rows below the bound.
unfoldable pub fewer_at : ℕ → Reader ℕ
fewer_at bound bytes = do
  n ← number_at w16 bytes
  if nat_lt n.0 bound then Some n else None

-- The head with these fields.
abbrev pub head_made : ImageVersion → ℕ → ℕ → ℕ → ℕ → ℕ → ImageHead
head_made version clock count scopes groups tasks = record {
  version = version;
  clock = clock;
  count = count;
  scopes = scopes;
  groups = groups;
  tasks = tasks;
}

-- The head of an image in a store of this layout.
unfoldable pub head_at : Layout → Reader ImageHead
head_at layout =
    six version_at moment_at count_at (fewer_at (most_scopes layout)) (fewer_at (MOST_GROUPS + 1))
    (fewer_at (most_tasks layout + 1)) head_made
