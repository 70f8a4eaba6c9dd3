-- Groups and tasks that are read one after another are the work with whose rows the bytes begin.
use Rattle.run_model.proofs.Common.{◌≡◌, ◌<◌, ◌≤◌, ℕ, Bool, true, false, not, ◌&&◌, ◌||◌, List, []}
use Rattle.run_model.proofs.Common.{length, Option, Some, None, refl, sym, ap, ◌∙◌, le-ltb, lt-ltb}
use Rattle.run_model.proofs.Common.{admits, limit_of, unfinished_in, is_admitted, is_running}
use Rattle.std.proofs.Math.Seq.{take-length}
use Rattle.run_model.specs.declared.groups.Group.{Group}
use Rattle.run_model.specs.declared.layouts.Layout.{Layout}
use Rattle.run_model.specs.declared.tasks.Task.{Task}
use Rattle.run_model.specs.State.{WorkState, new_work}
use Rattle.row_view.specs.declared.heads.ImageHead.{ImageHead}
use Rattle.row_view.specs.RowReading.{group_row_at, task_at}
use Rattle.row_view.specs.WorkRows.{AreWorkRows, can_come, each_passes, has_new_name}
use Rattle.row_view.specs.WorkRows.{has_work_room, is_linked, is_settled, more_at, work_at}
use Rattle.row_view.specs.WorkRows.{work_made, work_rows_at}
use Rattle.row_view.proofs.WorkReads.{no_work_stands, work_takes}
use Rattle.task_group.proofs.Admits.{running_unfinished}

-- A task can come after the rows so far, of which the groups stay.
pub come_as : (start now : WorkState) (row : Task) → now.layout ≡ start.layout
    → now.groups ≡ start.groups
    → can_come start.layout start.groups now.tasks row
    ≡ can_come now.layout now.groups now.tasks row
come_as start now row layout groups =
    ap (λ (l : Layout). can_come l start.groups now.tasks row) (sym layout)
    ∙ ap (λ (g : List Group). can_come now.layout g now.tasks row) (sym groups)

-- A task whose group isn't there can't come.
pub come_apart : (w : WorkState) (row : Task) → length w.groups ≤ row.group
    → false ≡ can_come w.layout w.groups w.tasks row
come_apart w row past = rw (le-ltb row.group (length w.groups) past) refl

-- Whether a running task is admitted.
pub group_count_of : (w : WorkState) (row : Task) (answer : Bool) → is_running row.stage ≡ true
    → admits (limit_of w row.group) (unfinished_in row.group w.tasks) ≡ answer
    → (not (is_running row.stage) || is_admitted w (length w.tasks) row) ≡ answer
group_count_of w row answer running fits =
    rw (running, running_unfinished row.stage running, take-length) fits

-- A task can come if its group exists, its link is right, and the limit admits it if it is running.
pub come_by : (w : WorkState) (row : Task) (group_count linked : Bool) → row.group < length w.groups
    → (not (is_running row.stage) || is_admitted w (length w.tasks) row) ≡ group_count
    → linked ≡ is_linked w.tasks row
    → (group_count && linked) ≡ can_come w.layout w.groups w.tasks row
come_by w row group_count linked known seated is =
    rw (lt-ltb row.group (length w.groups) known, seated) (ap (λ b. group_count && b) is)

module _ (start : WorkState) (head : ImageHead) (bytes : List ℕ)
    (new : start ≡ new_work start.layout) where
  abbrev pub groups_read : Option (List Group × List ℕ)
  groups_read = more_at group_row_at has_new_name head.groups start.groups bytes

  abbrev pub tasks_read : WorkState → List ℕ → Option (List Task × List ℕ)
  tasks_read w rest =
      more_at (task_at head.version) (can_come w.layout w.groups) head.tasks w.tasks rest

  -- The rows of groups were read, and no task yet.
  pub record HasGroups (w : WorkState) (rest : List ℕ) : Type 0 where
    pub read : groups_read ≡ Some (w.groups, rest)
    pub layout : w.layout ≡ start.layout
    pub tasks : w.tasks ≡ start.tasks

  -- The bytes begin with the rows of no work.
  abbrev pub HasNoWork : Type 0
  HasNoWork = (w : WorkState) (rest : List ℕ)
      → AreWorkRows start.layout head bytes w rest → ⊥

  abbrev pub IsFew : Type 0
  IsFew = has_work_room start.layout head ≡ true

  -- What the test of the room says at this layout, it says of these groups.
  pub room_is : (layout : Layout) (room answer : Bool) → layout ≡ start.layout
      → room ≡ has_work_room layout head → room ≡ answer
      → has_work_room start.layout head ≡ answer
  room_is layout room answer same is e =
      ap (λ (l : Layout). has_work_room l head) (sym same) ∙ sym is ∙ e

  pub no_room : has_work_room start.layout head ≡ false → HasNoWork
  unfolding work_at work_rows_at
  no_room none = no_work_stands start.layout head bytes (rw none refl)

  from_none : more_at group_row_at has_new_name head.groups [] bytes ≡ groups_read
  from_none =
      ap (λ (l : List Group). more_at group_row_at has_new_name head.groups l bytes)
      (sym (ap (λ (w : WorkState). w.groups) new))

  from_no_task : (w : WorkState) (rest : List ℕ) → HasGroups w rest
      → more_at (task_at head.version) (can_come start.layout w.groups) head.tasks [] rest
      ≡ tasks_read w rest
  from_no_task w rest has =
      ap (λ (l : Layout).
      more_at (task_at head.version) (can_come l w.groups) head.tasks [] rest) (sym has.layout)
      ∙ ap (λ (l : List Task).
      more_at (task_at head.version) (can_come w.layout w.groups) head.tasks l rest)
      (sym (has.tasks ∙ ap (λ (u : WorkState). u.tasks) new))

  pub no_groups : IsFew → groups_read ≡ None → HasNoWork
  unfolding work_at work_rows_at
  no_groups few none =
      no_work_stands start.layout head bytes (rw (few, from_none ∙ none) refl)

  pub no_tasks : (w : WorkState) (rest : List ℕ) → IsFew → HasGroups w rest
      → tasks_read w rest ≡ None → HasNoWork
  unfolding work_at work_rows_at
  no_tasks w rest few has none =
      no_work_stands start.layout head bytes
      (rw (few, from_none ∙ has.read, from_no_task w rest has ∙ none) refl)

  -- The rows of tasks were read after those of groups.
  pub record HasTasks (w v : WorkState) (rest behind : List ℕ) : Type 0 where
    pub read : tasks_read w rest ≡ Some (v.tasks, behind)
    pub layout : v.layout ≡ w.layout
    pub groups : v.groups ≡ w.groups

  as_made : (w v : WorkState) (rest behind : List ℕ) → HasGroups w rest
      → HasTasks w v rest behind → work_made start.layout w.groups v.tasks ≡ v
  as_made w v rest behind has more =
      ap (λ (l : Layout). work_made l w.groups v.tasks) (sym (more.layout ∙ has.layout))
      ∙ ap (λ (g : List Group). work_made v.layout g v.tasks) (sym more.groups)

  pub unsettled : (w v : WorkState) (rest behind : List ℕ) → IsFew → HasGroups w rest
      → HasTasks w v rest behind → each_passes (is_settled v) 0 v.groups ≡ false → HasNoWork
  unfolding work_at work_rows_at
  unsettled w v rest behind few has more test =
      let made = as_made w v rest behind has more in
      let tested : each_passes (is_settled (work_made start.layout w.groups v.tasks)) 0 w.groups
      ≡ false = ap (λ (u : WorkState). each_passes (is_settled u) 0 u.groups) made ∙ test in
      no_work_stands start.layout head bytes
      (rw (few, from_none ∙ has.read, from_no_task w rest has ∙ more.read, tested) refl)

  pub settled : (w v : WorkState) (rest behind : List ℕ) → IsFew → HasGroups w rest
      → HasTasks w v rest behind → each_passes (is_settled v) 0 v.groups ≡ true
      → AreWorkRows start.layout head bytes v behind
  unfolding work_at work_rows_at
  settled w v rest behind few has more test =
      let made = as_made w v rest behind has more in
      let tested : each_passes (is_settled (work_made start.layout w.groups v.tasks)) 0 w.groups
      ≡ true = ap (λ (u : WorkState). each_passes (is_settled u) 0 u.groups) made ∙ test in
      let found : work_at start.layout head bytes ≡ Some (v, behind) =
      rw (few, from_none ∙ has.read, from_no_task w rest has ∙ more.read, tested)
      (ap (λ (u : WorkState). Some (u, behind)) made) in
      work_takes start.layout head bytes v behind found
