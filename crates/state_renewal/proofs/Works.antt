-- Questions about groups and tasks that go on have the same answers.
use Rattle.run_model.proofs.Common.{◌≡◌, ◌==◌, ◌&&◌, ℕ, Bool, true, false, not, List, [], ◌∷◌}
use Rattle.run_model.proofs.Common.{cond, length, map, take, Option, Some, None, slice_get, refl}
use Rattle.run_model.proofs.Common.{sym, ap, ◌∙◌, arith, AllByRecursion, range_with_len}
use Rattle.run_model.proofs.Common.{option_and_then, option_map, option_map_or, and_from, and_left}
use Rattle.run_model.proofs.Common.{and_parts, both_ways, eq-eqb, eqb-true, false_from_ne_true}
use Rattle.run_model.proofs.Common.{true_from_ne_false, slice_get_past, is_open, IsConsistent}
use Rattle.run_model.proofs.Common.{has_task_error, HasRow, State, WorkState, admits, first_ready}
use Rattle.run_model.proofs.Common.{is_admitted, is_fresh, is_ready, is_retried, is_retry_of}
use Rattle.run_model.proofs.Common.{is_running, is_unfinished, ended_in_error, limit_of, phase_by}
use Rattle.run_model.proofs.Common.{phase_of, running_tasks, unfinished_in, has_stage}
use Rattle.run_model.proofs.Common.{group_of_task, row_there}
use Rattle.std.specs.List.{filter, find}
use Rattle.run_model.specs.declared.groups.Group.{Group}
use Rattle.run_model.specs.declared.tasks.Stage.{Stage}
use Rattle.run_model.specs.declared.tasks.Task.{Task}
use Rattle.state_renewal.specs.Renewed.{
  new_number,
  Part,
  group_renumbered,
  task_renumbered,
  work_renumbered,
}
use Rattle.state_renewal.specs.Renewed.{
  keeps_group,
  keeps_task,
  group_renewed,
  task_renewed,
  renewed,
}
use Rattle.model_laws.proofs.Admission.{count_found, running_unfinished}
use Rattle.state_renewal.proofs.Numbers.{are_restated, same_number}
use Rattle.state_renewal.proofs.Hangs.{TasksHang, WorkHangs}
use Rattle.state_renewal.proofs.PassRenumbered.{
  PassesRenumbered,
  RowsPass,
  any_renumbered,
  count_all_renumbered,
}
use Rattle.state_renewal.proofs.PassRenumbered.{count_renumbered, find_renumbered, picks_renumbered}
use Rattle.state_renewal.proofs.RowsRenumbered.{length-renumbered, row_renumbered, test_renumbered}
use Rattle.model_laws.proofs.Tests.{passing, fresh_stage}

-- ---- groups

pub open_renumbered : (part : Part) (w : WorkState) (g : ℕ) → part.groups g ≡ true
    → is_open (work_renumbered part w) (new_number part.groups g) ≡ is_open w g
open_renumbered part w g is =
    test_renumbered (λ group. not group.waited) part.groups (group_renumbered part) w.groups g
    (λ row. refl) is

limit_same : (part : Part) (w : WorkState) (g : ℕ) → part.groups g ≡ true
    → limit_of (work_renumbered part w) (new_number part.groups g) ≡ limit_of w g
limit_same part w g is =
    row_renumbered (option_and_then (λ group. group.limit)) (option_and_then (λ group. group.limit))
    part.groups (group_renumbered part) w.groups g refl (λ row at. refl) is

-- ---- unfinished tasks

-- Of a group that goes on, tasks at such stages pass as they did.
of_group : (part : Part) (w : WorkState) (g : ℕ) (at_stage : Stage → Bool)
    → TasksHang part w.tasks → part.groups g ≡ true
    → RowsPass part.tasks (task_renumbered part)
    (λ task. task.group == g && at_stage task.stage)
    (λ task. task.group == new_number part.groups g && at_stage task.stage) w.tasks
of_group part w g at_stage go is = record {
  on =
      λ n x found goes.
      ap (λ b. b && at_stage x.stage)
      (same_number part.groups x.group g (sym (go n x found) ∙ goes) is);
  gone =
      λ n x found goes.
      and_left (x.group == g) (at_stage x.stage)
      (false_from_ne_true (x.group == g)
      (λ same.
      both_ways (part.groups x.group) (sym (go n x found) ∙ goes)
      (ap part.groups (eqb-true x.group g same) ∙ is)));
}

pub unfinished_before : (part : Part) (w : WorkState) (g n : ℕ) → TasksHang part w.tasks
    → part.groups g ≡ true
    → unfinished_in (new_number part.groups g)
    (take (new_number part.tasks n) (work_renumbered part w).tasks)
    ≡ unfinished_in g (take n w.tasks)
unfinished_before part w g n go is =
    count_renumbered part.tasks (task_renumbered part)
    (λ task. task.group == g && is_unfinished task.stage)
    (λ task. task.group == new_number part.groups g && is_unfinished task.stage) w.tasks n
    (of_group part w g is_unfinished go is)

pub unfinished_same : (part : Part) (w : WorkState) (g : ℕ) → TasksHang part w.tasks
    → part.groups g ≡ true
    → unfinished_in (new_number part.groups g) (work_renumbered part w).tasks
    ≡ unfinished_in g w.tasks
unfinished_same part w g go is =
    count_all_renumbered part.tasks (task_renumbered part)
    (λ task. task.group == g && is_unfinished task.stage)
    (λ task. task.group == new_number part.groups g && is_unfinished task.stage) w.tasks
    (of_group part w g is_unfinished go is)

pub task_error_same : (part : Part) (w : WorkState) (g : ℕ) → TasksHang part w.tasks
    → part.groups g ≡ true
    → has_task_error (work_renumbered part w) (new_number part.groups g) ≡ has_task_error w g
task_error_same part w g go is =
    any_renumbered part.tasks (task_renumbered part)
    (λ task. task.group == g && ended_in_error task.stage)
    (λ task. task.group == new_number part.groups g && ended_in_error task.stage) w.tasks
    (of_group part w g ended_in_error go is)

pub idle_renumbered : (part : Part) (w : WorkState) (g : ℕ) → TasksHang part w.tasks
    → part.groups g ≡ true
    → (unfinished_in (new_number part.groups g) (work_renumbered part w).tasks == 0)
    ≡ (unfinished_in g w.tasks == 0)
idle_renumbered part w g go is = ap (λ k. k == 0) (unfinished_same part w g go is)

pub group_count_renumbered : (part : Part) (w : WorkState) (g : ℕ) → TasksHang part w.tasks
    → part.groups g ≡ true
    → admits (limit_of (work_renumbered part w) (new_number part.groups g))
    (unfinished_in (new_number part.groups g) (work_renumbered part w).tasks)
    ≡ admits (limit_of w g) (unfinished_in g w.tasks)
group_count_renumbered part w g go is =
    ap (λ limit. admits limit
    (unfinished_in (new_number part.groups g) (work_renumbered part w).tasks))
    (limit_same part w g is)
    ∙ ap (admits (limit_of w g)) (unfinished_same part w g go is)

pub admitted_renumbered : (part : Part) (w : WorkState) (n : ℕ) (row : Task)
    → TasksHang part w.tasks
    → HasRow w.tasks n row → part.tasks n ≡ true
    → is_admitted (work_renumbered part w) (new_number part.tasks n) (task_renumbered part row)
    ≡ is_admitted w n row
admitted_renumbered part w n row go found is =
    let goes : part.groups row.group ≡ true = sym (go n row found) ∙ is in
    ap (λ limit. is_unfinished row.stage && admits limit
    (unfinished_in (new_number part.groups row.group)
    (take (new_number part.tasks n) (work_renumbered part w).tasks)))
    (limit_same part w row.group goes)
    ∙ ap (λ k. is_unfinished row.stage && admits (limit_of w row.group) k)
    (unfinished_before part w row.group n go goes)

pub phase_renumbered : (part : Part) (w : WorkState) (n : ℕ) → TasksHang part w.tasks
    → part.tasks n ≡ true
    → phase_of (work_renumbered part w) (new_number part.tasks n) ≡ phase_of w n
phase_renumbered part w n go is =
    row_renumbered
    (option_map (λ row. phase_by
    (is_admitted (work_renumbered part w) (new_number part.tasks n) row) row.stage))
    (option_map (λ row. phase_by (is_admitted w n row) row.stage)) part.tasks (task_renumbered part)
    w.tasks n refl
    (λ row at. ap (λ b. Some (phase_by b row.stage)) (admitted_renumbered part w n row go at is)) is

-- ---- what doesn't go on has ended

-- A task that doesn't go on has ended.
pub gone_ended : (part : Part) (p : State) (n : ℕ) (row : Task) → IsConsistent p
    → WorkHangs part p.work → HasRow p.work.tasks n row → part.tasks n ≡ false
    → is_unfinished row.stage ≡ false
gone_ended part p n row consistent go found goes =
    false_from_ne_true (is_unfinished row.stage)
    (λ is.
    let group = row_there p.work.groups row.group (consistent.numbered.groups n row found) in
    let waited =
    (go.groups row.group group.0 group.1).gone (sym (go.tasks n row found) ∙ goes) in
    let none = consistent.admitted.waited row.group group.0 group.1 waited in
    let some =
    count_found (λ task. task.group == row.group && is_unfinished task.stage) p.work.tasks n row
    found
    (and_from (row.group == row.group) (is_unfinished row.stage)
    (eq-eqb row.group row.group refl) is) in
    absurd (omega (arith, some, none)))

-- A task that hasn't ended goes on.
pub unfinished_goes : (part : Part) (p : State) (n : ℕ) (row : Task) → IsConsistent p
    → WorkHangs part p.work → HasRow p.work.tasks n row → is_unfinished row.stage ≡ true
    → part.tasks n ≡ true
unfinished_goes part p n row consistent go found is =
    true_from_ne_false (part.tasks n)
    (λ gone.
    both_ways (is_unfinished row.stage) (gone_ended part p n row consistent go found gone) is)

-- ---- running tasks

pub stage_same : (test : Stage → Bool) (part : Part) (w : WorkState) (n : ℕ)
    → part.tasks n ≡ true
    → option_map_or (λ task. test task.stage)
    (slice_get (work_renumbered part w).tasks (new_number part.tasks n)) false
    ≡ option_map_or (λ task. test task.stage) (slice_get w.tasks n) false
stage_same test part w n is =
    test_renumbered (λ task. test task.stage) part.tasks (task_renumbered part) w.tasks n
    (λ row. refl) is

-- A task that runs goes on.
running_goes : (part : Part) (p : State) (n : ℕ) → IsConsistent p → WorkHangs part p.work
    → has_stage is_running p.work n ≡ true → part.tasks n ≡ true
running_goes part p n consistent go is =
    let row = passing (λ task. is_running task.stage) (slice_get p.work.tasks n) is in
    unfinished_goes part p n row.0 consistent go row.1 (running_unfinished row.0.stage row.2)

running_pass : (part : Part) (p : State) → IsConsistent p → WorkHangs part p.work
    → PassesRenumbered part.tasks (has_stage is_running p.work)
    (has_stage is_running (work_renumbered part p.work))
    (length p.work.tasks)
running_pass part p consistent go = record {
  on = λ n less goes. stage_same is_running part p.work n goes;
  gone =
      λ n less goes.
      false_from_ne_true (has_stage is_running p.work n)
      (λ is. both_ways (part.tasks n) goes (running_goes part p n consistent go is));
}

pub running_renumbered : (part : Part) (p : State) → IsConsistent p → WorkHangs part p.work
    → running_tasks (work_renumbered part p.work)
    ≡ map (new_number part.tasks) (running_tasks p.work)
running_renumbered part p consistent go =
    ap (λ many. filter (has_stage is_running (work_renumbered part p.work)) (range_with_len 0 many))
    (length-renumbered part.tasks (task_renumbered part) p.work.tasks)
    ∙ picks_renumbered part.tasks (has_stage is_running p.work)
    (has_stage is_running (work_renumbered part p.work))
    (length p.work.tasks) (running_pass part p consistent go)

all_filtered : (P : ℕ → Type 0) (test : ℕ → Bool) (ns : List ℕ)
    → ((n : ℕ) → test n ≡ true → P n) → AllByRecursion P (filter test ns)
all_filtered P test [] is = tt
all_filtered P test (n ∷ ns) is = by_test (test n) refl (all_filtered P test ns is)
  where
    by_test : (b : Bool) → test n ≡ b → AllByRecursion P (filter test ns)
        → AllByRecursion P (cond b (n ∷ filter test ns) (filter test ns))
    by_test true passes rest = (is n passes, rest)
    by_test false passes rest = rest

pub all_running_go : (part : Part) (p : State) → IsConsistent p → WorkHangs part p.work
    → AllByRecursion (λ n. part.tasks n ≡ true) (running_tasks p.work)
all_running_go part p consistent go =
    all_filtered (λ n. part.tasks n ≡ true) (has_stage is_running p.work)
    (range_with_len 0 (length p.work.tasks))
    (λ n is. running_goes part p n consistent go is)

-- ---- the task that is started next

ready_same : (part : Part) (p : State) (n : ℕ) → TasksHang part p.work.tasks
    → part.tasks n ≡ true
    → is_ready (work_renumbered part p.work) (new_number part.tasks n) ≡ is_ready p.work n
ready_same part p n go is =
    row_renumbered
    (λ o. option_map_or (λ task. is_fresh task.stage
    && is_admitted (work_renumbered part p.work) (new_number part.tasks n) task) o false)
    (λ o. option_map_or (λ task. is_fresh task.stage && is_admitted p.work n task) o false)
    part.tasks (task_renumbered part) p.work.tasks n refl
    (λ row at. ap (λ b. is_fresh row.stage && b) (admitted_renumbered part p.work n row go at is))
    is

pub ready_goes : (part : Part) (p : State) (n : ℕ) → IsConsistent p → WorkHangs part p.work
    → is_ready p.work n ≡ true → part.tasks n ≡ true
ready_goes part p n consistent go is =
    let row =
    passing (λ task. is_fresh task.stage && is_admitted p.work n task) (slice_get p.work.tasks n)
    is in
    let fresh = and_parts (is_fresh row.0.stage) (is_admitted p.work n row.0) row.2 in
    unfinished_goes part p n row.0 consistent go row.1 (fresh_stage row.0.stage fresh.0).0

pub first_renumbered : (part : Part) (p : State) → IsConsistent p → WorkHangs part p.work
    → first_ready (work_renumbered part p.work)
    ≡ option_map (new_number part.tasks) (first_ready p.work)
first_renumbered part p consistent go =
    ap (λ many. find (is_ready (work_renumbered part p.work)) (range_with_len 0 many))
    (length-renumbered part.tasks (task_renumbered part) p.work.tasks)
    ∙ find_renumbered part.tasks (is_ready p.work) (is_ready (work_renumbered part p.work))
    (length p.work.tasks)
    (record {
      on = λ n less goes. ready_same part p n go.tasks goes;
      gone =
          λ n less goes.
          false_from_ne_true (is_ready p.work n)
          (λ is. both_ways (part.tasks n) goes (ready_goes part p n consistent go is));
    })

-- ---- retries

-- A task goes on exactly where the one that it is a retry of does.
link_goes : (part : Part) (p : State) (k m : ℕ) (row : Task) → IsConsistent p
    → TasksHang part p.work.tasks → HasRow p.work.tasks k row → row.retry_of ≡ Some m
    → part.tasks m ≡ part.tasks k
link_goes part p k m row consistent go found link =
    let was = consistent.links.linked k m row found link in
    go m was.0 was.1 ∙ ap part.groups (sym was.2.group) ∙ sym (go k row found)

pub retried_renumbered : (part : Part) (p : State) (n : ℕ) → IsConsistent p
    → TasksHang part p.work.tasks → part.tasks n ≡ true
    → is_retried (work_renumbered part p.work) (new_number part.tasks n) ≡ is_retried p.work n
retried_renumbered part p n consistent go is =
    any_renumbered part.tasks (task_renumbered part) (is_retry_of n)
    (is_retry_of (new_number part.tasks n))
    p.work.tasks
    (record {
      on = λ k x found goes. on k x found goes x.retry_of refl;
      gone = λ k x found goes. gone k x found goes x.retry_of refl;
    })
  where
    on : (k : ℕ) (x : Task) → HasRow p.work.tasks k x → part.tasks k ≡ true → (o : Option ℕ)
        → x.retry_of ≡ o
        → option_map_or (λ m. m == new_number part.tasks n)
        (option_map (new_number part.tasks) o) false
        ≡ option_map_or (λ m. m == n) o false
    on k x found goes None at = refl
    on k x found goes (Some m) at =
        same_number part.tasks m n (link_goes part p k m x consistent go found at ∙ goes) is

    gone : (k : ℕ) (x : Task) → HasRow p.work.tasks k x → part.tasks k ≡ false → (o : Option ℕ)
        → x.retry_of ≡ o → option_map_or (λ m. m == n) o false ≡ false
    gone k x found goes None at = refl
    gone k x found goes (Some m) at =
        false_from_ne_true (m == n)
        (λ same.
        both_ways (part.tasks n)
        (ap part.tasks (sym (eqb-true m n same))
        ∙ link_goes part p k m x consistent go found at
        ∙ goes) is)

-- ---- the group of a retried task

none_open : (w : WorkState) → is_open w (length w.groups) ≡ false
none_open w =
    ap (λ o. option_map_or (λ group. not group.waited) o false)
    (slice_get_past w.groups (length w.groups) (omega arith))

pub retry_open : (part : Part) (w : WorkState) (n : ℕ) → TasksHang part w.tasks
    → part.tasks n ≡ true
    → is_open (work_renumbered part w)
    (group_of_task (work_renumbered part w) (new_number part.tasks n))
    ≡ is_open w (group_of_task w n)
retry_open part w n go is =
    row_renumbered
    (λ o. is_open (work_renumbered part w)
    (option_map_or (λ task. task.group) o (length (work_renumbered part w).groups)))
    (λ o. is_open w (option_map_or (λ task. task.group) o (length w.groups))) part.tasks
    (task_renumbered part) w.tasks n (none_open (work_renumbered part w) ∙ sym (none_open w))
    (λ row at. open_renumbered part w row.group (sym (go n row at) ∙ is)) is

-- ---- rows that are kept

pub group_stays : (p : State) (g : ℕ) (row : Group) → HasRow p.work.groups g row
    → keeps_group p g ≡ true
    → HasRow (renewed p).work.groups (new_number (keeps_group p) g) (group_renewed p row)
group_stays p g row found is =
    (are_restated (keeps_group p) (group_renewed p) p.work.groups).forth g row found is

pub task_stays : (p : State) (n : ℕ) (row : Task) → HasRow p.work.tasks n row
    → keeps_task p n ≡ true
    → HasRow (renewed p).work.tasks (new_number (keeps_task p) n) (task_renewed p row)
task_stays p n row found is =
    (are_restated (keeps_task p) (task_renewed p) p.work.tasks).forth n row found is
