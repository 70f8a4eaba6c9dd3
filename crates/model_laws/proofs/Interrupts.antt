-- The effect of a restart on the rows.
use Rattle.run_model.proofs.Common.{◌≡◌, ◌+◌, ◌==◌, ◌&&◌, ℕ, Bool, true, false, List, [], ◌∷◌}
use Rattle.run_model.proofs.Common.{length, map, fold, Option, Some, None, slice_get, refl, sym}
use Rattle.run_model.proofs.Common.{ap, ◌∙◌, arith, list_any, option_map, option_map_or}
use Rattle.run_model.proofs.Common.{option_and_then, option_or, not, if◌then◌else◌, slice_get-map}
use Rattle.run_model.proofs.Common.{slice_get_within, at_row, State, TreeState, WorkState, step}
use Rattle.run_model.proofs.Common.{own_scope, after_task_end, is_running, running_tasks}
use Rattle.run_model.proofs.Common.{has_stage, with_hit, after_cancel, new_hit, with_stage}
use Rattle.run_model.proofs.Common.{with_error, group_of_task, after_interrupt, interruption}
use Rattle.run_model.proofs.Common.{length-at_row}
use Rattle.run_model.specs.declared.groups.Group.{Group}
use Rattle.run_model.specs.declared.scopes.Hit.{Hit}
use Rattle.run_model.specs.declared.scopes.Scope.{Scope}
use Rattle.run_model.specs.declared.tasks.Stage.{Stage}
use Rattle.run_model.specs.declared.tasks.Stage.TheVariants as stage
use Rattle.run_model.specs.declared.tasks.Task.{Task}
use Rattle.run_model.specs.Event as event
use Rattle.run_model.specs.declared.scopes.Reason.TheVariants.{Canceled}
use Rattle.model_laws.specs.Restarts.{IsRestart, has_running, lives_in, hosts_running}
use Rattle.model_laws.specs.Restarts.{stage_restarted, error_restarted, hit_restarted}
use Rattle.model_laws.specs.Restarts.{task_restarted, group_restarted, scope_restarted}
use Rattle.model_laws.proofs.Folds.{same_rows, at_key, at_key_reads, is_key, changed_if}
use Rattle.model_laws.proofs.Folds.{fold_reads, any_picked, number_picked}
use Rattle.model_laws.proofs.LayoutStays.{tree_stays, work_stays}

-- ---- the folds of a restart, each over one list of rows

group_stays : (stage : Stage) (b : Bool) (o : Option Task) (none : ℕ)
    → option_map_or (λ task. task.group) (option_map (changed_if (with_stage stage) b) o) none
    ≡ option_map_or (λ task. task.group) o none
group_stays stage b None none = refl
group_stays stage true (Some task) none = refl
group_stays stage false (Some task) none = refl

pub group_of_task_stays : (stage : Stage) (n m : ℕ) (groups : List Group) (w : WorkState)
    → length groups ≡ length w.groups
    → group_of_task (record w { groups = groups; tasks = at_row (with_stage stage) n w.tasks }) m
    ≡ group_of_task w m
group_of_task_stays stage n m groups w same =
    ap (λ o. option_map_or (λ task. task.group) o (length groups))
    (at_key_reads (with_stage stage) (Some n) w.tasks m)
    ∙ group_stays stage (n == m) (slice_get w.tasks m) (length groups)
    ∙ ap (λ none. option_map_or (λ task. task.group) (slice_get w.tasks m) none) same

tasks_fold : (ns : List ℕ) (w : WorkState)
    → (fold after_interrupt w ns).tasks
    ≡ fold (λ rows n. at_key (with_stage stage.Interrupted) (Some n) rows) w.tasks ns
tasks_fold [] w = refl
tasks_fold (n ∷ ns) w = tasks_fold ns (after_interrupt w n)

groups_fold : (group_of : ℕ → ℕ) (ns : List ℕ) (w : WorkState)
    → ((n : ℕ) → group_of_task w n ≡ group_of n)
    → (fold after_interrupt w ns).groups
    ≡ fold (λ rows n. at_key (with_error interruption) (Some (group_of n)) rows) w.groups ns
groups_fold group_of [] w same = refl
groups_fold group_of (n ∷ ns) w same =
    groups_fold group_of ns (after_interrupt w n)
    (λ m.
    group_of_task_stays stage.Interrupted n m (after_interrupt w n).groups w
    (length-at_row (with_error interruption) (group_of_task w n) w.groups)
    ∙ same m)
    ∙ ap
    (λ g.
    fold (λ rows k. at_key (with_error interruption) (Some (group_of k)) rows)
    (at_row (with_error interruption) g w.groups) ns) (same n)

-- A cancellation of this scope, where there is one.
abbrev pub cancelled : ℕ → List ℕ → Option ℕ → TreeState → TreeState
cancelled e text key t = record t {
  scopes = at_key (with_hit (new_hit e t.clock Canceled (Some text))) key t.scopes;
}

group_end_is : (e : ℕ) (text : List ℕ) (key : Option ℕ) (t : TreeState)
    → option_map_or (λ s. after_cancel e s (Some text) t) key t ≡ cancelled e text key t
group_end_is e text None t = refl
group_end_is e text (Some s) t = refl

scopes_fold : (e : ℕ) (w : WorkState) (ns : List ℕ) (t : TreeState)
    → fold (λ t n. after_task_end e w n (Some interruption) t) t ns
    ≡ record t {
      scopes =
          fold
          (λ rows n.
          at_key (with_hit (new_hit e t.clock Canceled (Some interruption)))
          (own_scope w (group_of_task w n)) rows) t.scopes ns;
    }
scopes_fold e w [] t = refl
scopes_fold e w (n ∷ ns) t =
    ap (λ u. fold (λ t n. after_task_end e w n (Some interruption) t) u ns)
    (group_end_is e interruption (own_scope w (group_of_task w n)) t)
    ∙ scopes_fold e w ns (cancelled e interruption (own_scope w (group_of_task w n)) t)

-- ---- a change that comes twice

or_else_twice : {X : Type 0} (o : Option X) (x : X)
    → option_or (option_or o (Some x)) (Some x) ≡ option_or o (Some x)
or_else_twice None x = refl
or_else_twice (Some y) x = refl

stage_twice : (row : Task)
    → with_stage stage.Interrupted (with_stage stage.Interrupted row)
    ≡ with_stage stage.Interrupted row
stage_twice row = refl

error_twice : (text : List ℕ) (row : Group)
    → with_error text (with_error text row) ≡ with_error text row
error_twice text row = ap (λ error. record row { error = error }) (or_else_twice row.error text)

pub hit_twice : (hit : Hit) (row : Scope) → with_hit hit (with_hit hit row) ≡ with_hit hit row
hit_twice hit row = ap (λ hit. record row { hit = hit }) (or_else_twice row.hit hit)

-- ---- the tasks that a restart goes through

running_found : (w : WorkState) (n : ℕ) (row : Task) → slice_get w.tasks n ≡ Some row
    → has_stage is_running w n ≡ is_running row.stage
running_found w n row found =
    ap (λ o. option_map_or (λ task. is_running task.stage) o false) found

group_found : (w : WorkState) (n : ℕ) (row : Task) → slice_get w.tasks n ≡ Some row
    → group_of_task w n ≡ row.group
group_found w n row found =
    ap (λ o. option_map_or (λ task. task.group) o (length w.groups)) found

option_map_same : {X Y : Type 0} (f g : X → Y) (o : Option X)
    → ((x : X) → o ≡ Some x → f x ≡ g x) → option_map f o ≡ option_map g o
option_map_same f g None same = refl
option_map_same f g (Some x) same = ap Some (same x refl)

-- Of a group that passes, a task that runs is one of those that a restart goes through.
any_of_group : (test pass : ℕ → Bool) (w : WorkState) → ((g : ℕ) → test g ≡ pass g)
    → list_any (λ n. test (group_of_task w n)) (running_tasks w)
    ≡ list_any (λ task. pass task.group && is_running task.stage) w.tasks
any_of_group test pass w same =
    any_picked (has_stage is_running w) (λ n. test (group_of_task w n))
    (λ task. pass task.group && is_running task.stage) w.tasks 0
    (λ n m row found e.
    let at : m ≡ n = omega (arith, e) in
    let here : slice_get w.tasks m ≡ Some row = rw at found in
    rw (running_found w m row here, group_found w m row here, same row.group) refl)

-- ---- a row by its cases

stage_by : (s : Stage) → (if is_running s then stage.Interrupted else s) ≡ stage_restarted s
stage_by stage.Fresh = refl
stage_by stage.Running = refl
stage_by stage.Success = refl
stage_by (stage.Failure text) = refl
stage_by stage.Interrupted = refl

task_if : (b : Bool) (row : Task)
    → changed_if (with_stage stage.Interrupted) b row
    ≡ record row { stage = if b then stage.Interrupted else row.stage }
task_if true row = refl
task_if false row = refl

task_by : (row : Task)
    → changed_if (with_stage stage.Interrupted) (is_running row.stage) row ≡ task_restarted row
task_by row =
    task_if (is_running row.stage) row ∙ ap (λ s. record row { stage = s }) (stage_by row.stage)

error_by : (b : Bool) (o : Option (List ℕ))
    → (if b then option_or o (Some interruption) else o) ≡ error_restarted b o
error_by true None = refl
error_by true (Some text) = refl
error_by false None = refl
error_by false (Some text) = refl

group_if : (b : Bool) (row : Group)
    → changed_if (with_error interruption) b row
    ≡ record row { error = if b then option_or row.error (Some interruption) else row.error }
group_if true row = refl
group_if false row = refl

group_by : (b : Bool) (row : Group)
    → changed_if (with_error interruption) b row
    ≡ record row { error = error_restarted b row.error }
group_by b row =
    group_if b row ∙ ap (λ error. record row { error = error }) (error_by b row.error)

hit_by : (b : Bool) (hit : Hit) (o : Option Hit)
    → (if b then option_or o (Some hit) else o) ≡ hit_restarted b hit o
hit_by true hit None = refl
hit_by true hit (Some old) = refl
hit_by false hit None = refl
hit_by false hit (Some old) = refl

scope_if : (b : Bool) (hit : Hit) (row : Scope)
    → changed_if (with_hit hit) b row
    ≡ record row { hit = if b then option_or row.hit (Some hit) else row.hit }
scope_if true hit row = refl
scope_if false hit row = refl

scope_by : (b : Bool) (hit : Hit) (row : Scope)
    → changed_if (with_hit hit) b row ≡ record row { hit = hit_restarted b hit row.hit }
scope_by b hit row =
    scope_if b hit row ∙ ap (λ o. record row { hit = o }) (hit_by b hit row.hit)

lives_if : (b : Bool) (scope s : ℕ)
    → is_key s (if b then None else Some scope) ≡ (not b && scope == s)
lives_if true scope s = refl
lives_if false scope s = refl

lives_by : (o : Option Group) (s : ℕ)
    → is_key s (option_and_then (λ group. if group.bare then None else Some group.scope) o)
    ≡ option_map_or (λ group. not group.bare && group.scope == s) o false
lives_by None s = refl
lives_by (Some row) s = lives_if row.bare row.scope s

-- ---- the rows after a restart

task_at : (w : WorkState) (m : ℕ)
    → slice_get (fold after_interrupt w (running_tasks w)).tasks m
    ≡ option_map task_restarted (slice_get w.tasks m)
task_at w m =
    ap (λ rows. slice_get rows m) (tasks_fold (running_tasks w) w)
    ∙ fold_reads (with_stage stage.Interrupted) stage_twice (λ n. Some n) (running_tasks w)
    w.tasks m
    ∙ option_map_same
    (changed_if (with_stage stage.Interrupted) (list_any (λ n. n == m) (running_tasks w)))
    task_restarted (slice_get w.tasks m)
    (λ row found.
    ap (λ b. changed_if (with_stage stage.Interrupted) b row)
    (number_picked (has_stage is_running w) m 0 (length w.tasks) (omega arith)
    (omega (arith, slice_get_within w.tasks m row found))
    ∙ running_found w m row found)
    ∙ task_by row)

group_at : (p : State) (g : ℕ)
    → slice_get (fold after_interrupt p.work (running_tasks p.work)).groups g
    ≡ option_map (group_restarted p g) (slice_get p.work.groups g)
group_at p g =
    ap (λ rows. slice_get rows g)
    (groups_fold (group_of_task p.work) (running_tasks p.work) p.work (λ n. refl))
    ∙ fold_reads (with_error interruption) (error_twice interruption)
    (λ n. Some (group_of_task p.work n)) (running_tasks p.work) p.work.groups g
    ∙ ap (λ b. option_map (changed_if (with_error interruption) b) (slice_get p.work.groups g))
    (any_of_group (λ h. h == g) (λ h. h == g) p.work (λ h. refl))
    ∙ option_map_same (changed_if (with_error interruption) (has_running p.work g))
    (group_restarted p g) (slice_get p.work.groups g)
    (λ row found. group_by (has_running p.work g) row)

scope_at : (p : State) (s : ℕ)
    → slice_get
    (fold (λ t n. after_task_end (p.count + 1) p.work n (Some interruption) t) p.tree
    (running_tasks p.work)).scopes s
    ≡ option_map (scope_restarted p s) (slice_get p.tree.scopes s)
scope_at p s =
    let w = p.work in
    let hit = new_hit (p.count + 1) p.tree.clock Canceled (Some interruption) in
    ap (λ t. slice_get t.scopes s) (scopes_fold (p.count + 1) w (running_tasks w) p.tree)
    ∙ fold_reads (with_hit hit) (hit_twice hit) (λ n. own_scope w (group_of_task w n))
    (running_tasks w) p.tree.scopes s
    ∙ ap (λ b. option_map (changed_if (with_hit hit) b) (slice_get p.tree.scopes s))
    (any_of_group (λ g. is_key s (own_scope w g)) (λ g. lives_in w g s) w
    (λ g. lives_by (slice_get w.groups g) s))
    ∙ option_map_same (changed_if (with_hit hit) (hosts_running w s)) (scope_restarted p s)
    (slice_get p.tree.scopes s) (λ row found. scope_by (hosts_running w s) hit row)

not_running : (s : Stage) → is_running (stage_restarted s) ≡ false
not_running stage.Fresh = refl
not_running stage.Running = refl
not_running stage.Success = refl
not_running (stage.Failure text) = refl
not_running stage.Interrupted = refl

none_runs : (o : Option Task)
    → option_map_or (λ task. is_running task.stage) (option_map task_restarted o) false ≡ false
none_runs None = refl
none_runs (Some row) = not_running row.stage

-- A restart leaves the state that the law describes.
pub restarted : (p : State) → IsRestart p (step p event.Restart)
restarted p = record {
  counted = refl;
  tree_layout = tree_stays p event.Restart;
  work_layout = work_stays p event.Restart;
  clock = ap (λ t. t.clock) (scopes_fold (p.count + 1) p.work (running_tasks p.work) p.tree);
  none_running =
      λ n.
      ap (λ o. option_map_or (λ task. is_running task.stage) o false) (task_at p.work n)
      ∙ none_runs (slice_get p.work.tasks n);
  tasks =
      same_rows (fold after_interrupt p.work (running_tasks p.work)).tasks
      (map task_restarted p.work.tasks)
      (λ m. task_at p.work m ∙ sym (slice_get-map task_restarted p.work.tasks m));
  groups = λ g. group_at p g;
  scopes = λ s. scope_at p s;
}
