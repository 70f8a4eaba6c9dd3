-- The effect of a restart on the facts about commands.
use Rattle.std.proofs.Common.{◌≡◌, ◌∙◌, ◌&&◌, ℕ, Bool, true, false, cond, List}
use Rattle.std.proofs.Common.{Option, Some, None, slice_get, length, refl, ap}
use Rattle.std.proofs.lemmas.List.{length-map}
use Rattle.std.proofs.lemmas.Option.{slice_get-map}
use Rattle.std.specs.Option.{option_map, option_map_or}
use Rattle.std.specs.Str.{bytes_eq}
use Rattle.run_model.specs.declared.groups.Group.{Group}
use Rattle.run_model.specs.declared.scopes.Scope.{Scope}
use Rattle.run_model.specs.declared.tasks.Stage.{Stage}
use Rattle.run_model.specs.declared.tasks.Stage.TheVariants as stage
use Rattle.run_model.specs.declared.tasks.Task.{Task}
use Rattle.run_model.specs.State.{State}
use Rattle.run_model.specs.Tasks.{has_stage}
use Rattle.model_laws.specs.Restarts.{IsRestart, group_restarted, scope_restarted}
use Rattle.model_laws.specs.Restarts.{stage_restarted, task_restarted}
use Rattle.night_plan.specs.declared.facts.Known.{Known}
use Rattle.night_plan.specs.declared.facts.Phase.{Phase}
use Rattle.night_plan.specs.declared.facts.Phase.TheVariants.{Canceled, Failed, Fresh}
use Rattle.night_plan.specs.Sessions.{reopened}
use Rattle.night_drive.specs.Openings.{interrupted}
use Rattle.night_drive.specs.Searches.{count_below, last_below}
use Rattle.night_drive.specs.Seen.{is_owned, is_try, known_of, phase_after}
use Rattle.night_drive.specs.Tries.{counts, has_failed, is_cancel, phase_by}
use Rattle.night_drive.proofs.Searching.{count_alike, last_alike}
use Rattle.night_drive.proofs.Staying.{KeepsGroups, KeepsScopes, owned_stays, unhit, unmarked}

-- ---- a try

scopes_keep : (p q : State) → IsRestart p q → KeepsScopes p.tree.scopes q.tree.scopes
scopes_keep p q restart s =
    ap (option_map unhit) (restart.scopes s) ∙ by_row (slice_get p.tree.scopes s)
  where
    by_row : (o : Option Scope)
        → option_map unhit (option_map (scope_restarted p s) o) ≡ option_map unhit o
    by_row None = refl
    by_row (Some row) = refl

groups_keep : (p q : State) → IsRestart p q → KeepsGroups p.work.groups q.work.groups
groups_keep p q restart g =
    ap (option_map unmarked) (restart.groups g) ∙ by_row (slice_get p.work.groups g)
  where
    by_row : (o : Option Group)
        → option_map unmarked (option_map (group_restarted p g) o) ≡ option_map unmarked o
    by_row None = refl
    by_row (Some row) = refl

counts_stays : (s : Stage) → counts (stage_restarted s) ≡ counts s
counts_stays stage.Fresh = refl
counts_stays stage.Running = refl
counts_stays stage.Success = refl
counts_stays (stage.Failure text) = refl
counts_stays stage.Interrupted = refl

failed_stays : (s : Stage) → has_failed (stage_restarted s) ≡ has_failed s
failed_stays stage.Fresh = refl
failed_stays stage.Running = refl
failed_stays stage.Success = refl
failed_stays (stage.Failure text) = refl
failed_stays stage.Interrupted = refl

-- The row of a task, once it was restarted.
task_at : (p q : State) → IsRestart p q → (n : ℕ)
    → slice_get q.work.tasks n ≡ option_map task_restarted (slice_get p.work.tasks n)
task_at p q restart n =
    ap (λ (tasks : List Task). slice_get tasks n) restart.tasks
    ∙ slice_get-map task_restarted p.work.tasks n

try_stays : (p q : State) → IsRestart p q → (night : Option (List ℕ)) (group key : List ℕ) (n : ℕ)
    → is_try q night group key n ≡ is_try p night group key n
try_stays p q restart night group key n =
    ap (λ o. option_map_or (λ task. bytes_eq task.argument key
    && (counts task.stage && is_owned q night group task.group)) o false) (task_at p q restart n)
    ∙ by_row (slice_get p.work.tasks n)
  where
    by_row : (o : Option Task)
        → option_map_or (λ task. bytes_eq task.argument key
        && (counts task.stage && is_owned q night group task.group)) (option_map task_restarted o)
        false
        ≡ option_map_or (λ task. bytes_eq task.argument key
        && (counts task.stage && is_owned p night group task.group)) o false
    by_row None = refl
    by_row (Some task) =
        ap (λ b. bytes_eq task.argument key && (b && is_owned q night group task.group))
        (counts_stays task.stage)
        ∙ ap (λ b. bytes_eq task.argument key && (counts task.stage && b))
        (owned_stays p q (scopes_keep p q restart) (groups_keep p q restart) night group task.group)

failure_stays : (p q : State) → IsRestart p q → (n : ℕ)
    → has_stage has_failed q.work n ≡ has_stage has_failed p.work n
failure_stays p q restart n =
    ap (λ o. option_map_or (λ task. has_failed task.stage) o false) (task_at p q restart n)
    ∙ by_row (slice_get p.work.tasks n)
  where
    by_row : (o : Option Task)
        → option_map_or (λ task. has_failed task.stage) (option_map task_restarted o) false
        ≡ option_map_or (λ task. has_failed task.stage) o false
    by_row None = refl
    by_row (Some task) = failed_stays task.stage

-- ---- the phase

phase_reopened : (moment : ℕ) (s : Stage)
    → phase_by moment (stage_restarted s) ≡ reopened (phase_by moment s)
phase_reopened moment stage.Fresh = refl
phase_reopened moment stage.Running = refl
phase_reopened moment stage.Success = refl
phase_reopened moment (stage.Failure text) = by_cancel (is_cancel text)
  where
    by_cancel : (b : Bool) → cond b Canceled (Failed moment)
        ≡ reopened (cond b Canceled (Failed moment))
    by_cancel true = refl
    by_cancel false = refl
phase_reopened moment stage.Interrupted = refl

phase_stays : (p q : State) → IsRestart p q → (ended : ℕ → ℕ) (last : Option ℕ)
    → phase_after q ended last ≡ reopened (phase_after p ended last)
phase_stays p q restart ended None = refl
phase_stays p q restart ended (Some n) =
    ap (λ o. option_map_or (λ task. phase_by (ended n) task.stage) o Fresh) (task_at p q restart n)
    ∙ by_row (slice_get p.work.tasks n)
  where
    by_row : (o : Option Task)
        → option_map_or (λ task. phase_by (ended n) task.stage) (option_map task_restarted o) Fresh
        ≡ reopened (option_map_or (λ task. phase_by (ended n) task.stage) o Fresh)
    by_row None = refl
    by_row (Some task) = phase_reopened (ended n) task.stage

-- ---- what is known

pub known_reopened : (p q : State) → IsRestart p q → (ended : ℕ → ℕ) (night : Option (List ℕ))
    (group key : List ℕ)
    → known_of q ended night group key ≡ interrupted (known_of p ended night group key)
known_reopened p q restart ended night group key =
    let size : length q.work.tasks ≡ length p.work.tasks =
    ap length restart.tasks ∙ length-map p.work.tasks task_restarted in
    let before = is_try p night group key in
    let after = is_try q night group key in
    let last : last_below after (length q.work.tasks) ≡ last_below before (length p.work.tasks) =
    ap (last_below after) size
    ∙ last_alike after before (try_stays p q restart night group key) (length p.work.tasks) in
    let failures : count_below (λ n. after n && has_stage has_failed q.work n)
    (length q.work.tasks)
    ≡ count_below (λ n. before n && has_stage has_failed p.work n) (length p.work.tasks) =
    ap (count_below (λ n. after n && has_stage has_failed q.work n)) size
    ∙ count_alike (λ n. after n && has_stage has_failed q.work n)
    (λ n. before n && has_stage has_failed p.work n)
    (λ n. ap (λ b. b && has_stage has_failed q.work n) (try_stays p q restart night group key n)
    ∙ ap (λ b. before n && b) (failure_stays p q restart n)) (length p.work.tasks) in
    let made : Phase → ℕ → Known =
    λ phase count. record { phase = phase; failures = count; canceled = false } in
    ap (λ phase. made phase (count_below (λ n. after n && has_stage has_failed q.work n)
    (length q.work.tasks))) (ap (phase_after q ended) last
    ∙ phase_stays p q restart ended (last_below before (length p.work.tasks)))
    ∙ ap (made (reopened (phase_after p ended (last_below before (length p.work.tasks))))) failures
