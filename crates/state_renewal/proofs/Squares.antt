-- Changing a state and then taking the part that goes on gives the same as changing the part.
use Rattle.run_model.proofs.Common.{◌≡◌, ℕ, Bool, true, false, List, [], ◌∷◌, ◌++◌, length, Option}
use Rattle.run_model.proofs.Common.{Some, None, slice_get, refl, sym, ap, ◌∙◌, arith}
use Rattle.run_model.proofs.Common.{option_and_then, option_map, option_map_or, if◌then◌else◌}
use Rattle.run_model.proofs.Common.{at_row, new_group, new_scope, new_task, TreeState, WorkState}
use Rattle.run_model.proofs.Common.{after_group_cancel, after_task_end, own_scope, after_advance}
use Rattle.run_model.proofs.Common.{after_cancel, after_derive, hit_due, tick, with_hit, new_hit}
use Rattle.run_model.proofs.Common.{after_end, after_limit, after_make, retried_row, after_wait}
use Rattle.run_model.proofs.Common.{group_of_task, groups_after, with_error, with_limit}
use Rattle.run_model.proofs.Common.{with_stage, with_wait}
use Rattle.run_model.specs.declared.groups.Group.{Group}
use Rattle.run_model.specs.declared.scopes.Hit.{Hit}
use Rattle.run_model.specs.declared.scopes.Kind.{Kind}
use Rattle.run_model.specs.declared.scopes.Scope.{Scope}
use Rattle.run_model.specs.declared.tasks.Stage.{Stage}
use Rattle.run_model.specs.declared.tasks.Task.{Task}
use Rattle.run_model.specs.WorkChanges.{after_go, after_retry}
use Rattle.run_model.specs.declared.scopes.Reason.TheVariants.{Canceled}
use Rattle.model_laws.proofs.Ends.{owner_found}
use Rattle.state_renewal.specs.Renewed.{
  new_number,
  Part,
  group_renumbered,
  rows_renumbered,
  scope_renumbered,
}
use Rattle.state_renewal.specs.Renewed.{task_renumbered, tree_renumbered, work_renumbered}
use Rattle.state_renewal.proofs.Goes.{GroupsGo, WorkGoes}
use Rattle.state_renewal.proofs.RowsRenumbered.{
  renumbered_at,
  renumbered_get,
  renumbered_map,
  renumbered_push,
  length-renumbered,
}
use Rattle.state_renewal.proofs.RowsRenumbered.{row_renumbered}

-- ---- the tree

tick_renumbered : (part : Part) (e clock : ℕ) (row : Scope)
    → tick e clock (scope_renumbered part row) ≡ scope_renumbered part (tick e clock row)
tick_renumbered part e clock row = by_hit (hit_due e clock row.kind)
  where
    by_hit : (o : Option Hit)
        → option_map_or (λ hit. with_hit hit (scope_renumbered part row)) o
        (scope_renumbered part row)
        ≡ scope_renumbered part (option_map_or (λ hit. with_hit hit row) o row)
    by_hit None = refl
    by_hit (Some hit) = refl

pub derive_renumbered : (part : Part) (e : ℕ) (name : List ℕ) (parent : ℕ) (k : Kind)
    (t : TreeState)
    → part.scopes (length t.scopes) ≡ true
    → after_derive e name (new_number part.scopes parent) k (tree_renumbered part t)
    ≡ tree_renumbered part (after_derive e name parent k t)
derive_renumbered part e name parent k t is =
    let row : Scope = new_scope name parent k in
    ap (λ new. record t {
      scopes = rows_renumbered part.scopes (scope_renumbered part) t.scopes ++ new ∷ [];
    }) (tick_renumbered part e t.clock row)
    ∙ ap (λ rows. record t { scopes = rows })
    (renumbered_push part.scopes (scope_renumbered part) t.scopes (tick e t.clock row) is)

pub cancel_renumbered : (part : Part) (e s : ℕ) (cause : Option (List ℕ)) (t : TreeState)
    → part.scopes s ≡ true
    → after_cancel e (new_number part.scopes s) cause (tree_renumbered part t)
    ≡ tree_renumbered part (after_cancel e s cause t)
cancel_renumbered part e s cause t is =
    ap (λ rows. record t { scopes = rows })
    (renumbered_at part.scopes (scope_renumbered part)
    (with_hit (new_hit e t.clock Canceled cause)) s t.scopes is
    (λ row. refl))

pub advance_renumbered : (part : Part) (e moment : ℕ) (t : TreeState)
    → after_advance e moment (tree_renumbered part t) ≡ tree_renumbered part
    (after_advance e moment t)
advance_renumbered part e moment t =
    ap (λ rows. record t { clock = moment; scopes = rows })
    (renumbered_map part.scopes (scope_renumbered part) (tick e moment) t.scopes
    (λ row. sym (tick_renumbered part e moment row)))

-- ---- a group's scope, a task's group

own_renumbered : (part : Part) (w : WorkState) (g : ℕ) → part.groups g ≡ true
    → own_scope (work_renumbered part w) (new_number part.groups g)
    ≡ option_map (new_number part.scopes) (own_scope w g)
own_renumbered part w g is =
    row_renumbered (option_and_then (λ group. if group.bare then None else Some group.scope))
    (λ o. option_map (new_number part.scopes)
    (option_and_then (λ group. if group.bare then None else Some group.scope) o)) part.groups
    (group_renumbered part) w.groups g refl (λ row at. by_bare row.bare row.scope) is
  where
    by_bare : (b : Bool) (s : ℕ)
        → (if b then None else Some (new_number part.scopes s))
        ≡ option_map (new_number part.scopes) (if b then None else Some s)
    by_bare true s = refl
    by_bare false s = refl

pub ended_renumbered : (part : Part) (e : ℕ) (w : WorkState) (g : ℕ) (cause : Option (List ℕ))
    (t : TreeState) → GroupsGo part w.groups → part.groups g ≡ true
    → after_group_cancel e (work_renumbered part w) (new_number part.groups g) cause
    (tree_renumbered part t)
    ≡ tree_renumbered part (after_group_cancel e w g cause t)
ended_renumbered part e w g cause t go is =
    ap (λ o. option_map_or (λ s. after_cancel e s cause (tree_renumbered part t)) o
    (tree_renumbered part t))
    (own_renumbered part w g is)
    ∙ by_scope (own_scope w g) refl
  where
    by_scope : (o : Option ℕ) → own_scope w g ≡ o
        → option_map_or (λ s. after_cancel e s cause (tree_renumbered part t))
        (option_map (new_number part.scopes) o) (tree_renumbered part t)
        ≡ tree_renumbered part (option_map_or (λ s. after_cancel e s cause t) o t)
    by_scope None at = refl
    by_scope (Some s) at =
        let owner = owner_found w g s (slice_get w.groups g) refl at in
        cancel_renumbered part e s cause t
        (ap part.scopes (sym owner.1.scope) ∙ (go.each g owner.0 owner.1.found).scope is)

group_of_renumbered : (part : Part) (w : WorkState) (n : ℕ) → part.tasks n ≡ true
    → group_of_task (work_renumbered part w) (new_number part.tasks n)
    ≡ new_number part.groups (group_of_task w n)
group_of_renumbered part w n is =
    row_renumbered
    (λ o. option_map_or (λ task. task.group) o (length (work_renumbered part w).groups))
    (λ o. new_number part.groups (option_map_or (λ task. task.group) o (length w.groups)))
    part.tasks (task_renumbered part) w.tasks n
    (length-renumbered part.groups (group_renumbered part) w.groups)
    (λ row at. refl) is

group_goes : (part : Part) (w : WorkState) (n : ℕ) → WorkGoes part w → part.tasks n ≡ true
    → part.groups (group_of_task w n) ≡ true
group_goes part w n go is = by_row (slice_get w.tasks n) refl
  where
    by_row : (o : Option Task) → slice_get w.tasks n ≡ o
        → part.groups (option_map_or (λ task. task.group) o (length w.groups)) ≡ true
    by_row None at = go.groups.later (length w.groups) (omega arith)
    by_row (Some row) at = sym (go.tasks.each n row at) ∙ is

pub task_end_renumbered : (part : Part) (e : ℕ) (w : WorkState) (n : ℕ) (error : Option (List ℕ))
    (t : TreeState) → WorkGoes part w → part.tasks n ≡ true
    → after_task_end e (work_renumbered part w) (new_number part.tasks n) error
    (tree_renumbered part t)
    ≡ tree_renumbered part (after_task_end e w n error t)
task_end_renumbered part e w n None t go is = refl
task_end_renumbered part e w n (Some text) t go is =
    ap (λ g. after_group_cancel e (work_renumbered part w) g (Some text) (tree_renumbered part t))
    (group_of_renumbered part w n is)
    ∙ ended_renumbered part e w (group_of_task w n) (Some text) t go.groups
    (group_goes part w n go is)

-- ---- the work

-- The work with these groups in place of its own, and what goes on of its tasks.
abbrev with_groups : Part → WorkState → List Group → WorkState
with_groups part w groups =
    record w { groups = groups; tasks = rows_renumbered part.tasks (task_renumbered part) w.tasks }

-- The work with these tasks in place of its own, and what goes on of its groups.
abbrev with_tasks : Part → WorkState → List Task → WorkState
with_tasks part w tasks =
    record w {
      groups = rows_renumbered part.groups
          (group_renumbered part) w.groups;
      tasks = tasks;
    }

pub make_renumbered : (part : Part) (name : List ℕ) (s : ℕ) (b : Bool) (w : WorkState)
    → part.groups (length w.groups) ≡ true
    → after_make name (new_number part.scopes s) b (work_renumbered part w)
    ≡ work_renumbered part (after_make name s b w)
make_renumbered part name s b w is =
    ap (with_groups part w)
    (renumbered_push part.groups (group_renumbered part) w.groups (new_group name s b) is)

pub limit_renumbered : (part : Part) (g : ℕ) (limit : Option ℕ) (w : WorkState)
    → part.groups g ≡ true
    → after_limit (new_number part.groups g) limit (work_renumbered part w)
    ≡ work_renumbered part (after_limit g limit w)
limit_renumbered part g limit w is =
    ap (with_groups part w)
    (renumbered_at part.groups (group_renumbered part) (with_limit limit) g w.groups is
    (λ row. refl))

pub wait_renumbered : (part : Part) (g : ℕ) (w : WorkState) → part.groups g ≡ true
    → after_wait (new_number part.groups g) (work_renumbered part w)
    ≡ work_renumbered part (after_wait g w)
wait_renumbered part g w is =
    ap (with_groups part w)
    (renumbered_at part.groups (group_renumbered part) with_wait g w.groups is (λ row. refl))

pub go_renumbered : (part : Part) (g : ℕ) (job argument : List ℕ) (w : WorkState)
    → part.tasks (length w.tasks) ≡ true
    → after_go (new_number part.groups g) job argument (work_renumbered part w)
    ≡ work_renumbered part (after_go g job argument w)
go_renumbered part g job argument w is =
    ap (with_tasks part w)
    (renumbered_push part.tasks (task_renumbered part) w.tasks (new_task g job argument None) is)

pub retry_renumbered : (part : Part) (n : ℕ) (w : WorkState) → part.tasks (length w.tasks) ≡ true
    → part.tasks n ≡ true
    → after_retry (new_number part.tasks n) (work_renumbered part w)
    ≡ work_renumbered part (after_retry n w)
retry_renumbered part n w later is =
    ap (λ o. option_map_or
    (λ row. record (work_renumbered part w) {
      tasks = (work_renumbered part w).tasks ++ retried_row (new_number part.tasks n) row ∷ [];
    }) o (work_renumbered part w))
    (renumbered_get part.tasks (task_renumbered part) w.tasks n is)
    ∙ by_row (slice_get w.tasks n)
  where
    by_row : (o : Option Task)
        → option_map_or
        (λ row. record (work_renumbered part w) {
          tasks = (work_renumbered part w).tasks ++ retried_row (new_number part.tasks n) row ∷ [];
        }) (option_map (task_renumbered part) o) (work_renumbered part w)
        ≡ work_renumbered part
        (option_map_or (λ row. record w { tasks = w.tasks ++ retried_row n row ∷ [] }) o w)
    by_row None = refl
    by_row (Some row) =
        ap (with_tasks part w)
        (renumbered_push part.tasks (task_renumbered part) w.tasks (retried_row n row) later)

pub stage_renumbered : (part : Part) (n : ℕ) (stage : Stage) (w : WorkState) → part.tasks n ≡ true
    → record (work_renumbered part w) {
      tasks = at_row (with_stage stage) (new_number part.tasks n) (work_renumbered part w).tasks;
    } ≡ work_renumbered part (record w { tasks = at_row (with_stage stage) n w.tasks })
stage_renumbered part n stage w is =
    ap (with_tasks part w)
    (renumbered_at part.tasks (task_renumbered part) (with_stage stage) n w.tasks is (λ row. refl))

errors_renumbered : (part : Part) (g : ℕ) (error : Option (List ℕ)) (groups : List Group)
    → part.groups g ≡ true
    → groups_after (new_number part.groups g) error
    (rows_renumbered part.groups (group_renumbered part) groups)
    ≡ rows_renumbered part.groups (group_renumbered part) (groups_after g error groups)
errors_renumbered part g None groups is = refl
errors_renumbered part g (Some text) groups is =
    renumbered_at part.groups (group_renumbered part) (with_error text) g groups is (λ row. refl)

pub end_renumbered : (part : Part) (n : ℕ) (stage : Stage) (error : Option (List ℕ)) (w : WorkState)
    → WorkGoes part w → part.tasks n ≡ true
    → after_end (new_number part.tasks n) stage error (work_renumbered part w)
    ≡ work_renumbered part (after_end n stage error w)
end_renumbered part n stage error w go is =
    let new = new_number part.tasks n in
    let tasks : List Task =
    at_row (with_stage stage) new (rows_renumbered part.tasks (task_renumbered part) w.tasks) in
    ap (λ g. record w {
      groups = groups_after g error (rows_renumbered part.groups (group_renumbered part) w.groups);
      tasks = tasks;
    }) (group_of_renumbered part w n is)
    ∙ ap (λ groups. record w { groups = groups; tasks = tasks })
    (errors_renumbered part (group_of_task w n) error w.groups (group_goes part w n go is))
    ∙ ap (λ rows. record w {
      groups =
          rows_renumbered part.groups (group_renumbered part)
          (groups_after (group_of_task w n) error w.groups);
      tasks = rows;
    })
    (renumbered_at part.tasks (task_renumbered part) (with_stage stage) n w.tasks is (λ row. refl))
