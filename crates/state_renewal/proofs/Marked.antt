-- If the flagged rows are the kept ones, the rows that the flags leave are the renewed state.
use Rattle.run_model.proofs.Common.{◌≡◌, ◌&&◌, ◌||◌, ℕ, Bool, true, false, not, List, [], ◌∷◌}
use Rattle.run_model.proofs.Common.{length, drop, map, slice_get, refl, sym, ap, ◌∙◌, option_map}
use Rattle.run_model.proofs.Common.{option_map_or, true≢false, length-map, slice_get_past, State}
use Rattle.run_model.specs.declared.groups.Group.{Group}
use Rattle.run_model.specs.declared.scopes.Scope.{Scope}
use Rattle.run_model.specs.declared.tasks.Task.{Task}
use Rattle.state_renewal.specs.Marks.{AreFlags, AreMarks, is_flagged, group_by, group_stays_at}
use Rattle.state_renewal.specs.Marks.{rows_left, scope_by, task_by, task_stays_at}
use Rattle.state_renewal.specs.Renewed.{kept, keeps_group, keeps_scope, keeps_task, new_number}
use Rattle.state_renewal.specs.Renewed.{renewed}
use Rattle.state_renewal.proofs.Flagging.{flags_all}
use Rattle.state_renewal.proofs.Numbers.{length-kept}

-- Two tests that agree everywhere are one.
one_test : (f g : ℕ → Bool) → ((n : ℕ) → f n ≡ g n) → f ≡ g
one_test f g same = λ i n. same n i

-- ---- the flags are those of a renewal

groups_are : (p : State) (scopes groups : List Bool)
    → ((s : ℕ) → is_flagged scopes s ≡ keeps_scope p s)
    → AreFlags (group_stays_at scopes p.work.groups) (length p.work.groups) groups → (g : ℕ)
    → is_flagged groups g ≡ keeps_group p g
groups_are p scopes groups kept so g =
    flags_all (group_stays_at scopes p.work.groups) (length p.work.groups) groups so
    (λ n past. ap (λ o. option_map_or
    (λ group. not group.waited || not group.bare && is_flagged scopes group.scope) o false)
    (slice_get_past p.work.groups n past)) g
    ∙ ap (λ f. option_map_or
    (λ group. not group.waited || not group.bare && f group.scope)
    (slice_get p.work.groups g) false)
    (one_test (is_flagged scopes) (keeps_scope p) kept)

tasks_are : (p : State) (groups tasks : List Bool)
    → ((g : ℕ) → is_flagged groups g ≡ keeps_group p g)
    → AreFlags (task_stays_at groups p.work.tasks) (length p.work.tasks) tasks → (n : ℕ)
    → is_flagged tasks n ≡ keeps_task p n
tasks_are p groups tasks kept so n =
    flags_all (task_stays_at groups p.work.tasks) (length p.work.tasks) tasks so
    (λ k past. ap (λ o. option_map_or (λ task. is_flagged groups task.group) o false)
    (slice_get_past p.work.tasks k past)) n
    ∙ ap (λ f. option_map_or (λ task. f task.group) (slice_get p.work.tasks n) false)
    (one_test (is_flagged groups) (keeps_group p) kept)

pub marks_are : (p : State) (scopes groups tasks : List Bool)
    → length scopes ≡ length p.tree.scopes
    → ((s : ℕ) → is_flagged scopes s ≡ keeps_scope p s)
    → AreFlags (group_stays_at scopes p.work.groups) (length p.work.groups) groups
    → AreFlags (task_stays_at groups p.work.tasks) (length p.work.tasks) tasks
    → AreMarks p scopes groups tasks
marks_are p scopes groups tasks each kept of_groups of_tasks = record {
  each_scope = each;
  each_group = of_groups.each;
  each_task = of_tasks.each;
  kept_scopes = kept;
  kept_groups = groups_are p scopes groups kept of_groups;
  kept_tasks =
      tasks_are p groups tasks (groups_are p scopes groups kept of_groups) of_tasks;
}

-- ---- what is left

module _ (p : State) (scopes groups tasks : List Bool) (are : AreMarks p scopes groups tasks)
  where
    pub scopes_left : rows_left scopes (scope_by scopes) p.tree.scopes ≡ (renewed p).tree.scopes
    scopes_left =
        ap (λ f. map (λ (row : Scope). record row { parent = new_number f row.parent })
        (kept f p.tree.scopes))
        (one_test (is_flagged scopes) (keeps_scope p) are.kept_scopes)

    pub groups_left : rows_left groups (group_by scopes) p.work.groups ≡ (renewed p).work.groups
    groups_left =
        ap (λ f. map (λ (row : Group). record row { scope = new_number f row.scope })
        (kept (is_flagged groups) p.work.groups))
        (one_test (is_flagged scopes) (keeps_scope p) are.kept_scopes)
        ∙ ap (λ f. map (λ (row : Group).
        record row { scope = new_number (keeps_scope p) row.scope }) (kept f p.work.groups))
        (one_test (is_flagged groups) (keeps_group p) are.kept_groups)

    pub tasks_left : rows_left tasks (task_by groups tasks) p.work.tasks ≡ (renewed p).work.tasks
    tasks_left =
        ap (λ f. map (λ (row : Task). record row {
          group = new_number f row.group;
          retry_of = option_map (new_number (is_flagged tasks)) row.retry_of;
        }) (kept (is_flagged tasks) p.work.tasks))
        (one_test (is_flagged groups) (keeps_group p) are.kept_groups)
        ∙ ap (λ f. map (λ (row : Task). record row {
          group = new_number (keeps_group p) row.group;
          retry_of = option_map (new_number f) row.retry_of;
        }) (kept f p.work.tasks))
        (one_test (is_flagged tasks) (keeps_task p) are.kept_tasks)

-- The number of rows that are left is the new number after all rows.
pub count_left : {X : Type 0} (flags : List Bool) (renumber : X → X) (rows : List X)
    → length flags ≡ length rows
    → new_number (is_flagged flags) (length flags) ≡ length (rows_left flags renumber rows)
count_left flags renumber rows each =
    ap (new_number (is_flagged flags)) each ∙ sym (length-kept (is_flagged flags) rows)
    ∙ sym (length-map (kept (is_flagged flags) rows) renumber)

-- The first row is kept, and the rest is left after it.
pub left_after : {X : Type 0} (flags : List Bool) (renumber : X → X) (rows : List X)
    → is_flagged flags 0 ≡ true
    → rows_left (drop 1 flags) renumber (drop 1 rows) ≡ drop 1 (rows_left flags renumber rows)
left_after [] renumber rows is = absurd (true≢false (sym is))
left_after (true ∷ flags) renumber [] is = refl
left_after (true ∷ flags) renumber (row ∷ rows) is = refl
left_after (false ∷ flags) renumber rows is = absurd (true≢false (sym is))
