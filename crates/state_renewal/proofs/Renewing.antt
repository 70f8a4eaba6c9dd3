-- Facts about the rows of a renewed state that follow from the rules.
use Rattle.run_model.proofs.Common.{◌≡◌, ◌<◌, ◌≤◌, ◌-◌, ◌^◌, ℕ, suc, Bool, true, false, List, []}
use Rattle.run_model.proofs.Common.{◌∷◌, drop, take, length, Option, Some, None, slice_get, refl}
use Rattle.run_model.proofs.Common.{sym, ap, subst, ◌∙◌, arith, length-drop, AllByRecursion}
use Rattle.run_model.proofs.Common.{IfSome, IsSome, IsTrue, take_all, none-some, slice_get_within}
use Rattle.run_model.proofs.Common.{most_scopes, most_tasks, IsConsistent, HasRow, is_root, root}
use Rattle.run_model.proofs.Common.{State, TreeState, WorkState, Result, Ok, Err, IfOk, IfErr}
use Rattle.std.specs.Result.{IsErrAnd}
use Rattle.run_model.specs.declared.faults.Fault.TheVariants.{Memory}
use Rattle.run_model.specs.declared.groups.Group.{Group}
use Rattle.std.specs.Prelude.{MatchResult}
use Rattle.run_model.specs.declared.faults.Fault.{Fault}
use Rattle.run_model.specs.declared.bounds.TheConstants.{MOST_GROUPS, GREATEST_MOMENT}
use Rattle.run_model.specs.declared.layouts.Layout.{Layout}
use Rattle.run_model.specs.declared.scopes.Scope.{Scope}
use Rattle.run_model.specs.declared.tasks.Task.{Task}
use Rattle.row_view.specs.declared.heads.ImageHead.{ImageHead}
use Rattle.row_view.specs.declared.heads.ImageVersion.TheVariants.{Two}
use Rattle.row_view.specs.Image.{head_of, image, is_kept_group, is_kept_scope, is_kept_task}
use Rattle.row_view.specs.Keeping.{IsImage}
use Rattle.scope_tree.specs.TreeRows.{AreWritable}
use Rattle.state_renewal.specs.Marks.{AreFlags, AreMarks, group_by, group_stays_at, is_flagged}
use Rattle.state_renewal.specs.Marks.{rows_left, scope_by, task_by, task_stays_at, with_rows}
use Rattle.state_renewal.specs.Renewed.{fits_in, keeps_scope, new_number, renewed, renewed_in}
use Rattle.state_renewal.proofs.Keeps.{root_kept}
use Rattle.state_renewal.proofs.Layouts.{rules_there}
use Rattle.state_renewal.proofs.Marked.{count_left, groups_left, left_after, marks_are}
use Rattle.state_renewal.proofs.Marked.{scopes_left, tasks_left}
use Rattle.state_renewal.proofs.RulesKept.{rules_kept}
use Rattle.run_session.proofs.Imaging.{ranged}
use Rattle.scope_tree.proofs.TreeReads.{not_first}

-- ---- rows after root

behind : {X : Type 0} (rows : List X) (s : ℕ) (row : X) → slice_get (drop 1 rows) s ≡ Some row
    → slice_get rows (suc s) ≡ Some row
behind [] s row found = absurd (none-some row found)
behind (r ∷ rows) s row found = found

below : (p : State) → IsConsistent p → (s : ℕ) (row : Scope)
    → slice_get (drop 1 p.tree.scopes) s ≡ Some row → is_root row.kind ≡ false
below p rules s row found =
    not_first (is_root row.kind) s
    (rules.numbered.one_root (suc s) row (behind p.tree.scopes s row found))

pub after_writable : (p : State) → IsConsistent p → AreWritable (drop 1 p.tree.scopes)
after_writable p rules s row found = record {
  below_root = below p rules s row found;
  can = λ hit has.
      rules.hits.kinds (suc s) row (behind p.tree.scopes s row found)
      (subst (λ o. IsSome o) (sym has) refl);
}

pub after_known : (p : State) (many : ℕ) → IsConsistent p → many ≡ length p.tree.scopes → (s : ℕ)
    (row : Scope) → slice_get (drop 1 p.tree.scopes) s ≡ Some row → row.parent < many
after_known p many rules same s row found =
    let at = behind p.tree.scopes s row found in
    let lower = rules.numbered.ordered (suc s) row at (below p rules s row found) in
    let within = slice_get_within p.tree.scopes (suc s) row at in
    omega (arith, lower, within, same)

-- ---- tasks

link_known : (p : State) → IsConsistent p → (n : ℕ) (row : Task) → HasRow p.work.tasks n row
    → (o : Option ℕ) → row.retry_of ≡ o → IfSome o (λ m. m < length p.work.tasks)
link_known p rules n row found None is = tt
link_known p rules n row found (Some m) is =
    let old = rules.links.linked n m row found is in
    slice_get_within p.work.tasks m old.0 old.1

pub links_known : (p : State) → IsConsistent p → (n : ℕ) (row : Task) → HasRow p.work.tasks n row
    → IfSome row.retry_of (λ m. m < length p.work.tasks)
links_known p rules n row found = link_known p rules n row found row.retry_of refl

-- ---- the image

-- This many rows fit into a store of the layout.
pub room_there : (layout : Layout) (p : State) → IsConsistent p
    → fits_in layout (renewed p) ≡ true
    → (length (drop 1 (renewed p).tree.scopes) ≤ most_scopes layout - 1)
    × (length (renewed p).work.groups ≤ MOST_GROUPS)
    × (length (renewed p).work.tasks ≤ most_tasks layout)
room_there layout p rules fits =
    let there = rules_there layout p rules fits in
    let few = there.numbered.few_scopes in
    let less = length-drop 1 (renewed p).tree.scopes in
    (omega (arith, few, less), there.numbered.few_groups, there.numbered.few_tasks)

pub renewed_image : (layout : Layout) (p : State) → IsConsistent p
    → fits_in layout (renewed p) ≡ true → p.tree.clock ≤ GREATEST_MOMENT → p.count < 2 ^ 63
    → AllByRecursion (λ row. IsTrue (is_kept_scope row)) (drop 1 (renewed p).tree.scopes)
    → AllByRecursion (λ row. IsTrue (is_kept_group row)) (renewed p).work.groups
    → AllByRecursion (λ row. IsTrue (is_kept_task Two row)) (renewed p).work.tasks
    → IsImage Two layout (image (renewed p)) (renewed_in layout p)
renewed_image layout p rules fits clock few scopes groups tasks =
    ranged (renewed_in layout p) (rules_there layout p rules fits) clock few scopes groups tasks

-- ---- the rows that are put

-- A list that is lent from its second row on.
pub after_lent : {X : Type 0} (rows lent : List X) → lent ≡ rows
    → take (length lent - 1) (drop 1 lent) ≡ drop 1 rows
after_lent rows lent same =
    take_all (length lent - 1) (drop 1 lent) (omega (arith, length-drop 1 lent))
    ∙ ap (drop 1) same

pub some_scope : (p : State) → IsConsistent p → 1 ≤ length (renewed p).tree.scopes
some_scope p rules =
    let within =
    slice_get_within (renewed p).tree.scopes 0 root (rules_kept p rules).numbered.rooted in
    omega (arith, within)

module _ (p : State) (scopes groups tasks : List Bool) (are : AreMarks p scopes groups tasks)
  where
    -- How many are kept.
    pub scopes_count : (n : ℕ) → n ≡ length p.tree.scopes
        → new_number (is_flagged scopes) n ≡ length (renewed p).tree.scopes
    scopes_count n is =
        ap (new_number (is_flagged scopes)) (is ∙ sym are.each_scope)
        ∙ count_left scopes (scope_by scopes) p.tree.scopes are.each_scope
        ∙ ap (λ rows. length rows) (scopes_left p scopes groups tasks are)

    pub groups_count : (n : ℕ) → n ≡ length p.work.groups
        → new_number (is_flagged groups) n ≡ length (renewed p).work.groups
    groups_count n is =
        ap (new_number (is_flagged groups)) (is ∙ sym are.each_group)
        ∙ count_left groups (group_by scopes) p.work.groups are.each_group
        ∙ ap (λ rows. length rows) (groups_left p scopes groups tasks are)

    pub tasks_count : (n : ℕ) → n ≡ length p.work.tasks
        → new_number (is_flagged tasks) n ≡ length (renewed p).work.tasks
    tasks_count n is =
        ap (new_number (is_flagged tasks)) (is ∙ sym are.each_task)
        ∙ count_left tasks (task_by groups tasks) p.work.tasks are.each_task
        ∙ ap (λ rows. length rows) (tasks_left p scopes groups tasks are)

    -- What is left of the rows as they are lent.
    pub scopes_lent : (flags : List Bool) (rows : List Scope) → IsConsistent p
        → flags ≡ drop 1 scopes → rows ≡ drop 1 p.tree.scopes
        → rows_left flags (scope_by scopes) rows ≡ drop 1 (renewed p).tree.scopes
    scopes_lent flags rows rules same same_rows =
        ap (λ f. rows_left f (scope_by scopes) rows) same
        ∙ ap (rows_left (drop 1 scopes) (scope_by scopes)) same_rows
        ∙ left_after scopes (scope_by scopes) p.tree.scopes
        (are.kept_scopes 0 ∙ root_kept p rules.numbered.rooted)
        ∙ ap (λ r. drop 1 r) (scopes_left p scopes groups tasks are)

    pub groups_lent : (flags : List Bool) (w : WorkState) → flags ≡ groups → w ≡ p.work
        → rows_left flags (group_by scopes) w.groups ≡ (renewed p).work.groups
    groups_lent flags w same same_work =
        ap (λ f. rows_left f (group_by scopes) w.groups) same
        ∙ ap (λ (v : WorkState). rows_left groups (group_by scopes) v.groups) same_work
        ∙ groups_left p scopes groups tasks are

    pub tasks_lent : (w : WorkState) → w ≡ p.work
        → rows_left tasks (task_by groups tasks) w.tasks ≡ (renewed p).work.tasks
    tasks_lent w same_work =
        ap (λ (v : WorkState). rows_left tasks (task_by groups tasks) v.tasks) same_work
        ∙ tasks_left p scopes groups tasks are

-- A head of version 2 with these fields.
abbrev head_by : ℕ → ℕ → ℕ → ℕ → ℕ → ImageHead
head_by clock count scopes groups tasks = record {
  version = Two;
  clock = clock;
  count = count;
  scopes = scopes;
  groups = groups;
  tasks = tasks;
}

-- The head of the renewed state, by the numbers of kept rows.
pub head_is : (p : State) (clock count scopes groups tasks : ℕ) → clock ≡ p.tree.clock
    → count ≡ p.count → scopes ≡ length (renewed p).tree.scopes
    → groups ≡ length (renewed p).work.groups → tasks ≡ length (renewed p).work.tasks
    → head_by clock count (scopes - 1) groups tasks ≡ head_of Two (renewed p)
head_is p clock count scopes groups tasks is_clock is_count is_scopes is_groups is_tasks =
    let behind = ap (λ n. n - 1) is_scopes ∙ sym (length-drop 1 (renewed p).tree.scopes) in
    ap (λ n. head_by n count (scopes - 1) groups tasks) is_clock
    ∙ ap (λ n. head_by p.tree.clock n (scopes - 1) groups tasks) is_count
    ∙ ap (λ n. head_by p.tree.clock p.count n groups tasks) behind
    ∙ ap (λ n. head_by p.tree.clock p.count (length (drop 1 (renewed p).tree.scopes)) n tasks)
    is_groups
    ∙ ap (λ n. head_by p.tree.clock p.count (length (drop 1 (renewed p).tree.scopes))
    (length (renewed p).work.groups) n) is_tasks

-- The rows to which groups and tasks refer exist among this many rows.
pub scopes_known : (p : State) (w : WorkState) (many : ℕ) → IsConsistent p → w ≡ p.work
    → many ≡ length p.tree.scopes → (g : ℕ) (row : Group) → HasRow w.groups g row
    → row.scope < many
scopes_known p w many rules is same g row found =
    subst (λ n. row.scope < n) (sym same)
    (rules.numbered.scopes g row (ap (λ (x : WorkState). slice_get x.groups g) (sym is) ∙ found))

pub groups_known : (p : State) (w : WorkState) (many : ℕ) → IsConsistent p → w ≡ p.work
    → many ≡ length p.work.groups → (n : ℕ) (row : Task) → HasRow w.tasks n row
    → row.group < many
groups_known p w many rules is same n row found =
    subst (λ k. row.group < k) (sym same)
    (rules.numbered.groups n row (ap (λ (x : WorkState). slice_get x.tasks n) (sym is) ∙ found))

-- The fault of a `?` that ends a call.
pub no_memory : {T : Type 0} (r : Result T Fault) (e : Fault) → IsErrAnd r (λ y. y ≡ e)
    → e ≡ Memory → IfErr r (λ y. y ≡ Memory)
no_memory (Ok x) e restated is = tt
no_memory (Err y) e restated is = restated ∙ is

-- A fact about the flags, if there are marks made from them, is one about the marks.
pub of_marks : {V : Type 0} (items : V → List Bool) (P : List Bool → Type 0) (r : Result V Fault)
    (marks : List Bool) → MatchResult r (λ v. marks ≡ items v) (λ e. ⊥)
    → IfOk r (λ v. P (items v)) → P marks
of_marks items P (Ok v) marks is holds = subst P (sym is) holds
of_marks items P (Err e) marks is holds = absurd is

-- The marks made from these flags are those of the state.
pub marks_made : (p : State) (tree : TreeState) (w v u : WorkState)
    (scopes s_lent groups g_lent tasks : List Bool) → tree ≡ p.tree → w ≡ p.work → v ≡ p.work
    → u ≡ p.work → s_lent ≡ scopes → g_lent ≡ groups → length scopes ≡ length tree.scopes
    → ((n : ℕ) → is_flagged scopes n ≡ keeps_scope (with_rows tree w) n)
    → AreFlags (group_stays_at s_lent v.groups) (length v.groups) groups
    → AreFlags (task_stays_at g_lent u.tasks) (length u.tasks) tasks
    → AreMarks p scopes groups tasks
marks_made p tree w v u scopes s_lent groups g_lent tasks is_tree is_w is_v is_u lent lent_too each
    kept stay rest =
    marks_are p scopes groups tasks
    (each ∙ ap (λ (t : TreeState). length t.scopes) is_tree)
    (λ n.
    kept n ∙ ap (λ (t : TreeState). keeps_scope (with_rows t w) n) is_tree
    ∙ ap (λ (x : WorkState). keeps_scope (with_rows p.tree x) n) is_w)
    (subst (λ (x : WorkState).
    AreFlags (group_stays_at scopes x.groups) (length x.groups) groups) is_v
    (subst (λ l. AreFlags (group_stays_at l v.groups) (length v.groups) groups) lent stay))
    (subst (λ (x : WorkState).
    AreFlags (task_stays_at groups x.tasks) (length x.tasks) tasks) is_u
    (subst (λ l. AreFlags (task_stays_at l u.tasks) (length u.tasks) tasks) lent_too rest))
