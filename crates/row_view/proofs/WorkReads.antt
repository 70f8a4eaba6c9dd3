-- The work that is read is the one with whose rows the bytes begin.
use Rattle.run_model.proofs.Common.{◌≡◌, ℕ, zero, suc, ◌<◌, ◌≤◌, ◌&&◌, nat_le, true, List, [], ◌∷◌}
use Rattle.run_model.proofs.Common.{◌++◌, length, take, Option, Some, None, slice_get, inl, inr}
use Rattle.run_model.proofs.Common.{refl, sym, ap, ◌∙◌, subst, arith, IsTrue, is_some, flat_map}
use Rattle.run_model.proofs.Common.{list_any, AllByRecursion, bytes_eq, ltb-true, lt-ltb, leb-true}
use Rattle.run_model.proofs.Common.{le-leb, eqb-true, eq-eqb, both_ways, cases_lt}
use Rattle.run_model.proofs.Common.{false_from_ne_true, length-take-le, same_Some, none-some}
use Rattle.run_model.proofs.Common.{slice_get_within, bytes_eq-Decides, most_tasks, AreLinked}
use Rattle.run_model.proofs.Common.{has_task_error, WorkState, is_running, is_admitted}
use Rattle.run_model.proofs.Common.{is_unfinished, unfinished_in, admits, limit_of, is_retry_of}
use Rattle.run_model.proofs.Common.{and_from, any_passes_from_place}
use Rattle.run_model.specs.declared.bounds.TheConstants.{MOST_GROUPS}
use Rattle.run_model.specs.declared.layouts.Layout.{Layout}
use Rattle.run_model.specs.declared.groups.Group.{Group}
use Rattle.run_model.specs.declared.tasks.Task.{Task}
use Rattle.run_model.specs.RuleParts.{AreWorkRules}
use Rattle.run_model.proofs.NameLemmas.{unfound, unpassed}
use Rattle.row_view.specs.Fields.{◌>>=◌}
use Rattle.row_view.specs.declared.heads.ImageHead.{ImageHead}
use Rattle.row_view.specs.declared.heads.ImageVersion.{ImageVersion}
use Rattle.row_view.specs.Image.{group_bytes, task_bytes, is_kept_group, is_kept_task}
use Rattle.row_view.specs.RowReading.{group_row_at, task_at}
use Rattle.row_view.proofs.Codecs.{through, first_true, second_true}
use Rattle.row_view.proofs.RowCodecs.{group_row, task_row}
use Rattle.row_view.specs.WorkRows.{more_at, each_passes, has_new_name, can_come, is_settled}
use Rattle.row_view.specs.WorkRows.{is_linked, work_made, settled_at, has_work_room}
use Rattle.row_view.specs.WorkRows.{work_rows_at, work_at, AreWorkRows}
use Rattle.row_view.proofs.Checked.{ArePassed, more_take, more_again, all_pass, pass_all}
use Rattle.row_view.proofs.Checked.{cond_some_by}
use Rattle.row_view.proofs.Linked.{or_right, or_from, both_iff, iff_both, taken, untaken}
use Rattle.row_view.proofs.Linked.{some_at, link_right, link_from, retry_facts, retry_test}
use Rattle.row_view.proofs.Linked.{names_it, is_named}

-- ---- names

abbrev AreNamed : List Group → Type 0
AreNamed rows = (g h : ℕ) (a b : Group) → slice_get rows g ≡ Some a → slice_get rows h ≡ Some b
    → a.name ≡ b.name → g ≡ h

-- A name that comes again is not new.
not_again : (rows : List Group) → ArePassed group_row has_new_name [] rows → (g h : ℕ)
    (a b : Group) → slice_get rows g ≡ Some a → slice_get rows h ≡ Some b → a.name ≡ b.name
    → g < h → ⊥
not_again rows passed g h a b here there same less =
    both_ways (bytes_eq b.name a.name)
    (unfound (λ r. bytes_eq b.name r.name) (take h rows) (passed h b there) g a
    (taken rows h g a less here))
    ((bytes_eq-Decides b.name a.name).1 (sym same))

names_from : (rows : List Group) → ArePassed group_row has_new_name [] rows → AreNamed rows
names_from rows passed g h a b here there same =
    elim (cases_lt g h) [
      | inl less ↦ absurd (not_again rows passed g h a b here there same less)
      | inr more ↦
          elim (cases_lt h g) [
            | inl less ↦ absurd (not_again rows passed h g b a there here (sym same) less)
            | inr other ↦ omega (arith, more, other)
          ]
    ]

passed_names : (rows : List Group) → AreNamed rows → ArePassed group_row has_new_name [] rows
passed_names rows named k row found =
    unpassed row (λ r. bytes_eq row.name r.name) (take k rows)
    (λ s a there same.
    let it = untaken rows k s a there in
    let alike : row.name ≡ a.name = (bytes_eq-Decides row.name a.name).0 same in
    let place : k ≡ s = named k s row a found it.1 alike in
    let less = it.0 in
    absurd (omega arith))

-- ---- tasks

-- A running task is admitted by the tasks before it alone.
admitted_there : (layout : Layout) (groups : List Group) (tasks : List Task) (n : ℕ) (row : Task)
    → slice_get tasks n ≡ Some row
    → is_admitted (work_made layout groups (take n tasks)) (length (take n tasks)) row
    ≡ is_admitted (work_made layout groups tasks) n row
admitted_there layout groups tasks n row found =
    let less = slice_get_within tasks n row found in
    let size : length (take n tasks) ≡ n = length-take-le n tasks (omega (arith, less)) in
    ap (λ l. is_unfinished row.stage
    && admits (limit_of (work_made layout groups tasks) row.group) (unfinished_in row.group l))
    (ap (λ m. take m (take n tasks)) size ∙ take_twice n tasks)
  where
    take_twice : (n : ℕ) (l : List Task) → take n (take n l) ≡ take n l
    take_twice zero l = refl
    take_twice (suc n) [] = refl
    take_twice (suc n) (x ∷ l) = ap (λ r. x ∷ r) (take_twice n l)

-- ---- links

-- Each task passes the test of links after those before it.
abbrev ArePassedLinks : List Task → Type 0
ArePassedLinks tasks = (n : ℕ) (row : Task) → slice_get tasks n ≡ Some row
    → is_linked (take n tasks) row ≡ true

-- No two tasks are retries of one, where each passed.
not_twice : (layout : Layout) (groups : List Group) (tasks : List Task) → ArePassedLinks tasks
    → (n k m : ℕ) (a b : Task) → slice_get tasks n ≡ Some a → slice_get tasks k ≡ Some b
    → a.retry_of ≡ Some m → b.retry_of ≡ Some m → n < k → ⊥
not_twice layout groups tasks passed n k m a b found_a found_b link_a link_b less =
    let right = link_right (take k tasks) b m (passed k b found_b) link_b in
    both_ways (list_any (is_retry_of m) (take k tasks)) right.first
    (any_passes_from_place (is_retry_of m) (take k tasks) n a (taken tasks k n a less found_a)
    (names_it m a link_a))

links_from : (layout : Layout) (groups : List Group) (tasks : List Task) → ArePassedLinks tasks
    → AreLinked (work_made layout groups tasks)
links_from layout groups tasks passed = record {
  linked =
      λ n m row found link.
      let right = link_right (take n tasks) row m (passed n row found) link in
      let there = untaken tasks n m right.old right.found in
      (right.old, there.1, retry_facts n m row right.old there.0 right.can);
  once =
      λ n k m a b found_a found_b link_a link_b.
      elim (cases_lt n k) [
        | inl less ↦ absurd (not_twice layout groups tasks passed n k m a b found_a found_b link_a
            link_b less)
        | inr more ↦
            elim (cases_lt k n) [
              | inl less ↦ absurd (not_twice layout groups tasks passed k n m b a found_b found_a
                  link_b link_a less)
              | inr other ↦ omega (arith, more, other)
            ]
      ];
}

passed_links : (w : WorkState) → AreLinked w → ArePassedLinks w.tasks
passed_links w links n row found =
    link_from (take n w.tasks) row (λ m link.
    let it = links.linked n m row found link in
    record {
      old = it.0;
      found = taken w.tasks n m it.0 it.2.before it.1;
      can = retry_test n m row it.0 it.2;
      first =
          false_from_ne_true (list_any (is_retry_of m) (take n w.tasks)) (λ any.
          let other = some_at (is_retry_of m) (take n w.tasks) any in
          let there = untaken w.tasks n other.0 other.1 other.2 in
          let same : other.0 ≡ n = links.once other.0 n m other.1 row there.1 found
          (is_named m other.1 other.3) link in
          let less = there.0 in
          omega (arith, same, less));
    })

-- ---- the work

rules_from : (layout : Layout) (version : ImageVersion) (groups : List Group) (tasks : List Task)
    → length groups ≤ MOST_GROUPS → length tasks ≤ most_tasks layout
    → ArePassed group_row has_new_name [] groups
    → ArePassed (task_row version) (can_come layout groups) [] tasks
    → each_passes (is_settled (work_made layout groups tasks)) 0 groups ≡ true
    → AreWorkRules (work_made layout groups tasks)
rules_from layout version groups tasks few_g few_t named come settled =
    let w = work_made layout groups tasks in
    let at = all_pass (is_settled w) groups settled in
    record {
      few_groups = few_g;
      few_tasks = few_t;
      names = names_from groups named;
      known = λ n row found.
          ltb-true row.group (length groups) (first_true _ _ (first_true _ _ (come n row found)));
      admitted = record {
        running = λ n row found is.
            sym (admitted_there layout groups tasks n row found)
            ∙ or_right (is_running row.stage) _
            (second_true _ _ (first_true _ _ (come n row found))) is;
        waited = λ g row found is.
            eqb-true (unfinished_in g tasks) 0
            (or_right row.waited _ (first_true _ _ (at g row found)) is);
      };
      exact = λ g row found.
          both_iff (is_some row.error) (has_task_error w g) (second_true _ _ (at g row found));
      links = links_from layout groups tasks (λ n row found. second_true _ _ (come n row found));
    }

passed_tasks : (version : ImageVersion) (w : WorkState) → AreWorkRules w
    → ArePassed (task_row version) (can_come w.layout w.groups) [] w.tasks
passed_tasks version w rules n row found =
    and_from _ _
    (and_from _ _
    (lt-ltb row.group (length w.groups) (rules.known n row found))
    (or_from (is_running row.stage) _
    (λ is. admitted_there w.layout w.groups w.tasks n row found
    ∙ rules.admitted.running n row found is)))
    (passed_links w rules.links n row found)

settled_groups : (w : WorkState) → AreWorkRules w → each_passes (is_settled w) 0 w.groups ≡ true
settled_groups w rules =
    pass_all (is_settled w) w.groups
    (λ g row found.
    and_from _ _
    (or_from row.waited _
    (λ is. eq-eqb (unfinished_in g w.tasks) 0 (rules.admitted.waited g row found is)))
    (iff_both (is_some row.error) (has_task_error w g) (rules.exact g row found)))

pub work_again : (layout : Layout) (head : ImageHead) (bytes : List ℕ) (w : WorkState)
    (rest : List ℕ) → AreWorkRows layout head bytes w rest
    → work_at layout head bytes ≡ Some (w, rest)
unfolding work_at work_rows_at
work_again layout head bytes w rest are =
    let version = head.version in
    let tasks = flat_map (task_bytes version) w.tasks ++ rest in
    let few : has_work_room w.layout head ≡ true =
    and_from _ _
    (subst (λ n. nat_le n MOST_GROUPS ≡ true) are.groups
    (le-leb (length w.groups) MOST_GROUPS are.rules.few_groups))
    (subst (λ n. nat_le n (most_tasks w.layout) ≡ true) are.tasks
    (le-leb (length w.tasks) (most_tasks w.layout) are.rules.few_tasks)) in
    let groups_read : more_at group_row_at has_new_name head.groups [] bytes
    ≡ Some (w.groups, tasks) =
    ap (λ n. more_at group_row_at has_new_name n [] bytes) (sym are.groups)
    ∙ ap (λ b. more_at group_row_at has_new_name (length w.groups) [] b) are.spelled
    ∙ more_again group_row has_new_name [] w.groups tasks (passed_names w.groups are.rules.names)
    are.kept_groups in
    let come = can_come w.layout w.groups in
    let tasks_read : more_at (task_at version) come head.tasks [] tasks ≡ Some (w.tasks, rest) =
    ap (λ n. more_at (task_at version) come n [] tasks) (sym are.tasks)
    ∙ more_again (task_row version) come [] w.tasks rest (passed_tasks version w are.rules)
    are.kept_tasks in
    subst (λ l. work_at l head bytes ≡ Some (w, rest)) are.has_layout
    (rw (few, groups_read, tasks_read, settled_groups w are.rules))

pub work_takes : (layout : Layout) (head : ImageHead) (bytes : List ℕ) (w : WorkState)
    (rest : List ℕ) → work_at layout head bytes ≡ Some (w, rest)
    → AreWorkRows layout head bytes w rest
unfolding work_at work_rows_at
work_takes layout head bytes w rest e =
    let version = head.version in
    let few = cond_some_by (has_work_room layout head) (work_rows_at layout head bytes) (w, rest) e
    in
    let behind = λ (groups : List Group × List ℕ).
    more_at (task_at version) (can_come layout groups.0) head.tasks [] groups.1
    >>= settled_at layout groups.0 in
    let groups = through (more_at group_row_at has_new_name head.groups [] bytes) behind (w, rest)
    few.1 in
    let come = can_come layout groups.0.0 in
    let tasks = through (more_at (task_at version) come head.tasks [] groups.0.1)
    (settled_at layout groups.0.0) (w, rest) groups.2 in
    let made = work_made layout groups.0.0 tasks.0.0 in
    let settled = cond_some_by (each_passes (is_settled made) 0 groups.0.0)
    (Some (made, tasks.0.1)) (w, rest) tasks.2 in
    let g = more_take group_row has_new_name head.groups [] bytes groups.0 groups.1 in
    let t = more_take (task_row version) come head.tasks [] groups.0.1 tasks.0 tasks.1 in
    let P : WorkState × List ℕ → Type 0 = λ y. AreWorkRows layout head bytes y.0 y.1 in
    let size_g : length groups.0.0 ≡ head.groups = ap (λ l. length l) g.all ∙ g.many in
    let size_t : length tasks.0.0 ≡ head.tasks = ap (λ l. length l) t.all ∙ t.many in
    let most_g : head.groups ≤ MOST_GROUPS =
    leb-true head.groups MOST_GROUPS (first_true _ _ few.0) in
    let most_t : head.tasks ≤ most_tasks layout =
    leb-true head.tasks (most_tasks layout) (second_true _ _ few.0) in
    subst P (same_Some (made, tasks.0.1) (w, rest) settled.1) (record {
      has_layout = refl;
      groups = size_g;
      tasks = size_t;
      rules = rules_from layout version groups.0.0 tasks.0.0 (omega (arith, size_g, most_g))
          (omega (arith, size_t, most_t))
          (subst (ArePassed group_row has_new_name []) (sym g.all) g.passed)
          (subst (ArePassed (task_row version) come []) (sym t.all) t.passed)
          settled.0;
      kept_groups = subst (λ l. AllByRecursion (λ row. IsTrue (is_kept_group row)) l) (sym g.all)
          g.kept_all;
      kept_tasks = subst (λ l. AllByRecursion (λ row. IsTrue (is_kept_task version row)) l)
          (sym t.all) t.kept_all;
      spelled =
          g.spelled ∙ ap (λ l. flat_map group_bytes l ++ groups.0.1) (sym g.all)
          ∙ ap (λ l. flat_map group_bytes groups.0.0 ++ l)
          (t.spelled ∙ ap (λ l. flat_map (task_bytes version) l ++ tasks.0.1) (sym t.all));
    })

-- If nothing is read, the bytes begin with the rows of no work.
pub no_work_stands : (layout : Layout) (head : ImageHead) (bytes : List ℕ)
    → work_at layout head bytes ≡ None → (w : WorkState) (rest : List ℕ)
    → AreWorkRows layout head bytes w rest → ⊥
no_work_stands layout head bytes none w rest are =
    none-some (w, rest) (sym none ∙ work_again layout head bytes w rest are)

-- If they begin with the rows of no work, nothing is read.
pub nothing_read : (layout : Layout) (head : ImageHead) (bytes : List ℕ)
    → ((w : WorkState) (rest : List ℕ) → AreWorkRows layout head bytes w rest → ⊥)
    → work_at layout head bytes ≡ None
nothing_read layout head bytes no_work = by_read (work_at layout head bytes) refl
  where
    by_read : (o : Option (WorkState × List ℕ)) → work_at layout head bytes ≡ o → o ≡ None
    by_read None e = refl
    by_read (Some x) e = absurd (no_work x.0 x.1 (work_takes layout head bytes x.0 x.1 e))

-- The work and the rest are the only ones.
pub one_work : (layout : Layout) (head : ImageHead) (bytes : List ℕ) (w v : WorkState)
    (rest other : List ℕ) → AreWorkRows layout head bytes w rest
    → AreWorkRows layout head bytes v other → (w ≡ v) × (rest ≡ other)
one_work layout head bytes w v rest other are those =
    let same = same_Some (w, rest) (v, other)
    (sym (work_again layout head bytes w rest are)
    ∙ work_again layout head bytes v other those) in (
      ap (λ (x : WorkState × List ℕ). x.0) same,
      ap (λ (x : WorkState × List ℕ). x.1) same,
    )
