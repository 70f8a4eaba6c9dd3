-- The fields of a state are in range exactly if its rows are typed and keep the rules.
use Rattle.run_model.proofs.Common.{◌≡◌, ◌≤◌, ℕ, zero, suc, ◌+◌, ◌-◌, ◌^◌, true, false, List, []}
use Rattle.run_model.proofs.Common.{◌∷◌, length, drop, Option, Some, None, slice_get, refl, sym}
use Rattle.run_model.proofs.Common.{◌∙◌, subst, arith, length-drop, AllByRecursion, IsTrue, nat_lt}
use Rattle.run_model.proofs.Common.{both_ways, ltb-true, lt-ltb, leb-true, le-leb}
use Rattle.run_model.proofs.Common.{false_from_ne_true, none-some, same_Some, slice_get_within}
use Rattle.run_model.proofs.Common.{most_scopes, most_tasks, root, IsConsistent, HasLayout, HasRow}
use Rattle.run_model.proofs.Common.{is_root, own_hit, State, is_text, most_scopes_most}
use Rattle.run_model.proofs.Common.{most_tasks_most, and_from}
use Rattle.run_model.specs.declared.bounds.TheConstants.{MOST_GROUPS, GREATEST_MOMENT}
use Rattle.run_model.specs.declared.layouts.Layout.{Layout}
use Rattle.run_model.specs.declared.scopes.Hit.{Hit}
use Rattle.run_model.specs.declared.scopes.Scope.{Scope}
use Rattle.run_model.specs.declared.groups.Group.{Group}
use Rattle.run_model.specs.declared.tasks.Task.{Task}
use Rattle.row_view.specs.declared.heads.ImageVersion.{ImageVersion}
use Rattle.row_view.specs.declared.heads.ImageVersion.TheVariants.{Two}
use Rattle.row_view.specs.Image.{head_of, is_kept_head, is_kept_scope, is_kept_group}
use Rattle.row_view.specs.Image.{is_kept_task, is_kept_hit, is_kept_link}
use Rattle.row_view.specs.Keeping.{IsInRange}
use Rattle.row_view.proofs.Codecs.{first_true, second_true}
use Rattle.model_laws.proofs.RightHits.{own_hit_of}
use Rattle.scope_tree.proofs.RowRanges.{IsTypedScope, IsTypedGroup, IsTypedTask, Each}
use Rattle.scope_tree.proofs.EventRanges.{IsTyped}

-- ---- lists

all_from : {X : Type 0} (P : X → Type 0) (rows : List X) → Each P rows → AllByRecursion P rows
all_from P [] each = tt
all_from P (row ∷ rows) each =
    (each 0 row refl, all_from P rows (λ n x found. each (suc n) x found))

each_from : {X : Type 0} (P : X → Type 0) (rows : List X) → AllByRecursion P rows → Each P rows
each_from P [] all n x found = absurd (none-some x found)
each_from P (row ∷ rows) all zero x found = subst P (same_Some row x found) all.0
each_from P (row ∷ rows) all (suc n) x found = each_from P rows all.1 n x found

after_first : {X : Type 0} (rows : List X) (n : ℕ)
    → slice_get (drop 1 rows) n ≡ slice_get rows (suc n)
after_first [] n = refl
after_first (row ∷ rows) n = refl

-- ---- from the rows to the fields of an image

module _
    (layout : Layout) (p : State) (has : HasLayout p layout) (rules : IsConsistent p)
    (few : IsTrue (nat_lt p.count (2 ^ 63))) (typed : IsTyped p) where
  few_scopes : length p.tree.scopes ≤ most_scopes layout
  few_scopes =
      subst (λ l. length p.tree.scopes ≤ most_scopes l) has.tree rules.numbered.few_scopes

  few_tasks : length p.work.tasks ≤ most_tasks layout
  few_tasks = subst (λ l. length p.work.tasks ≤ most_tasks l) has.work rules.numbered.few_tasks

  head_ranged : IsTrue (is_kept_head layout (head_of Two p))
  head_ranged =
      let some = slice_get_within p.tree.scopes 0 root rules.numbered.rooted in
      let rest : length (drop 1 p.tree.scopes) ≡ length p.tree.scopes - 1 =
      length-drop 1 p.tree.scopes in
      let scopes = few_scopes in
      let groups = rules.numbered.few_groups in
      let tasks = few_tasks in
      and_from _ _
      (and_from _ _
      (and_from _ _ (and_from _ _ typed.tree.clock few)
      (lt-ltb (length (drop 1 p.tree.scopes)) (most_scopes layout)
      (omega (arith, some, rest, scopes))))
      (lt-ltb (length p.work.groups) (MOST_GROUPS + 1) (omega (arith, groups))))
      (lt-ltb (length p.work.tasks) (most_tasks layout + 1) (omega (arith, tasks)))

  hit_ranged : (s : ℕ) (o : Option Hit) → own_hit p.tree.scopes s ≡ o
      → ((hit : Hit) → o ≡ Some hit → IsTrue (is_text hit.cause)) → IsTrue (is_kept_hit o)
  hit_ranged s None own cause = refl
  hit_ranged s (Some hit) own cause =
      let known = rules.hits.past.events s hit own in
      let past = rules.hits.past.moments s hit own in
      let count = ltb-true p.count (2 ^ 63) few in
      let clock = leb-true p.tree.clock GREATEST_MOMENT typed.tree.clock in
      and_from _ _
      (and_from _ _
      (and_from _ _ (lt-ltb hit.event (2 ^ 64) (omega (arith, known, count)))
      (le-leb hit.moment GREATEST_MOMENT (omega (arith, past, clock)))) refl)
      (cause hit refl)

  scope_ranged : (s : ℕ) (row : Scope) → HasRow p.tree.scopes (suc s) row
      → IsTrue (is_kept_scope row)
  scope_ranged s row found =
      let is = typed.tree.scopes (suc s) row found in
      let other : is_root row.kind ≡ false =
      false_from_ne_true (is_root row.kind) (λ root.
      let first = rules.numbered.one_root (suc s) row found root in omega (arith, first)) in
      let above = rules.numbered.ordered (suc s) row found other in
      let within = slice_get_within p.tree.scopes (suc s) row found in
      let scopes = few_scopes in
      let most = most_scopes_most layout in
      and_from _ _
      (and_from _ _
      (and_from _ _ is.name
      (lt-ltb row.parent (2 ^ 16) (omega (arith, above, within, scopes, most))))
      (is.kind other))
      (hit_ranged (suc s) row.hit (own_hit_of p.tree.scopes (suc s) row found) is.cause)

  group_ranged : (g : ℕ) (row : Group) → slice_get p.work.groups g ≡ Some row
      → IsTrue (is_kept_group row)
  group_ranged g row found =
      let is = typed.work.groups g row found in
      let there = rules.numbered.scopes g row found in
      let scopes = few_scopes in
      let most = most_scopes_most layout in
      and_from _ _
      (and_from _ _
      (and_from _ _
      (and_from _ _
      (and_from _ _ is.name (lt-ltb row.scope (2 ^ 16) (omega (arith, there, scopes, most))))
      refl) is.limit) refl) is.error

  link_ranged : (n : ℕ) (row : Task) → slice_get p.work.tasks n ≡ Some row → (o : Option ℕ)
      → row.retry_of ≡ o → IsTrue (is_kept_link Two o)
  link_ranged n row found None is = refl
  link_ranged n row found (Some m) is =
      let before = (rules.links.linked n m row found is).2.before in
      let within = slice_get_within p.work.tasks n row found in
      let tasks = few_tasks in
      let most = most_tasks_most layout in
      lt-ltb m 65535 (omega (arith, before, within, tasks, most))

  task_ranged : (n : ℕ) (row : Task) → slice_get p.work.tasks n ≡ Some row
      → IsTrue (is_kept_task Two row)
  task_ranged n row found =
      let is = typed.work.tasks n row found in
      let there = rules.numbered.groups n row found in
      let groups = rules.numbered.few_groups in
      and_from _ _
      (and_from _ _
      (and_from _ _
      (and_from _ _ (lt-ltb row.group (2 ^ 16) (omega (arith, there, groups))) is.job)
      is.argument) is.stage) (link_ranged n row found row.retry_of refl)

  pub ranged_of : IsInRange Two layout p
  ranged_of = record {
    head = head_ranged;
    scopes =
        all_from (λ row. IsTrue (is_kept_scope row)) (drop 1 p.tree.scopes)
        (λ s row found. scope_ranged s row (sym (after_first p.tree.scopes s) ∙ found));
    groups = all_from (λ row. IsTrue (is_kept_group row)) p.work.groups group_ranged;
    tasks = all_from (λ row. IsTrue (is_kept_task Two row)) p.work.tasks task_ranged;
  }

-- ---- from the fields of an image to the rows

root_typed : IsTypedScope root
root_typed = record {
  name = refl;
  kind = λ other. absurd (both_ways true other refl);
  cause = λ hit has. absurd (none-some hit has);
}

hit_text : (o : Option Hit) (hit : Hit) → IsTrue (is_kept_hit o) → o ≡ Some hit
    → IsTrue (is_text hit.cause)
hit_text None hit ok has = absurd (none-some hit has)
hit_text (Some x) hit ok has =
    subst (λ (h : Hit). IsTrue (is_text h.cause)) (same_Some x hit has) (second_true _ _ ok)

kept_typed : (row : Scope) → IsTrue (is_kept_scope row) → IsTypedScope row
kept_typed row ok =
    let prefix = first_true _ _ ok in
    record {
      name = first_true _ _ (first_true _ _ prefix);
      kind = λ other. second_true _ _ prefix;
      cause = λ hit has. hit_text row.hit hit (second_true _ _ ok) has;
    }

scopes_typed : (rows : List Scope) → slice_get rows 0 ≡ Some root
    → AllByRecursion (λ row. IsTrue (is_kept_scope row)) (drop 1 rows) → Each IsTypedScope rows
scopes_typed rows rooted kept zero row found =
    subst IsTypedScope (same_Some root row (sym rooted ∙ found)) root_typed
scopes_typed rows rooted kept (suc s) row found =
    kept_typed row
    (each_from (λ row. IsTrue (is_kept_scope row)) (drop 1 rows) kept s row
    (after_first rows s ∙ found))

group_typed : (row : Group) → IsTrue (is_kept_group row) → IsTypedGroup row
group_typed row ok =
    let limits = first_true _ _ (first_true _ _ ok) in
    record {
      name = first_true _ _ (first_true _ _ (first_true _ _ limits));
      limit = second_true _ _ limits;
      error = second_true _ _ ok;
    }

task_typed : (version : ImageVersion) (row : Task) → IsTrue (is_kept_task version row)
    → IsTypedTask row
task_typed version row ok =
    let stages = first_true _ _ ok in
    let names = first_true _ _ stages in
    record {
      job = second_true _ _ (first_true _ _ names);
      argument = second_true _ _ names;
      stage = second_true _ _ stages;
    }

pub typed_of : (version : ImageVersion) (layout : Layout) (p : State)
    → slice_get p.tree.scopes 0 ≡ Some root → IsInRange version layout p → IsTyped p
typed_of version layout p rooted ranged = record {
  tree = record {
    clock =
        first_true _ _
        (first_true _ _ (first_true _ _ (first_true _ _ ranged.head)));
    scopes = scopes_typed p.tree.scopes rooted ranged.scopes;
  };
  work = record {
    groups =
        λ g row found.
        group_typed row
        (each_from (λ row. IsTrue (is_kept_group row)) p.work.groups ranged.groups g row found);
    tasks =
        λ n row found.
        task_typed version row
        (each_from (λ row. IsTrue (is_kept_task version row)) p.work.tasks ranged.tasks n row
        found);
  };
}
