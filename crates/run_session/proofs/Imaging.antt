-- The image of a state, piece by piece.
use Rattle.run_model.proofs.Common.{◌≡◌, ◌≤◌, ◌<◌, ℕ, ◌+◌, ◌-◌, ◌^◌, ◌&&◌, true, false, List, ◌++◌}
use Rattle.run_model.proofs.Common.{length, drop, Some, None, refl, sym, ap, ◌∙◌, arith}
use Rattle.run_model.proofs.Common.{append_assoc, length-append, length-drop, subst, flat_map}
use Rattle.run_model.proofs.Common.{AllByRecursion, IsTrue, ◌==◌, Result, Ok, Err, IfErr, lt-ltb}
use Rattle.run_model.proofs.Common.{le-leb, none-some, slice_get_within, most_scopes, most_tasks}
use Rattle.run_model.proofs.Common.{root, IsConsistent, State, TreeState, WorkState, new_work}
use Rattle.run_model.specs.declared.bounds.TheConstants.{MOST_GROUPS, GREATEST_MOMENT}
use Rattle.run_model.specs.declared.layouts.Layout.{Layout}
use Rattle.row_view.specs.declared.heads.ImageHead.{ImageHead}
use Rattle.row_view.specs.declared.heads.ImageVersion.TheVariants.{Two}
use Rattle.row_view.specs.Between.{fits_between}
use Rattle.row_view.specs.Image.{group_bytes, head_bytes, head_of, image, is_kept_group}
use Rattle.row_view.specs.Image.{is_kept_head, is_kept_scope, is_kept_task, scope_bytes}
use Rattle.row_view.specs.Image.{task_bytes}
use Rattle.row_view.specs.Keeping.{IsImage, Rows}
use Rattle.row_view.specs.RowReading.{head_at}
use Rattle.row_view.specs.WorkRows.{AreWorkRows}
use Rattle.row_view.specs.Writing.{put_at}
use Rattle.row_view.proofs.Joins.{put_then}
use Rattle.scope_tree.specs.TreeRows.{tree_at}
use Rattle.scope_tree.specs.Whole.{image_at, whole}
use Rattle.scope_tree.proofs.WholeReads.{image_again}
use Rattle.row_view.proofs.WorkReads.{nothing_read, work_again}
use Rattle.run_model.proofs.Common.{and_from}

-- ---- reading

pub if_err : {T E : Type 0} (r : Result T E) (P : Type 0) → P → IfErr r (λ _. P)
if_err (Ok x) P p = tt
if_err (Err e) P p = p

-- If nothing is read, the bytes are the image of no state.
pub no_image : (layout : Layout) (bytes : List ℕ) → image_at layout bytes ≡ None → (p : State)
    → Rows layout bytes p → ⊥
no_image layout bytes none p rows =
    none-some (rows.0, p) (sym none ∙ image_again rows.0 layout bytes p rows.1)

pub no_head : (layout : Layout) (bytes : List ℕ) → head_at layout bytes ≡ None
    → image_at layout bytes ≡ None
unfolding image_at
no_head layout bytes none = rw none refl

pub no_tree : (layout : Layout) (bytes r1 : List ℕ) (head : ImageHead)
    → tree_at layout head r1 ≡ None → head_at layout bytes ≡ Some (head, r1)
    → image_at layout bytes ≡ None
unfolding image_at
no_tree layout bytes r1 head none h = rw (h, none) refl

-- New groups are read in the layout with which they were made.
pub read_there : (layout : Layout) (new work : WorkState) (head : ImageHead)
    (bytes rest : List ℕ) → new ≡ new_work layout
    → AreWorkRows new.layout head bytes work rest → AreWorkRows layout head bytes work rest
read_there layout new work head bytes rest is rows =
    subst (λ (l : Layout). AreWorkRows l head bytes work rest)
    (ap (λ (w : WorkState). w.layout) is) rows

pub no_work : (layout : Layout) (bytes r1 r2 : List ℕ) (head : ImageHead) (tree : TreeState)
    → tree_at layout head r1 ≡ Some (tree, r2)
    → ((w : WorkState) (rest : List ℕ) → AreWorkRows layout head r2 w rest → ⊥)
    → head_at layout bytes ≡ Some (head, r1) → image_at layout bytes ≡ None
unfolding image_at
no_work layout bytes r1 r2 head tree t none h = rw (h, t, nothing_read layout head r2 none) refl

pub no_fit : (layout : Layout) (bytes r1 r2 r3 : List ℕ) (head : ImageHead) (tree : TreeState)
    (work : WorkState) → tree_at layout head r1 ≡ Some (tree, r2)
    → AreWorkRows layout head r2 work r3
    → (length r3 == 0 && fits_between tree.scopes work.groups) ≡ false
    → head_at layout bytes ≡ Some (head, r1) → image_at layout bytes ≡ None
unfolding image_at
no_fit layout bytes r1 r2 r3 head tree work t rows fits h =
    rw (h, t, work_again layout head r2 work r3 rows, fits) refl

pub parts_fit : (layout : Layout) (bytes r1 r2 r3 : List ℕ) (head : ImageHead) (tree : TreeState)
    (work : WorkState) → tree_at layout head r1 ≡ Some (tree, r2)
    → AreWorkRows layout head r2 work r3
    → (length r3 == 0 && fits_between tree.scopes work.groups) ≡ true
    → head_at layout bytes ≡ Some (head, r1)
    → image_at layout bytes ≡ Some (head.version, whole head tree work)
unfolding image_at
parts_fit layout bytes r1 r2 r3 head tree work t rows fits h =
    rw (h, t, work_again layout head r2 work r3 rows, fits) refl

-- ---- writing

pub written : (p : State) (old first second third : List ℕ) (e : ℕ)
    → first ≡ put_at old 0 (head_bytes (head_of Two p))
    → second ≡ put_at first 23 (flat_map scope_bytes (drop 1 p.tree.scopes))
    → e ≡ 23 + length (flat_map scope_bytes (drop 1 p.tree.scopes))
    → third
    ≡ put_at second e (flat_map group_bytes p.work.groups ++ flat_map (task_bytes Two) p.work.tasks)
    → e ≤ length old → third ≡ put_at old 0 (image p)
written p old first second third e one two end three room =
    let head = head_bytes (head_of Two p) in
    let scopes = flat_map scope_bytes (drop 1 p.tree.scopes) in
    let groups = flat_map group_bytes p.work.groups in
    let tasks = flat_map (task_bytes Two) p.work.tasks in
    let size : length head ≡ 23 = refl in
    let prefix : second ≡ put_at old 0 (head ++ scopes) =
    two ∙ ap (λ o. put_at o 23 scopes) one
    ∙ put_then old 0 23 head scopes (omega (arith, size)) (omega (arith, room, end)) in
    three ∙ ap (λ o. put_at o e (groups ++ tasks)) prefix
    ∙ put_then old 0 e (head ++ scopes) (groups ++ tasks)
    (omega (arith, end, size, length-append head scopes)) room
    ∙ ap (put_at old 0) (sym (append_assoc (head ++ scopes) groups tasks))

-- The fields of a consistent state are in range if those of its rows are.
pub ranged : (p : State) → IsConsistent p → p.tree.clock ≤ GREATEST_MOMENT → p.count < 2 ^ 63
    → AllByRecursion (λ row. IsTrue (is_kept_scope row)) (drop 1 p.tree.scopes)
    → AllByRecursion (λ row. IsTrue (is_kept_group row)) p.work.groups
    → AllByRecursion (λ row. IsTrue (is_kept_task Two row)) p.work.tasks
    → IsImage Two p.tree.layout (image p) p
ranged p rules clock few scopes groups tasks = record {
  is = refl;
  has_layout = record { tree = refl; work = rules.numbered.one_layout };
  ranged = record { head = head; scopes = scopes; groups = groups; tasks = tasks };
  consistent = rules;
}
  where
    few_tasks : length p.work.tasks ≤ most_tasks p.tree.layout
    few_tasks =
        subst (λ l. length p.work.tasks ≤ most_tasks l) rules.numbered.one_layout
        rules.numbered.few_tasks

    head : IsTrue (is_kept_head p.tree.layout (head_of Two p))
    head =
        let some = slice_get_within p.tree.scopes 0 root rules.numbered.rooted in
        let rest : length (drop 1 p.tree.scopes) ≡ length p.tree.scopes - 1 =
        length-drop 1 p.tree.scopes in
        and_from _ _
        (and_from _ _
        (and_from _ _
        (and_from _ _ (le-leb p.tree.clock GREATEST_MOMENT clock)
        (lt-ltb p.count (2 ^ 63) few))
        (lt-ltb (length (drop 1 p.tree.scopes)) (most_scopes p.tree.layout)
        (omega (arith, some, rest, rules.numbered.few_scopes))))
        (lt-ltb (length p.work.groups) (MOST_GROUPS + 1)
        (omega (arith, rules.numbered.few_groups))))
        (lt-ltb (length p.work.tasks) (most_tasks p.tree.layout + 1) (omega (arith, few_tasks)))
