-- An image is read part by part, and whatever is read that way is an image.
use Rattle.run_model.proofs.Common.{◌≡◌, ◌<◌, ℕ, ◌==◌, ◌&&◌, List, [], ◌++◌, length, drop, Some}
use Rattle.run_model.proofs.Common.{refl, sym, ap, ◌∙◌, subst, arith, append_assoc, length-drop}
use Rattle.run_model.proofs.Common.{IsTrue, flat_map, eqb-true, append-nil, cond_some}
use Rattle.run_model.proofs.Common.{slice_get_within, root, State, TreeState, WorkState}
use Rattle.std.proofs.lemmas.List.{nil_from_length}
use Rattle.run_model.specs.declared.layouts.Layout.{Layout}
use Rattle.row_view.specs.declared.heads.ImageHead.{ImageHead}
use Rattle.row_view.specs.declared.heads.ImageVersion.{ImageVersion}
use Rattle.row_view.specs.Fields.{◌>>=◌}
use Rattle.row_view.specs.Image.{head_bytes, head_of, scope_bytes, group_bytes, task_bytes}
use Rattle.row_view.specs.Image.{is_kept_head}
use Rattle.row_view.specs.Keeping.{IsImage}
use Rattle.row_view.specs.RowReading.{head_at}
use Rattle.row_view.proofs.Codecs.{through, first_true, second_true}
use Rattle.row_view.proofs.RowCodecs.{head_field}
use Rattle.scope_tree.specs.TreeRows.{tree_at}
use Rattle.scope_tree.specs.TreeRules.{AreTreeRows}
use Rattle.scope_tree.proofs.TreeReads.{tree_again, tree_takes}
use Rattle.row_view.specs.Between.{fits_between}
use Rattle.scope_tree.specs.Whole.{image_at, joined, whole}
use Rattle.row_view.specs.WorkRows.{AreWorkRows, work_at}
use Rattle.scope_tree.proofs.BetweenReads.{between_test, between_from}
use Rattle.scope_tree.proofs.Parts.{tree_part, work_part, cross_part, all_parts}
use Rattle.row_view.proofs.WorkReads.{work_again, work_takes}

regrouped : (w x y z : List ℕ) → ((w ++ x) ++ y) ++ z ≡ w ++ (x ++ (y ++ (z ++ [])))
regrouped w x y z =
    append_assoc (w ++ x) y z ∙ append_assoc w x (y ++ z)
    ∙ ap (λ l. w ++ (x ++ (y ++ l))) (sym (append-nil z))

pub image_again : (version : ImageVersion) (layout : Layout) (bytes : List ℕ) (p : State)
    → IsImage version layout bytes p → image_at layout bytes ≡ Some (version, p)
unfolding image_at
image_again version layout bytes p image =
    let head = head_of version p in
    let scopes = flat_map scope_bytes (drop 1 p.tree.scopes) in
    let groups = flat_map group_bytes p.work.groups in
    let tasks = flat_map (task_bytes version) p.work.tasks in
    let some : 0 < length p.tree.scopes =
    slice_get_within p.tree.scopes 0 root image.consistent.numbered.rooted in
    let tree = tree_again layout head (scopes ++ (groups ++ (tasks ++ []))) p.tree
    (groups ++ (tasks ++ []))
    (record {
      has_layout = image.has_layout.tree;
      clock = refl;
      moment = first_true _ _ (first_true _ _ (first_true _ _ (first_true _ _
          image.ranged.head)));
      many = omega (arith, some, length-drop 1 p.tree.scopes);
      rules = tree_part p image.consistent;
      kept = image.ranged.scopes;
      spelled = refl;
    }) in
    let work = work_again layout head (groups ++ (tasks ++ [])) p.work []
    (record {
      has_layout = image.has_layout.work;
      groups = refl;
      tasks = refl;
      rules = work_part p image.consistent;
      kept_groups = image.ranged.groups;
      kept_tasks = image.ranged.tasks;
      spelled = refl;
    }) in
    rw (
      image.is,
      regrouped (head_bytes head) scopes groups tasks,
      (head_field layout).again head (scopes ++ (groups ++ (tasks ++ []))) image.ranged.head,
      tree,
      work,
      between_test p (cross_part p image.consistent),
    )

image_of : (layout : Layout) (bytes r1 r2 r3 : List ℕ) (head : ImageHead) (tree : TreeState)
    (work : WorkState) → bytes ≡ head_bytes head ++ r1 → IsTrue (is_kept_head layout head)
    → AreTreeRows layout head r1 tree r2 → AreWorkRows layout head r2 work r3 → r3 ≡ []
    → IsTrue (fits_between tree.scopes work.groups)
    → IsImage head.version layout bytes (whole head tree work)
image_of layout bytes r1 r2 r3 head tree work spelled ok t w nothing fits =
    let q = whole head tree work in
    let many = t.many in
    let same : head ≡ head_of head.version q = head_same head tree.clock _ _ _ t.clock
    (omega (arith, many, length-drop 1 tree.scopes)) (sym w.groups) (sym w.tasks) in
    let scopes = flat_map scope_bytes (drop 1 tree.scopes) in
    let groups = flat_map group_bytes work.groups in
    let tasks = flat_map (task_bytes head.version) work.tasks in
    record {
      is =
          spelled
          ∙ ap (λ l. head_bytes head ++ l)
          (t.spelled ∙ ap (λ l. scopes ++ l)
          (w.spelled ∙ ap (λ l. groups ++ (tasks ++ l)) nothing))
          ∙ ap (λ h. head_bytes h ++ (scopes ++ (groups ++ (tasks ++ [])))) same
          ∙ sym (regrouped (head_bytes (head_of head.version q)) scopes groups tasks);
      has_layout = record { tree = t.has_layout; work = w.has_layout };
      ranged = record {
        head = subst (λ h. IsTrue (is_kept_head layout h)) same ok;
        scopes = t.kept;
        groups = w.kept_groups;
        tasks = w.kept_tasks;
      };
      consistent = all_parts q (w.has_layout ∙ sym t.has_layout) t.rules w.rules
          (between_from q w.rules fits);
    }
  where
    head_same : (head : ImageHead) (c s g n : ℕ) → c ≡ head.clock → head.scopes ≡ s
        → head.groups ≡ g → head.tasks ≡ n → head ≡ record {
          version = head.version;
          clock = c;
          count = head.count;
          scopes = s;
          groups = g;
          tasks = n;
        }
    head_same head c s g n d e f h = rw (d, ← e, ← f, ← h)

pub image_takes : (version : ImageVersion) (layout : Layout) (bytes : List ℕ) (p : State)
    → image_at layout bytes ≡ Some (version, p) → IsImage version layout bytes p
unfolding image_at
image_takes version layout bytes p e =
    let after_tree = λ (head : ImageHead) (tree : TreeState × List ℕ).
    work_at layout head tree.1 >>= joined head tree.0 in
    let after_head = λ (head : ImageHead × List ℕ).
    tree_at layout head.0 head.1 >>= after_tree head.0 in
    let head = through (head_at layout bytes) after_head (version, p) e in
    let tree = through (tree_at layout head.0.0 head.0.1) (after_tree head.0.0) (version, p)
    head.2 in
    let work = through (work_at layout head.0.0 tree.0.1) (joined head.0.0 tree.0.0) (version, p)
    tree.2 in
    let ok = cond_some (length work.0.1 == 0 && fits_between tree.0.0.scopes work.0.0.groups)
    (head.0.0.version, whole head.0.0 tree.0.0 work.0.0) (version, p) work.2 in
    let nothing = nil_from_length work.0.1
    (eqb-true (length work.0.1) 0 (first_true _ _ ok.0)) in
    let taken = (head_field layout).takes bytes head.0 head.1 in
    let P : ImageVersion × State → Type 0 = λ x. IsImage x.0 layout bytes x.1 in
    subst P ok.1
    (image_of layout bytes head.0.1 tree.0.1 work.0.1 head.0.0 tree.0.0 work.0.0 taken.spelled
    taken.tested (tree_takes layout head.0.0 head.0.1 tree.0.0 tree.0.1 tree.1)
    (work_takes layout head.0.0 tree.0.1 work.0.0 work.0.1 work.1) nothing
    (second_true _ _ ok.0))
