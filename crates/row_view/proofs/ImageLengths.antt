-- An image has no more bytes than the greatest one of its version and layout.
use Rattle.run_model.proofs.Common.{◌≡◌, ℕ, suc, true, ◌+◌, ◌*◌, ◌-◌, ◌≤◌, List, [], ◌∷◌, ◌++◌}
use Rattle.run_model.proofs.Common.{length, drop, Some, slice_get, refl, ap, ◌∙◌, subst, arith}
use Rattle.run_model.proofs.Common.{length-append, length-drop, IsTrue, is_some, flat_map}
use Rattle.run_model.proofs.Common.{AllByRecursion, none-some, most_scopes, most_tasks, can_be_hit}
use Rattle.run_model.proofs.Common.{State}
use Rattle.std.proofs.Math.Nat.{mul-suc, mul-zero}
use Rattle.run_model.specs.declared.bounds.TheConstants.{MOST_GROUPS}
use Rattle.run_model.specs.declared.layouts.Layout.{Layout}
use Rattle.run_model.specs.declared.scopes.Hit.{Hit}
use Rattle.run_model.specs.declared.scopes.Scope.{Scope}
use Rattle.row_view.specs.declared.heads.ImageHead.{ImageHead}
use Rattle.row_view.specs.declared.heads.ImageVersion.{ImageVersion}
use Rattle.row_view.specs.declared.heads.ImageVersion.TheVariants.{One, Two}
use Rattle.row_view.specs.Image.{head_bytes, in_version, head_of, scope_bytes, group_bytes}
use Rattle.row_view.specs.Image.{task_bytes, is_kept_scope, is_kept_group, is_kept_task}
use Rattle.row_view.specs.Image.{greatest_image, task_most}
use Rattle.row_view.specs.Keeping.{IsImage}
use Rattle.row_view.proofs.RowLengths.{scope_len_most, group_len_most, task_len_most}

-- Rows of at most this many bytes each have at most that many together.
rows_most : {X : Type 0} (write : X → List ℕ) (most : ℕ) (rows : List X)
    → AllByRecursion (λ row. length (write row) ≤ most) rows
    → length (flat_map write rows) ≤ most * length rows
rows_most write most [] short = omega (arith, mul-zero most)
rows_most write most (row ∷ rows) short =
    let here : length (write row) ≤ most = short.0 in
    let there : length (flat_map write rows) ≤ most * length rows =
    rows_most write most rows short.1 in
    omega (
      arith,
      here,
      there,
      mul-suc most (length rows),
      length-append (write row) (flat_map write rows),
    )

each_from : {X : Type 0} (P Q : X → Type 0) (rows : List X) → ((x : X) → P x → Q x)
    → AllByRecursion P rows → AllByRecursion Q rows
each_from P Q [] from all = tt
each_from P Q (x ∷ rows) from all = (from x all.0, each_from P Q rows from all.1)

abbrev AreHitRight : List Scope → Type 0
AreHitRight rows = (s : ℕ) (row : Scope) (hit : Hit) → slice_get rows s ≡ Some row
    → row.hit ≡ Some hit → can_be_hit row.kind ≡ true

scopes_short : (rows : List Scope) → AllByRecursion (λ row. IsTrue (is_kept_scope row)) rows
    → AreHitRight rows → AllByRecursion (λ row. length (scope_bytes row) ≤ 192) rows
scopes_short [] kept right = tt
scopes_short (row ∷ rows) kept right = (
  scope_len_most row kept.0 (λ hit has. right 0 row hit refl has),
  scopes_short rows kept.1 (λ s r hit found has. right (suc s) r hit found has),
)

pub after_first : (rows : List Scope) (s : ℕ) (row : Scope) → slice_get (drop 1 rows) s ≡ Some row
    → slice_get rows (suc s) ≡ Some row
after_first [] s row found = absurd (none-some row found)
after_first (r ∷ rows) s row found = found

head_len : (head : ImageHead) → length (head_bytes head) ≡ 23
head_len head = by_version head.version
  where
    by_version : (version : ImageVersion) → length (head_bytes (in_version version head)) ≡ 23
    by_version One = refl
    by_version Two = refl

four_lengths : (w x y z : List ℕ)
    → length (((w ++ x) ++ y) ++ z) ≡ length w + length x + length y + length z
four_lengths w x y z =
    omega (arith, length-append ((w ++ x) ++ y) z, length-append (w ++ x) y, length-append w x)

within : (version : ImageVersion) (layout : Layout) (scopes groups tasks a b c : ℕ)
    → a ≤ 192 * scopes → b ≤ 103 * groups → c ≤ task_most version * tasks
    → scopes ≤ most_scopes layout - 1 → groups ≤ MOST_GROUPS → tasks ≤ most_tasks layout
    → 23 + a + b + c ≤ greatest_image version layout
within One layout scopes groups tasks a b c p q r few_s few_g few_t =
    omega (arith, p, q, r, few_s, few_g, few_t)
within Two layout scopes groups tasks a b c p q r few_s few_g few_t =
    omega (arith, p, q, r, few_s, few_g, few_t)

pub image_most :
    (version : ImageVersion) (layout : Layout) (bytes : List ℕ) (p : State)
    → IsImage version layout bytes p → length bytes ≤ greatest_image version layout
image_most version layout bytes p image =
    let rows = drop 1 p.tree.scopes in
    let head = head_bytes (head_of version p) in
    let scopes = flat_map scope_bytes rows in
    let groups = flat_map group_bytes p.work.groups in
    let tasks = flat_map (task_bytes version) p.work.tasks in
    let numbered = image.consistent.numbered in
    let few_scopes : length p.tree.scopes ≤ most_scopes layout =
    subst (λ l. length p.tree.scopes ≤ most_scopes l) image.has_layout.tree numbered.few_scopes in
    let few_tasks : length p.work.tasks ≤ most_tasks layout =
    subst (λ l. length p.work.tasks ≤ most_tasks l) image.has_layout.work numbered.few_tasks in
    let right : AreHitRight rows =
    λ s row hit found has.
    image.consistent.hits.kinds (suc s) row (after_first p.tree.scopes s row found)
    (ap is_some has) in
    let a = rows_most scope_bytes 192 rows (scopes_short rows image.ranged.scopes right) in
    let b = rows_most group_bytes 103 p.work.groups
    (each_from (λ row. IsTrue (is_kept_group row)) (λ row. length (group_bytes row) ≤ 103)
    p.work.groups group_len_most image.ranged.groups) in
    let c = rows_most (task_bytes version) (task_most version) p.work.tasks
    (each_from (λ row. IsTrue (is_kept_task version row))
    (λ row. length (task_bytes version row) ≤ task_most version) p.work.tasks
    (task_len_most version) image.ranged.tasks) in
    let all : 23 + length scopes + length groups + length tasks
    ≤ greatest_image version layout =
    within version layout (length rows) (length p.work.groups) (length p.work.tasks)
    (length scopes) (length groups) (length tasks) a b c
    (omega (arith, few_scopes, length-drop 1 p.tree.scopes)) numbered.few_groups few_tasks in
    let size : length bytes ≡ length head + length scopes + length groups + length tasks =
    ap (λ l. length l) image.is ∙ four_lengths head scopes groups tasks in
    omega (arith, all, size, head_len (head_of version p))
