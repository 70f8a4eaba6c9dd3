-- The image of a renewed state: each field of its rows is in range, if those of the old rows were.
use Rattle.run_model.proofs.Common.{◌≡◌, ◌<◌, ◌≤◌, ◌+◌, ◌^◌, ◌&&◌, ℕ, zero, suc, Bool, true, List}
use Rattle.run_model.proofs.Common.{[], ◌∷◌, length, drop, Option, Some, None, slice_get, refl}
use Rattle.run_model.proofs.Common.{sym, ap, subst, ◌∙◌, arith, AllByRecursion, option_map, IsTrue}
use Rattle.run_model.proofs.Common.{nat_lt, and_parts, and_from, ltb-true, lt-ltb, false≢true}
use Rattle.run_model.proofs.Common.{length-drop, slice_get_within, most_scopes, most_tasks}
use Rattle.run_model.proofs.Common.{is_row_number, is_moment, is_limit, is_optional_text}
use Rattle.run_model.proofs.Common.{IsConsistent, HasLayout, AreNumbered, State, is_name}
use Rattle.run_model.specs.declared.bounds.TheConstants.{MOST_GROUPS}
use Rattle.run_model.specs.declared.groups.Group.{Group}
use Rattle.run_model.specs.declared.layouts.Layout.{Layout}
use Rattle.run_model.specs.declared.scopes.Scope.{Scope}
use Rattle.run_model.specs.declared.tasks.Task.{Task}
use Rattle.row_view.specs.declared.heads.ImageVersion.{ImageVersion}
use Rattle.row_view.specs.declared.heads.ImageVersion.TheVariants.{One, Two}
use Rattle.row_view.specs.Image.{image, head_of, is_kept_head, is_kept_scope, is_kept_group}
use Rattle.row_view.specs.Image.{is_kept_task, is_kept_kind, is_kept_hit, is_kept_stage}
use Rattle.row_view.specs.Image.{is_kept_link}
use Rattle.row_view.specs.Keeping.{IsImage}
use Rattle.model_laws.proofs.Tests.{all_four, all_five}
use Rattle.state_renewal.specs.Renewed.{new_number, keeps_scope, keeps_group, keeps_task}
use Rattle.state_renewal.specs.Renewed.{scope_renewed, group_renewed, task_renewed, renewed}
use Rattle.state_renewal.proofs.Numbers.{number_at_most}
use Rattle.state_renewal.proofs.RulesKept.{scope_from, group_from, task_from, rules_kept}
use Rattle.state_renewal.proofs.Keeps.{all_at}

-- ---- all rows

all_from : {X : Type 0} (P : X → Type 0) (rows : List X)
    → ((n : ℕ) (x : X) → slice_get rows n ≡ Some x → P x) → AllByRecursion P rows
all_from P [] each = tt
all_from P (row ∷ rows) each = (each zero row refl, all_from P rows (λ n. each (suc n)))

-- After the first row, numbers are one less.
after_get : {X : Type 0} (rows : List X) (n : ℕ)
    → slice_get (drop 1 rows) n ≡ slice_get rows (suc n)
after_get [] n = refl
after_get (row ∷ rows) n = refl

-- ---- fields

from_five : (a b c d e : Bool) → a ≡ true → b ≡ true → c ≡ true → d ≡ true → e ≡ true
    → (a && b && c && d && e) ≡ true
from_five a b c d e is_a is_b is_c is_d is_e =
    and_from (a && b && c && d) e
    (and_from (a && b && c) d (and_from (a && b) c (and_from a b is_a is_b) is_c) is_d) is_e

lesser_number : (most n m : ℕ) → m ≤ n → IsTrue (nat_lt n most) → IsTrue (nat_lt m most)
lesser_number most n m less is =
    let below : n < most = ltb-true n most is in lt-ltb m most (omega (arith, less, below))

link_kept : (new : ℕ → ℕ) → ((n : ℕ) → new n ≤ n) → (version : ImageVersion) (o : Option ℕ)
    → IsTrue (is_kept_link version o) → IsTrue (is_kept_link Two (option_map new o))
link_kept new less One None is = refl
link_kept new less One (Some n) is = absurd (false≢true is)
link_kept new less Two None is = refl
link_kept new less Two (Some n) is = lesser_number 65535 n (new n) (less n) is

scope_in_range : (p : State) (row : Scope) → IsTrue (is_kept_scope row)
    → IsTrue (is_kept_scope (scope_renewed p row))
scope_in_range p row is =
    let new = new_number (keeps_scope p) row.parent in
    let parts =
    all_four (is_name row.name) (is_row_number row.parent) (is_kept_kind row.kind)
    (is_kept_hit row.hit) is in
    let now =
    lesser_number (2 ^ 16) row.parent new (number_at_most (keeps_scope p) row.parent) parts.1 in
    ap (λ b. is_name row.name && b && is_kept_kind row.kind && is_kept_hit row.hit)
    (now ∙ sym parts.1)
    ∙ is

group_in_range : (p : State) (row : Group) → IsTrue (is_kept_group row)
    → IsTrue (is_kept_group (group_renewed p row))
group_in_range p row is =
    let new = new_number (keeps_scope p) row.scope in
    let cons =
    and_parts (is_name row.name && is_row_number row.scope && true && is_limit row.limit && true)
    (is_optional_text row.error) is in
    let parts =
    all_five (is_name row.name) (is_row_number row.scope) true (is_limit row.limit) true cons.0 in
    let now =
    lesser_number (2 ^ 16) row.scope new (number_at_most (keeps_scope p) row.scope) parts.1 in
    ap (λ b. is_name row.name && b && true && is_limit row.limit && true
    && is_optional_text row.error) (now ∙ sym parts.1)
    ∙ is

task_in_range : (p : State) (version : ImageVersion) (row : Task)
    → IsTrue (is_kept_task version row) → IsTrue (is_kept_task Two (task_renewed p row))
task_in_range p version row is =
    let new = new_number (keeps_group p) row.group in
    let link = is_kept_link Two (option_map (new_number (keeps_task p)) row.retry_of) in
    let parts =
    all_five (is_row_number row.group) (is_name row.job) (is_name row.argument)
    (is_kept_stage row.stage) (is_kept_link version row.retry_of) is in
    let now =
    lesser_number (2 ^ 16) row.group new (number_at_most (keeps_group p) row.group) parts.0 in
    let links =
    link_kept (new_number (keeps_task p)) (number_at_most (keeps_task p)) version row.retry_of
    parts.4 in
    from_five (is_row_number new) (is_name row.job) (is_name row.argument)
    (is_kept_stage row.stage) link now parts.1 parts.2 parts.3 links

-- ---- rows

scope_ranged : (p : State)
    → AllByRecursion (λ row. IsTrue (is_kept_scope row)) (drop 1 p.tree.scopes)
    → (m : ℕ) (row : Scope) → slice_get (renewed p).tree.scopes (suc m) ≡ Some row
    → IsTrue (is_kept_scope row)
scope_ranged p all m row found =
    let of = scope_from p (suc m) row found in
    by_number of.n of.old of.number of.found (ap is_kept_scope of.restated)
  where
    by_number : (s : ℕ) (old : Scope) → suc m ≡ new_number (keeps_scope p) s
        → slice_get p.tree.scopes s ≡ Some old
        → is_kept_scope row ≡ is_kept_scope (scope_renewed p old) → IsTrue (is_kept_scope row)
    by_number zero old number at same = absurd (omega (arith, number))
    by_number (suc s) old number at same =
        same
        ∙ scope_in_range p old
        (all_at (λ r. IsTrue (is_kept_scope r)) (drop 1 p.tree.scopes) all s old
        (after_get p.tree.scopes s ∙ at))

few_after : (p : State) (layout : Layout) → HasLayout p layout → AreNumbered p
    → IsTrue (nat_lt (length (drop 1 p.tree.scopes)) (most_scopes layout))
few_after p layout has numbered =
    let few : length p.tree.scopes ≤ most_scopes layout =
    subst (λ l. length p.tree.scopes ≤ most_scopes l) has.tree numbered.few_scopes in
    let some = slice_get_within p.tree.scopes 0 _ numbered.rooted in
    let less = length-drop 1 p.tree.scopes in
    lt-ltb (length (drop 1 p.tree.scopes)) (most_scopes layout) (omega (arith, few, some, less))

head_in_range : (p : State) (version : ImageVersion) (layout : Layout)
    → IsTrue (is_kept_head layout (head_of version p)) → HasLayout p layout → IsConsistent p
    → IsTrue (is_kept_head layout (head_of Two (renewed p)))
head_in_range p version layout is has consistent =
    let rules = rules_kept p consistent in
    let now : HasLayout (renewed p) layout = record { tree = has.tree; work = has.work } in
    let scopes = nat_lt (length (drop 1 p.tree.scopes)) (most_scopes layout) in
    let groups = nat_lt (length p.work.groups) (MOST_GROUPS + 1) in
    let tasks = nat_lt (length p.work.tasks) (most_tasks layout + 1) in
    let parts =
    all_five (is_moment p.tree.clock) (nat_lt p.count (2 ^ 63)) scopes groups tasks is in
    let few_groups = rules.numbered.few_groups in
    let few_tasks : length (renewed p).work.tasks ≤ most_tasks layout =
    subst (λ l. length (renewed p).work.tasks ≤ most_tasks l) has.work rules.numbered.few_tasks in
    let new_scopes = nat_lt (length (drop 1 (renewed p).tree.scopes)) (most_scopes layout) in
    let new_groups = nat_lt (length (renewed p).work.groups) (MOST_GROUPS + 1) in
    let new_tasks = nat_lt (length (renewed p).work.tasks) (most_tasks layout + 1) in
    from_five (is_moment p.tree.clock)
    (nat_lt p.count (2 ^ 63)) new_scopes new_groups new_tasks parts.0
    parts.1 (few_after (renewed p) layout now rules.numbered)
    (lt-ltb (length (renewed p).work.groups) (MOST_GROUPS + 1) (omega (arith, few_groups)))
    (lt-ltb (length (renewed p).work.tasks) (most_tasks layout + 1) (omega (arith, few_tasks)))

pub has_image : (version : ImageVersion) (layout : Layout) (bytes : List ℕ) (p : State)
    → IsImage version layout bytes p → IsImage Two layout (image (renewed p)) (renewed p)
has_image version layout bytes p is = record {
  is = refl;
  has_layout = record { tree = is.has_layout.tree; work = is.has_layout.work };
  ranged = record {
    head = head_in_range p version layout is.ranged.head is.has_layout is.consistent;
    scopes =
        all_from (λ row. IsTrue (is_kept_scope row)) (drop 1 (renewed p).tree.scopes)
        (λ m row found.
        scope_ranged p is.ranged.scopes m row
        (sym (after_get (renewed p).tree.scopes m) ∙ found));
    groups =
        all_from (λ row. IsTrue (is_kept_group row)) (renewed p).work.groups
        (λ m row found.
        let of = group_from p m row found in
        ap is_kept_group of.restated
        ∙ group_in_range p of.old
        (all_at (λ r. IsTrue (is_kept_group r)) p.work.groups is.ranged.groups of.n of.old
        of.found));
    tasks =
        all_from (λ row. IsTrue (is_kept_task Two row)) (renewed p).work.tasks
        (λ m row found.
        let of = task_from p m row found in
        ap (is_kept_task Two) of.restated
        ∙ task_in_range p version of.old
        (all_at (λ r. IsTrue (is_kept_task version r)) p.work.tasks is.ranged.tasks of.n of.old
        of.found));
  };
  consistent = rules_kept p is.consistent;
}
