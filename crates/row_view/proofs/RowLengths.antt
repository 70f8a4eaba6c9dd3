-- The greatest number of bytes in a row.
use Rattle.run_model.proofs.Common.{◌≡◌, ℕ, ◌+◌, ◌≤◌, Bool, true, false, length, Option, Some}
use Rattle.run_model.proofs.Common.{None, refl, arith, IsTrue, can_be_hit, is_moment, text_bytes}
use Rattle.run_model.proofs.Common.{optional_bytes, kind_bytes, to_be_bytes, w16, w64}
use Rattle.run_model.specs.declared.scopes.Kind.{Kind}
use Rattle.run_model.specs.declared.scopes.Kind.TheVariants as kind
use Rattle.run_model.specs.declared.scopes.Reason.{Reason}
use Rattle.run_model.specs.declared.scopes.Reason.TheVariants.{Canceled, DeadlineExceeded}
use Rattle.run_model.specs.declared.scopes.Hit.{Hit}
use Rattle.run_model.specs.declared.scopes.Scope.{Scope}
use Rattle.run_model.specs.Lengths.{optional_len}
use Rattle.run_model.specs.declared.groups.Group.{Group}
use Rattle.run_model.specs.declared.tasks.Stage.{Stage}
use Rattle.run_model.specs.declared.tasks.Stage.TheVariants as stage
use Rattle.run_model.specs.declared.tasks.Task.{Task}
use Rattle.row_view.specs.declared.heads.ImageVersion.{ImageVersion}
use Rattle.row_view.specs.declared.heads.ImageVersion.TheVariants.{One, Two}
use Rattle.run_model.specs.Spelling.{limit_bytes}
use Rattle.row_view.specs.Image.{reason_bytes, hit_bytes, scope_bytes, flag_bytes, stage_bytes}
use Rattle.row_view.specs.Image.{link_bytes, group_bytes, task_bytes, task_most, is_kept_group}
use Rattle.row_view.specs.Image.{is_kept_stage, is_kept_task, is_kept_kind, is_kept_hit}
use Rattle.row_view.specs.Image.{is_kept_scope}
use Rattle.row_view.proofs.Codecs.{first_true, second_true}
use Rattle.row_view.proofs.Lengths.{name_len, text_len, optional_len_most, kind_len_most}
use Rattle.run_model.proofs.Lengths.{length-kind_bytes, length-optional_bytes, length-limit_bytes}
use Rattle.row_view.proofs.RowJoins.{length_four, length_five, length_six}

reason_len : (reason : Reason) → length (reason_bytes reason) ≡ 1
reason_len Canceled = refl
reason_len DeadlineExceeded = refl

hit_len : (hit : Option Hit) → is_kept_hit hit ≡ true → length (hit_bytes hit) ≤ 83
hit_len None ok = omega arith
hit_len (Some hit) ok =
    let most : length hit.cause ≤ 64 = text_len hit.cause (second_true _ _ ok) in
    omega (
      arith,
      reason_len hit.reason,
      length_four (to_be_bytes w64 hit.event) (to_be_bytes w64 hit.moment) (reason_bytes hit.reason)
          (text_bytes hit.cause),
    )

flag_len : (flag : Bool) → length (flag_bytes flag) ≡ 1
flag_len true = refl
flag_len false = refl

stage_len : (made : Stage) → is_kept_stage made ≡ true → length (stage_bytes made) ≤ 66
stage_len stage.Fresh ok = omega arith
stage_len stage.Running ok = omega arith
stage_len stage.Success ok = omega arith
stage_len (stage.Failure text) ok = let most = text_len text ok in omega arith
stage_len stage.Interrupted ok = omega arith

link_len :
    (version : ImageVersion) (link : Option ℕ) →
    length (link_bytes version link) + 134 ≡ task_most version
link_len One link = refl
link_len Two None = refl
link_len Two (Some n) = refl

-- A kind takes 99 bytes at most, and one that can be hit 74.
kind_most : (made : Kind) → is_kept_kind made ≡ true → length (kind_bytes made) ≤ 99
kind_most kind.Root ok = omega arith
kind_most kind.Cancel ok = omega arith
kind_most kind.Cause ok = omega arith
kind_most (kind.Deadline moment cause) ok =
    let size = length-kind_bytes (kind.Deadline moment cause) in
    let most = kind_len_most (kind.Deadline moment cause) ok in
    omega arith
kind_most (kind.Value key text) ok =
    let size = length-kind_bytes (kind.Value key text) in
    let most = kind_len_most (kind.Value key text) ok in
    omega arith
kind_most kind.Detached ok = omega arith
kind_most kind.Group ok = omega arith

hit_kind_most :
    (made : Kind) → is_kept_kind made ≡ true → can_be_hit made ≡ true →
    length (kind_bytes made) ≤ 74
hit_kind_most kind.Root ok can = omega arith
hit_kind_most kind.Cancel ok can = omega arith
hit_kind_most kind.Cause ok can = omega arith
hit_kind_most (kind.Deadline moment cause) ok can =
    let size = length-kind_bytes (kind.Deadline moment cause) in
    let most : optional_len cause ≤ 65 =
    optional_len_most cause (second_true (is_moment moment) _ ok) in
    omega arith
hit_kind_most (kind.Value key text) ok can = absurd (cc)
hit_kind_most kind.Detached ok can = omega arith
hit_kind_most kind.Group ok can = omega arith

kind_and_hit :
    (made : Kind) (hit : Option Hit) → is_kept_kind made ≡ true → is_kept_hit hit ≡ true →
    ((h : Hit) → hit ≡ Some h → can_be_hit made ≡ true) →
    length (kind_bytes made) + length (hit_bytes hit) ≤ 157
kind_and_hit made None ok hits can = let most = kind_most made ok in omega arith
kind_and_hit made (Some hit) ok hits can =
    let most = hit_kind_most made ok (can hit refl) in
    let more = hit_len (Some hit) hits in
    omega arith

-- The row of a scope that has a hit only if its kind can be hit has at most 192 bytes.
pub scope_len_most :
    (row : Scope) → IsTrue (is_kept_scope row) →
    ((hit : Hit) → row.hit ≡ Some hit → can_be_hit row.kind ≡ true) →
    length (scope_bytes row) ≤ 192
scope_len_most row ok can =
    let named : length row.name ≤ 32 =
    name_len row.name (first_true _ _ (first_true _ _ (first_true _ _ ok))) in
    let most = kind_and_hit row.kind row.hit (second_true _ _ (first_true _ _ ok))
    (second_true _ _ ok) can in
    omega (
      arith,
      length_four (text_bytes row.name) (to_be_bytes w16 row.parent) (kind_bytes row.kind)
          (hit_bytes row.hit),
    )

-- The row of a group has 103 bytes at most.
pub group_len_most : (row : Group) → IsTrue (is_kept_group row) → length (group_bytes row) ≤ 103
group_len_most row ok =
    let named : length row.name ≤ 32 =
    name_len row.name (first_true _ _ (first_true _ _ (first_true _ _ (first_true _ _
    (first_true _ _ ok))))) in
    let error : optional_len row.error ≤ 65 = optional_len_most row.error (second_true _ _ ok) in
    omega (
      arith,
      flag_len row.bare,
      length-limit_bytes row.limit,
      flag_len row.waited,
      length-optional_bytes row.error,
      length_six (text_bytes row.name) (to_be_bytes w16 row.scope) (flag_bytes row.bare)
          (limit_bytes row.limit) (flag_bytes row.waited) (optional_bytes row.error),
    )

-- The row of a task has 134 bytes at most, and two more with its link.
pub task_len_most :
    (version : ImageVersion) (row : Task) → IsTrue (is_kept_task version row) →
    length (task_bytes version row) ≤ task_most version
task_len_most version row ok =
    let job : length row.job ≤ 32 =
    name_len row.job (second_true _ _ (first_true _ _ (first_true _ _ (first_true _ _ ok)))) in
    let argument : length row.argument ≤ 32 =
    name_len row.argument (second_true _ _ (first_true _ _ (first_true _ _ ok))) in
    let stage = stage_len row.stage (second_true _ _ (first_true _ _ ok)) in
    let link = link_len version row.retry_of in
    omega (
      arith,
      job,
      argument,
      stage,
      link,
      length_five (to_be_bytes w16 row.group) (text_bytes row.job) (text_bytes row.argument)
          (stage_bytes row.stage) (link_bytes version row.retry_of),
    )
