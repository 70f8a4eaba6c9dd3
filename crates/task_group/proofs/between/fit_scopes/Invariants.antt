use Rattle.std.proofs.Common.{◌≡◌, drop}
use Rattle.row_view.specs.Between.{fits_scope}
use Rattle.row_view.specs.WorkRows.{each_passes}
use Rattle.task_group.proofs.between.fit_scopes.Given as goal

abbrev pub invariant-loop-group : goal.invariant-loop-group
invariant-loop-group l =
    each_passes (λ g group. fits_scope l.scopes group) l.group-index (drop l.group-index l.groups)
    ≡ each_passes (λ g group. fits_scope l.scopes group) 0 l.groups
