use Rattle.std.proofs.Common.{◌≡◌, drop}
use Rattle.row_view.specs.Between.{has_group}
use Rattle.row_view.specs.WorkRows.{each_passes}
use Rattle.task_group.proofs.between.have_groups.Given as goal

abbrev pub invariant-loop-s : goal.invariant-loop-s
invariant-loop-s l =
    each_passes (has_group l.groups) l.s (drop l.s l.scopes)
    ≡ each_passes (has_group l.groups) 0 l.scopes
