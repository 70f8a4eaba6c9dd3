use Rattle.std.proofs.Common.{◌≡◌, drop}
use Rattle.row_view.specs.WorkRows.{each_passes, is_settled}
use Rattle.task_group.proofs.groups.Groups.are_settled.Given as goal

abbrev pub invariant-loop-g : goal.invariant-loop-g
invariant-loop-g g l =
    each_passes (is_settled l.self) l.g (drop l.g l.self.groups)
    ≡ each_passes (is_settled l.self) 0 l.self.groups
