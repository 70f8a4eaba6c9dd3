use Rattle.std.proofs.Common.{◌≡◌}
use Rattle.row_view.specs.RowReading.{task_at}
use Rattle.row_view.specs.WorkRows.{can_come}
use Rattle.task_group.proofs.ReadLoops.{ReadSoFar}
use Rattle.task_group.proofs.groups.Groups.read_tasks.Given as goal

abbrev pub invariant-loop-n : goal.invariant-loop-n
invariant-loop-n g l = record {
  rows : ReadSoFar (task_at l.head.version) (can_come l.initial.self.layout l.initial.self.groups)
      l.head.tasks l.n l.initial.self.tasks l.self.tasks l.bytes l.rest;
  groups : l.self.groups ≡ l.initial.self.groups;
  layout : l.self.layout ≡ l.initial.self.layout;
}
