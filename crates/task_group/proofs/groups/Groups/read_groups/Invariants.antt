use Rattle.std.proofs.Common.{◌≡◌}
use Rattle.row_view.specs.RowReading.{group_row_at}
use Rattle.row_view.specs.WorkRows.{has_new_name}
use Rattle.task_group.proofs.ReadLoops.{ReadSoFar}
use Rattle.task_group.proofs.groups.Groups.read_groups.Given as goal

abbrev pub invariant-loop-n : goal.invariant-loop-n
invariant-loop-n g l = record {
  rows : ReadSoFar group_row_at has_new_name l.many l.n l.initial.self.groups l.self.groups l.bytes
      l.rest;
  tasks : l.self.tasks ≡ l.initial.self.tasks;
  layout : l.self.layout ≡ l.initial.self.layout;
}
