use Rattle.std.proofs.Common.{◌≤◌, length}
use Rattle.state_renewal.specs.Marks.{AreFlags, task_stays_at}
use Rattle.state_renewal.proofs.flags.flag_tasks.Given as goal

abbrev pub invariant-loop-n : goal.invariant-loop-n
invariant-loop-n g l = record {
  flags : AreFlags (task_stays_at l.stay l.groups.tasks) l.n l.flags.items;
  room : length l.groups.tasks ≤ l.flags.cap;
}
