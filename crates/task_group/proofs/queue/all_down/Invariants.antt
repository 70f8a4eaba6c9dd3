use Rattle.run_model.proofs.Common.{◌≡◌, ◌≤◌, ◌-◌, false, length, vec_capacity, replicate}
use Rattle.task_group.proofs.queue.all_down.Given as goal

abbrev pub invariant-loop-flags : goal.invariant-loop-flags
invariant-loop-flags g l = record {
  down : l.flags.items ≡ replicate (length l.flags.items) false;
  room : vec_capacity l.flags ≡ l.count;
  within : length l.flags.items ≤ l.count;
}

abbrev pub decreases-loop-flags : goal.decreases-loop-flags
decreases-loop-flags g l = l.count - length l.flags.items
