use Rattle.std.proofs.Common.{◌≤◌, length}
use Rattle.state_renewal.specs.Marks.{AreFlags, group_stays_at}
use Rattle.state_renewal.proofs.flags.flag_groups.Given as goal

abbrev pub invariant-loop-g : goal.invariant-loop-g
invariant-loop-g g l = record {
  flags : AreFlags (group_stays_at l.scopes l.groups.groups) l.g l.flags.items;
  room : length l.groups.groups ≤ l.flags.cap;
}
