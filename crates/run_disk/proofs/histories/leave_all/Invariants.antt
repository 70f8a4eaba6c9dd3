use Rattle.std.proofs.Common.{◌≡◌, ◌<◌, ◌+◌, ℕ, length, get_or, unwrap_or, take}
use Rattle.run_disk.specs.History.{left_of, newest}
use Rattle.run_disk.proofs.histories.leave_all.Given as goal

-- the places of the window are those of the writes so far
abbrev pub invariant-loop-write : goal.invariant-loop-write
invariant-loop-write g l = record {
  size : length l.window ≡ length l.initial.window;
  bytes : (i : ℕ) → i < length l.initial.window → get_or l.window i 0
      ≡ unwrap_or (newest (left_of l.torn l.syncs l.calls) (take l.write-index l.writes)
      (l.from + i)) (get_or l.initial.window i 0);
}
