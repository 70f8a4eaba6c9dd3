use Rattle.std.specs.Prelude.{◌≡◌, length}
use Rattle.night_drive.specs.Seen.{AreOverTo}
use Rattle.night_drive.proofs.seen.all_over.Given as goal

-- The first groups were asked.
abbrev pub invariant-loop-group : goal.invariant-loop-group
invariant-loop-group g l = record {
  sized : length l.done.items ≡ l.group-index;
  done : AreOverTo l.group-index l.state l.names l.done.items;
}
