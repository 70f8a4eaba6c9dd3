use Rattle.std.specs.Prelude.{◌≡◌, drop, length}
use Rattle.drive_steps.specs.Stops.{marked}
use Rattle.drive_steps.proofs.stops.mark.Given as goal

-- The first commands are marked, and there are as many as before.
abbrev pub invariant-loop-cancel : goal.invariant-loop-cancel
invariant-loop-cancel l = record {
  marked : marked l.fn.known.items l.canceled
      ≡ marked l.known.items (drop l.cancel-index l.canceled);
  sized : length l.known.items ≡ length l.fn.known.items;
}
