use Rattle.std.specs.Prelude.{◌≡◌, length}
use Rattle.night_drive.specs.Seen.{AreKnownTo}
use Rattle.night_drive.proofs.seen.all_known.Given as goal

-- The first commands are known.
abbrev pub invariant-loop-c : goal.invariant-loop-c
invariant-loop-c g l = record {
  sized : length l.known.items ≡ l.c;
  known : AreKnownTo l.c l.state l.ends l.names l.plan.commands.items l.known.items;
}
