use Rattle.std.specs.Prelude.{◌≡◌, length}
use Rattle.night_drive.specs.Tallies.{AreTallies}
use Rattle.night_drive.proofs.tallies.tallies.Given as goal

-- The first tasks are counted.
abbrev pub invariant-loop-n : goal.invariant-loop-n
invariant-loop-n g l = record {
  sized : length l.tallies.items ≡ length l.plan.commands.items;
  tallies : AreTallies l.n l.state l.names l.index l.tallies.items;
}
