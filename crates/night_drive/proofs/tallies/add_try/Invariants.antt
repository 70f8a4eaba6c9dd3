use Rattle.std.specs.Prelude.{◌≡◌, length}
use Rattle.night_drive.specs.Tallies.{AddsTry}
use Rattle.night_drive.proofs.tallies.add_try.Given as goal

-- The first groups counted the task.
abbrev pub invariant-loop-g : goal.invariant-loop-g
invariant-loop-g l = record {
  sized : length l.tallies.items ≡ length l.initial.tallies.items;
  adds : AddsTry l.g l.index l.owners l.key l.n l.failed l.initial.tallies.items l.tallies.items;
}
