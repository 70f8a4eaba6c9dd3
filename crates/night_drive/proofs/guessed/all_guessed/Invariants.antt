use Rattle.std.specs.Prelude.{◌≡◌, length}
use Rattle.night_drive.specs.Guessed.{AreCounted}
use Rattle.night_drive.proofs.guessed.all_guessed.Given as goal

-- The first tasks are counted.
abbrev pub invariant-loop-n : goal.invariant-loop-n
invariant-loop-n g l = record {
  sized : length l.known.items ≡ length l.plan.commands.items;
  counted : AreCounted l.n l.state l.ends l.names l.plan.commands.items l.known.items;
}
