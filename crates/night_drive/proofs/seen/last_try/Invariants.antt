use Rattle.std.specs.Prelude.{◌≡◌}
use Rattle.night_drive.specs.Searches.{last_below}
use Rattle.night_drive.specs.Seen.{is_try}
use Rattle.night_drive.proofs.seen.last_try.Given as goal

-- The last one of the first tries.
abbrev pub invariant-loop-n : goal.invariant-loop-n
invariant-loop-n g l = l.last ≡ last_below (is_try l.state l.night l.group l.key) l.n
