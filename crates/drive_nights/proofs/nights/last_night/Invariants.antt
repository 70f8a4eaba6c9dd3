use Rattle.std.specs.Prelude.{◌≡◌, ◌≤◌}
use Rattle.drive_nights.specs.declared.nights.TheConstants.{MOST_NIGHTS}
use Rattle.drive_nights.specs.Nights.{night_at}
use Rattle.drive_nights.specs.Searches.{greatest_below}
use Rattle.drive_nights.proofs.nights.last_night.Given as goal

-- The greatest night of the first scopes.
abbrev pub invariant-loop-s : goal.invariant-loop-s
invariant-loop-s g l = record {
  value : l.last ≡ greatest_below (night_at l.state) l.s;
  least : 1 ≤ l.last;
  most : l.last ≤ MOST_NIGHTS;
}
