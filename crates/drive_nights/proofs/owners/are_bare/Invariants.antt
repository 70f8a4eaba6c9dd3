use Rattle.std.specs.Prelude.{◌≡◌, is_none}
use Rattle.night_drive.specs.Searches.{last_below}
use Rattle.drive_nights.specs.Owners.{has_own}
use Rattle.drive_nights.proofs.owners.are_bare.Given as goal

-- None of the first groups has a scope of its own, as far as is known.
abbrev pub invariant-loop-g : goal.invariant-loop-g
invariant-loop-g g l = l.are_bare ≡ is_none (last_below (has_own l.state) l.g)
