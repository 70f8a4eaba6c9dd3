use Rattle.std.specs.Prelude.{◌≡◌, is_none}
use Rattle.night_drive.specs.Searches.{last_below}
use Rattle.drive_nights.specs.Names.{has_group}
use Rattle.drive_nights.proofs.names.is_no_group.Given as goal

-- None of the first groups has the name, as far as is known.
abbrev pub invariant-loop-g : goal.invariant-loop-g
invariant-loop-g g l =
    l.is_free ≡ is_none (last_below (has_group l.state l.name) l.g)
