use Rattle.std.specs.Prelude.{◌≡◌, is_none}
use Rattle.night_drive.specs.Searches.{last_below}
use Rattle.drive_nights.specs.Names.{has_scope}
use Rattle.drive_nights.proofs.names.is_no_scope.Given as goal

-- None of the first scopes has the name, as far as is known.
abbrev pub invariant-loop-s : goal.invariant-loop-s
invariant-loop-s g l =
    l.is_free ≡ is_none (last_below (has_scope l.state l.name) l.s)
