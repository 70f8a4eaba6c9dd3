use Rattle.std.specs.Prelude.{◌≡◌, map, take}
use Rattle.night_drive.specs.Seen.{is_owned}
use Rattle.night_drive.proofs.tallies.owners_of.Given as goal

-- The first groups of the plan were asked.
abbrev pub invariant-loop-group : goal.invariant-loop-group
invariant-loop-group g l =
    l.row.items ≡ map (λ group. is_owned l.state l.names.night group l.h)
    (take l.group-index l.names.groups.items)
