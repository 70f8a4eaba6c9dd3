use Rattle.std.specs.Prelude.{◌≡◌, ◌++◌}
use Rattle.drive_nights.specs.Openings.{rooms_below}
use Rattle.drive_nights.proofs.openings.add_rooms.Given as goal

-- The steps for the first groups.
abbrev pub invariant-loop-g : goal.invariant-loop-g
invariant-loop-g g l =
    l.steps.items
    ≡ l.fn.steps.items ++ rooms_below l.state l.night l.base l.moved l.groups l.untils l.g
