use Rattle.std.specs.Prelude.{◌≡◌, ◌<◌, IfSome}
use Rattle.night_drive.specs.Searches.{last_below}
use Rattle.night_drive.specs.Seen.{is_owned}
use Rattle.drive_steps.proofs.rooms.last_group.Given as goal

-- The last one of the first groups.
abbrev pub invariant-loop-g : goal.invariant-loop-g
invariant-loop-g g l = record {
  last : l.last ≡ last_below (is_owned l.state l.night l.group) l.g;
  within : IfSome l.last (λ g. g < l.g);
}
