use Rattle.std.specs.Prelude.{◌≡◌, ◌<◌, IfSome}
use Rattle.night_drive.specs.Searches.{last_below}
use Rattle.drive_nights.specs.Nights.{is_base}
use Rattle.drive_nights.proofs.nights.base_of.Given as goal

-- The last one of the first scopes.
abbrev pub invariant-loop-s : goal.invariant-loop-s
invariant-loop-s g l = record {
  base : l.last ≡ last_below (is_base l.state l.night) l.s;
  within : IfSome l.last (λ s. s < l.s);
}
