use Rattle.std.specs.Prelude.{◌≡◌, ◌&&◌, is_some, not}
use Rattle.run_model.specs.Scopes.{line}
use Rattle.model_laws.specs.Hits.{is_on}
use Rattle.night_drive.specs.Searches.{last_below}
use Rattle.drive_nights.specs.Endings.{is_elsewhere}
use Rattle.drive_nights.proofs.endings.holds.Given as goal

-- One of the first scopes stands below.
abbrev pub invariant-loop-s : goal.invariant-loop-s
invariant-loop-s g l =
    l.holds ≡ is_some (last_below (λ s. not (is_elsewhere l.state l.night s)
    && is_on l.top (line l.state.tree.scopes s)) l.s)
