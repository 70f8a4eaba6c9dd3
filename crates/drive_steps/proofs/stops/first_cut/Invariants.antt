use Rattle.std.specs.Prelude.{◌≡◌, ◌<◌, IfSome}
use Rattle.night_plan.specs.Nights.{night}
use Rattle.drive_steps.specs.Errors.{first_below}
use Rattle.drive_steps.specs.Stops.{has_cut}
use Rattle.drive_steps.proofs.stops.first_cut.Given as goal

-- The first one of the first commands.
abbrev pub invariant-loop-d : goal.invariant-loop-d
invariant-loop-d l = record {
  first : l.first ≡ first_below (has_cut (night l.plan l.facts) l.c) l.d;
  below : IfSome l.first (λ d. d < l.d);
}
