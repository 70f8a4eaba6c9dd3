-- The lines with which the executor is asked to stop tries.
use Rattle.std.specs.Prelude.{◌≡◌, ◌++◌, List, map}
use Rattle.std.specs.List.{filter_map}
use Rattle.run_model.specs.State.{State}
use Rattle.night_plan.specs.declared.commands.Plan.{Plan}
use Rattle.night_drive.specs.declared.ends.Ends.{Ends}
use Rattle.night_drive.specs.declared.names.Names.{Names}
use Rattle.drive_lines.specs.declared.orders.Order.{Order}
use Rattle.drive_lines.specs.declared.orders.Order.TheVariants as order
use Rattle.drive_steps.specs.declared.stops.Stop.{Stop}
use Rattle.drive_steps.specs.Stops.{AreStops}
use Rattle.drive_runs.specs.declared.living.Living.{Living}
use Rattle.drive_runs.specs.declared.sittings.Sitting.{Sitting}
use Rattle.drive_runs.specs.Living.{all_asked, cancels_of, unasked}

-- The line that asks for a stop: it names the task, and says why.
abbrev pub stop_line : Stop → Order
stop_line stop = order.Stop stop.task stop.why

-- These are the stops for which the executor is asked: exactly those of the living tries that have
-- to stop and that it wasn't asked to stop before, each of them once, in their order, and with its
-- reason. A try whose command was canceled has to stop for that reason as long as it lives. The
-- tries then count as asked.
pub record AreDue (p : State) (ends : Ends) (plan : Plan) (names : Names) (living : List Living)
    (stops : List Stop) (left : List Living) : Type 0 where
  pub those : AreStops p ends plan names (cancels_of living) (filter_map unasked living) stops
  pub after : left ≡ all_asked stops living

-- ---- for private functions: no public contract cites what follows

-- The lines of the stops that are due were added to the old ones.
pub record AddsStops (p : State) (s : Sitting) (old new : List Order) (t : Sitting)
    : Type 0 where
  pub stops : List Stop
  pub due : AreDue p s.kept.ends s.plan s.names s.kept.living.items stops t.kept.living.items
  pub lines : new ≡ old ++ map stop_line stops
