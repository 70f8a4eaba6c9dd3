-- After an opening the state is one between two rounds.
use Rattle.std.specs.Prelude.{◌≡◌, ℕ, false, List, [], Option}
use Rattle.run_model.specs.Session.{Session}
use Rattle.run_model.specs.Tasks.{has_stage, is_running}
use Rattle.night_plan.specs.declared.commands.Plan.{Plan}
use Rattle.night_drive.specs.declared.names.Names.{Names}
use Rattle.night_drive.specs.Distinct.{AreDistinct}
use Rattle.night_drive.specs.Seen.{AreNames}
use Rattle.drive_steps.specs.Living.{IsBetween}
use Rattle.drive_nights.specs.declared.untils.Until.{Until}
use Rattle.drive_nights.specs.Effects.{AreOf, IsOpening, opened}

-- If no task ran before an opening, then after it commands can begin as between two rounds, and no
-- try lives.
abbrev pub OpeningsRest : Type 0
OpeningsRest =
    (s : Session) (n : ℕ) (groups : List (List ℕ)) (untils : List (Option Until))
    (all : Option Until) (plan : Plan) (names : Names)
    → IsOpening s n groups untils all → AreNames plan names → AreDistinct plan names
    → AreOf names n groups → ((m : ℕ) → has_stage is_running s.state.work m ≡ false)
    → IsBetween (opened s n groups untils all) plan names []
