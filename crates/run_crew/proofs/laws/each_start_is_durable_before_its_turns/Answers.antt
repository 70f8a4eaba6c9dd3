use Rattle.run_crew.proofs.Durability.{starts_were_durable}
use Rattle.run_crew.proofs.Following.{turns_follow}
use Rattle.run_crew.proofs.Turning.{shift_is_done}
use Rattle.run_crew.specs.Nights.{OfDesk}
use Rattle.run_crew.proofs.laws.each_start_is_durable_before_its_turns.Goals as goal

pub returns : goal.returns
returns g c = record {
  order = turns_follow;
  desk = λ gate jobs notes starts shift. starts_were_durable g.D.RunDisk.state g.O.Opening.opening
      (g.G.Gate.lets gate) (g.G.Gate.reported gate) g.J.Job.answers g.J.Job.turns notes jobs
      (shift_is_done g.J.Job.answers g.J.Job.turns
      (OfDesk g.D.RunDisk.state g.O.Opening.opening (g.G.Gate.lets gate)
      (g.G.Gate.reported gate)) jobs notes starts shift);
}
