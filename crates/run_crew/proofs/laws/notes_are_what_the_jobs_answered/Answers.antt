use Rattle.run_crew.specs.Nights.{OfDesk}
use Rattle.run_crew.proofs.Turning.{shift_is_done}
use Rattle.run_crew.proofs.laws.notes_are_what_the_jobs_answered.Goals as goal

pub returns : goal.returns
returns g c =
    λ gate jobs notes starts shift. shift_is_done g.J.Job.answers g.J.Job.turns
    (OfDesk g.D.RunDisk.state g.O.Opening.opening (g.G.Gate.lets gate) (g.G.Gate.reported gate))
    jobs notes starts shift
