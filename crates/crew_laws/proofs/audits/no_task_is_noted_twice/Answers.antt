use Rattle.run_crew.specs.Nights.{AreShifts, OfDesk}
use Rattle.crew_laws.specs.Audits.{AreWholeShifts}
use Rattle.crew_laws.proofs.Audited.{audited_night}
use Rattle.crew_laws.proofs.Ended.{stays_ended}
use Rattle.crew_laws.proofs.WholeShifts.{are_whole}
use Rattle.crew_laws.proofs.audits.no_task_is_noted_twice.Goals as goal

pub returns-clause-night : goal.returns-clause-night
returns-clause-night g c =
    λ gate items jobs given left p workers w0 w1 ends honest rest stores.
    audited_night g.D.RunDisk.state (λ known lists starts. AreShifts
    (OfDesk g.D.RunDisk.state known (g.G.Gate.lets gate) (g.G.Gate.reported gate))
    g.J.Job.answers g.J.Job.turns items jobs lists starts) (λ known lists. AreWholeShifts
    (OfDesk g.D.RunDisk.state known (g.G.Gate.lets gate) (g.G.Gate.reported gate))
    g.J.Job.answers g.J.Job.turns items jobs lists) (λ known lists starts are few. are_whole
    (OfDesk g.D.RunDisk.state known (g.G.Gate.lets gate) (g.G.Gate.reported gate))
    g.J.Job.answers g.J.Job.turns items jobs lists starts are few) given left p workers w0 w1 ends
    honest rest stores

pub returns-clause-later : goal.returns-clause-later
returns-clause-later g c = stays_ended
