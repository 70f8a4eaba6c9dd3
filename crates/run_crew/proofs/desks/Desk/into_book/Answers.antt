use Rattle.std.proofs.Common.{ap, subst}
use Rattle.run_crew.specs.Desks.{DeskView}
use Rattle.run_crew.specs.Openings.{Carries}
use Rattle.run_crew.proofs.desks.Desk.into_book.Goals as goal

pub returns-clause-book : goal.returns-clause-book
returns-clause-book g c = ap (λ (d : DeskView _). d.book) c.self.view_is

pub returns-clause-carries : goal.returns-clause-carries
returns-clause-carries g c =
    let P : DeskView _ → Type 0 = λ d. Carries g.O.Opening.opening g.D.RunDisk.state d.book in
    subst P c.self.view_is c.self.invariant.2
