use Rattle.std.proofs.Common.{subst, sym}
use Rattle.book_model.specs.Books.{CarriesOn, Flushes, IsSafe}
use Rattle.run_crew.specs.Desks.{DeskView}
use Rattle.run_crew.proofs.Carrying.{desk_stays}
use Rattle.run_crew.proofs.desks.Desk.flush.Goals as goal

pub invariant_of-self : goal.invariant_of-self
invariant_of-self g c =
    desk_stays g.D.RunDisk.state g.O.Opening.opening c.self.inside.book c.flush.new.self
    c.self.inside.starts.total c.self.inside.finishes.total c.self.invariant
    c.flush.ensures.carries_on c.flush.ensures.flushes.saves.session

pub returns-clause-flushes : goal.returns-clause-flushes
returns-clause-flushes g c =
    let P : DeskView _ → Type 0 = λ d.
    Flushes g.D.RunDisk.state d.book c.flush.result c.flush.new.self in
    subst P c.self.view_is c.flush.ensures.flushes

pub returns-clause-carries_on : goal.returns-clause-carries_on
returns-clause-carries_on g c =
    let P : DeskView _ → Type 0 = λ d. CarriesOn g.D.RunDisk.state d.book c.flush.new.self in
    subst P c.self.view_is c.flush.ensures.carries_on

pub returns-clause-stores : goal.returns-clause-stores
returns-clause-stores g c = λ safe.
    let P : DeskView _ → Type 0 = λ d. IsSafe g.D.RunDisk.state d.book in
    c.flush.ensures.stores (subst P (sym c.self.view_is) safe)
