use Rattle.std.proofs.Common.{subst, sym}
use Rattle.book_model.specs.Books.{CarriesOn, Checkpoints, IsSafe}
use Rattle.run_crew.specs.Desks.{DeskView}
use Rattle.run_crew.proofs.Carrying.{desk_stays}
use Rattle.run_crew.proofs.desks.Desk.checkpoint.Goals as goal

pub invariant_of-self : goal.invariant_of-self
invariant_of-self g c =
    desk_stays g.D.RunDisk.state g.O.Opening.opening c.self.inside.book c.checkpoint.new.self
    c.self.inside.starts.total c.self.inside.finishes.total c.self.invariant
    c.checkpoint.ensures.carries_on c.checkpoint.ensures.checkpoints.saves.session

pub returns-clause-checkpoints : goal.returns-clause-checkpoints
returns-clause-checkpoints g c =
    let P : DeskView _ → Type 0 = λ d.
    Checkpoints g.D.RunDisk.state d.book c.checkpoint.result c.checkpoint.new.self in
    subst P c.self.view_is c.checkpoint.ensures.checkpoints

pub returns-clause-carries_on : goal.returns-clause-carries_on
returns-clause-carries_on g c =
    let P : DeskView _ → Type 0 = λ d. CarriesOn g.D.RunDisk.state d.book c.checkpoint.new.self in
    subst P c.self.view_is c.checkpoint.ensures.carries_on

pub returns-clause-stores : goal.returns-clause-stores
returns-clause-stores g c = λ safe.
    let P : DeskView _ → Type 0 = λ d. IsSafe g.D.RunDisk.state d.book in
    c.checkpoint.ensures.stores (subst P (sym c.self.view_is) safe)
