use Rattle.book_model.proofs.Stepping.{broken_stays, steps_left}
use Rattle.book_model.proofs.steps.steps_acknowledge_what_was_reported.Goals as goal

pub returns-clause-opening : goal.returns-clause-opening
returns-clause-opening g c old new steps answers p =
    let left = steps_left g.D.RunDisk.state old new steps answers p in
    (left.origin, left.start)

pub returns-clause-layout : goal.returns-clause-layout
returns-clause-layout g c old new steps answers p =
    (steps_left g.D.RunDisk.state old new steps answers p).layout

pub returns-clause-durable : goal.returns-clause-durable
returns-clause-durable g c old new steps answers p =
    (steps_left g.D.RunDisk.state old new steps answers p).durable

pub returns-clause-broken : goal.returns-clause-broken
returns-clause-broken g c = broken_stays g.D.RunDisk.state
