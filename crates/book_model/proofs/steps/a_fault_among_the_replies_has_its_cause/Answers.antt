use Rattle.book_model.proofs.Stepping.{steps_left}
use Rattle.book_model.proofs.steps.a_fault_among_the_replies_has_its_cause.Goals as goal

pub returns-clause-failed : goal.returns-clause-failed
returns-clause-failed g c old new steps answers p =
    (steps_left g.D.RunDisk.state old new steps answers p).failed

pub returns-clause-fine : goal.returns-clause-fine
returns-clause-fine g c old new steps answers p =
    (steps_left g.D.RunDisk.state old new steps answers p).fine

pub returns-clause-spent : goal.returns-clause-spent
returns-clause-spent g c old new steps answers p =
    (steps_left g.D.RunDisk.state old new steps answers p).spent
