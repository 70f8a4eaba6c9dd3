use Rattle.std.proofs.Common.{refl}
use Rattle.book_model.proofs.Stepping.{steps_count, steps_join, steps_split}
use Rattle.book_model.proofs.steps.lists_of_steps_follow_one_another.Goals as goal

pub returns-clause-one : goal.returns-clause-one
returns-clause-one g c old new x r answers = (new, answers, refl)

pub returns-clause-join : goal.returns-clause-join
returns-clause-join g c = steps_join g.D.RunDisk.state

pub returns-clause-split : goal.returns-clause-split
returns-clause-split g c = steps_split g.D.RunDisk.state

pub returns-clause-count : goal.returns-clause-count
returns-clause-count g c = steps_count g.D.RunDisk.state
