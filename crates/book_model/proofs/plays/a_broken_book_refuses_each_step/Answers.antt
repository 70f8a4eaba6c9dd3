use Rattle.book_model.proofs.Playing.{failure_breaks, stuck_refuses}
use Rattle.book_model.proofs.plays.a_broken_book_refuses_each_step.Goals as goal

pub returns-clause-broken : goal.returns-clause-broken
returns-clause-broken c = stuck_refuses

pub returns-clause-failed : goal.returns-clause-failed
returns-clause-failed c = failure_breaks
