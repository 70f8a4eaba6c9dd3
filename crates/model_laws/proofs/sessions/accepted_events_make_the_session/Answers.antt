use Rattle.model_laws.proofs.Stepping.{accepted_runs, accepted_counted, accepted_logged}
use Rattle.model_laws.proofs.Stepping.{accepted_start, accepted_history}
use Rattle.model_laws.proofs.sessions.accepted_events_make_the_session.Goals as goal

pub returns-clause-start : goal.returns-clause-start
returns-clause-start c = accepted_start

pub returns-clause-history : goal.returns-clause-history
returns-clause-history c = accepted_history

pub returns-clause-state : goal.returns-clause-state
returns-clause-state c = accepted_runs

pub returns-clause-count : goal.returns-clause-count
returns-clause-count c = accepted_counted

pub returns-clause-log : goal.returns-clause-log
returns-clause-log c = accepted_logged
