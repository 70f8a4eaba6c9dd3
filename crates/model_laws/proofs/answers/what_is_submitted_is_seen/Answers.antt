use Rattle.model_laws.proofs.Making.{go_seen, tried_seen, retried_seen}
use Rattle.model_laws.proofs.answers.what_is_submitted_is_seen.Goals as goal

pub returns-clause-go : goal.returns-clause-go
returns-clause-go c = go_seen

pub returns-clause-tried : goal.returns-clause-tried
returns-clause-tried c = tried_seen

pub returns-clause-retried : goal.returns-clause-retried
returns-clause-retried c = retried_seen
