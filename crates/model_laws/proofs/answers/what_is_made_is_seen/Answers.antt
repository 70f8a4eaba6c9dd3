use Rattle.model_laws.proofs.Making.{derived_seen, group_seen, bare_seen}
use Rattle.model_laws.proofs.answers.what_is_made_is_seen.Goals as goal

pub returns-clause-scope : goal.returns-clause-scope
returns-clause-scope c = derived_seen

pub returns-clause-group : goal.returns-clause-group
returns-clause-group c = group_seen

pub returns-clause-bare : goal.returns-clause-bare
returns-clause-bare c = bare_seen
