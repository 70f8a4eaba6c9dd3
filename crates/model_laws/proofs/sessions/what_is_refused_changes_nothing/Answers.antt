use Rattle.model_laws.proofs.Refusing.{refused_leaves}
use Rattle.model_laws.proofs.sessions.what_is_refused_changes_nothing.Goals as goal

pub returns-clause-refused : goal.returns-clause-refused
returns-clause-refused c = refused_leaves
