use Rattle.model_laws.proofs.Stays.{endings_derive, endings_cancel, endings_advance}
use Rattle.model_laws.proofs.endings.changes_keep_endings.Goals as goal

pub returns-clause-derive : goal.returns-clause-derive
returns-clause-derive c = endings_derive

pub returns-clause-cancel : goal.returns-clause-cancel
returns-clause-cancel c = endings_cancel

pub returns-clause-advance : goal.returns-clause-advance
returns-clause-advance c = endings_advance
