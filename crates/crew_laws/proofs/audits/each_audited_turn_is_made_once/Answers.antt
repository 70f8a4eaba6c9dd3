use Rattle.crew_laws.proofs.WholeTurns.{whole_noted, whole_up}
use Rattle.crew_laws.proofs.audits.each_audited_turn_is_made_once.Goals as goal

pub returns-clause-noted : goal.returns-clause-noted
returns-clause-noted c = whole_noted

pub returns-clause-once : goal.returns-clause-once
returns-clause-once c = whole_up
