use Rattle.model_laws.proofs.Stays.{reasons_stay, causes_stay}
use Rattle.model_laws.proofs.endings.reasons_and_causes_stay.Goals as goal

pub returns-clause-reasons : goal.returns-clause-reasons
returns-clause-reasons c = reasons_stay

pub returns-clause-causes : goal.returns-clause-causes
returns-clause-causes c = causes_stay
