use Rattle.model_laws.proofs.Levels.{endings_level}
use Rattle.model_laws.proofs.endings.a_level_hit_keeps_endings.Goals as goal

pub returns : goal.returns
returns c = endings_level
