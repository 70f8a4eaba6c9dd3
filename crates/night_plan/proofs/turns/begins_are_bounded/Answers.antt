use Rattle.night_plan.proofs.Lasting.{bounded_begins}
use Rattle.night_plan.proofs.turns.begins_are_bounded.Goals as goal

pub returns : goal.returns
returns c = bounded_begins
