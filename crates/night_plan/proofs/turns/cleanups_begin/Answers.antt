use Rattle.night_plan.proofs.Keeping.{cleanups_begin}
use Rattle.night_plan.proofs.turns.cleanups_begin.Goals as goal

pub returns : goal.returns
returns c = cleanups_begin
