use Rattle.run_model.proofs.Common.{arith, common_steps}
use Rattle.run_crew.proofs.nights.gather.Goals as goal

pub loop-shift-preserved : goal.loop-shift-preserved
loop-shift-preserved g c = grind (arith, common_steps)
