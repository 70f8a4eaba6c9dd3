use Rattle.std.proofs.Common.{rules}
use Rattle.run_crew.proofs.saves.save.Goals as goal

pub returns-in-Err-clause-reported : goal.returns-in-Err-clause-reported
returns-in-Err-clause-reported g c = search rules
