use Rattle.std.proofs.Common.{refl}
use Rattle.run_crew.proofs.thread_calls.ThreadCallsWorkerCalls.is_done.Goals as goal

pub returns-clause-step : goal.returns-clause-step
returns-clause-step g c = (refl, (_, c.is_done.ensures), refl)
