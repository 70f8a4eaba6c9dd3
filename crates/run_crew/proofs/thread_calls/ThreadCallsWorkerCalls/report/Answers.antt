use Rattle.std.proofs.Common.{rules}
use Rattle.run_crew.proofs.thread_calls.ThreadCallsWorkerCalls.report.Goals as goal

pub returns-clause-step : goal.returns-clause-step
returns-clause-step g c = search rules
