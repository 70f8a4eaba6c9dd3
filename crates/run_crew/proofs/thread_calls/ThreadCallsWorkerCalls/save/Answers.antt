use Rattle.run_crew.proofs.thread_calls.ThreadCallsWorkerCalls.save.Goals as goal

pub returns-clause-reached : goal.returns-clause-reached
returns-clause-reached g c = c.save.ensures.reached
