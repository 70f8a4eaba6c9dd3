use Rattle.run_crew.proofs.Coursing.{Watched}
use Rattle.run_crew.proofs.flusher_calls.save_wakes.Given as goal

abbrev pub invariant-loop : goal.invariant-loop
invariant-loop g l = Watched g.W.FlusherCalls.step l.heard l.fn.flusher l.flusher
