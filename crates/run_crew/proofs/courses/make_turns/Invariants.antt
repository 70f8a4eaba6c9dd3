use Rattle.std.proofs.Common.{◌≡◌}
use Rattle.run_crew.specs.Courses.{AreRounds, Went}
use Rattle.run_crew.proofs.courses.make_turns.Given as goal

abbrev pub invariant-loop-turn : goal.invariant-loop-turn
invariant-loop-turn g l =
    (g.W.WorkerCalls.jobs l.worker ≡ g.W.WorkerCalls.jobs l.fn.worker)
    × Went g.W.WorkerCalls.step (AreRounds l.fn.info l.fn.job l.turn) l.fn.worker l.worker
