use Rattle.std.proofs.Common.{◌≡◌}
use Rattle.run_crew.specs.Courses.{Went, declined}
use Rattle.run_crew.proofs.courses.run.Given as goal

abbrev pub invariant-loop-job : goal.invariant-loop-job
invariant-loop-job g l =
    (g.W.WorkerCalls.jobs l.worker ≡ g.W.WorkerCalls.jobs l.fn.worker)
    × Went g.W.WorkerCalls.step (λ calls. calls ≡ declined l.fn.info.job l.job) l.fn.worker l.worker
