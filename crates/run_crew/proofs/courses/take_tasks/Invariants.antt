use Rattle.std.proofs.Common.{◌≡◌, length}
use Rattle.run_crew.specs.Courses.{AreCourses, Went}
use Rattle.run_crew.proofs.courses.take_tasks.Given as goal

abbrev pub invariant-loop : goal.invariant-loop
invariant-loop g l =
    (l.own.start_parts ≡ 1)
    × (l.own.finish_parts ≡ 1)
    × (l.own.finishes ≡ length l.notes)
    × (l.own.starts ≡ length l.notes)
    × (g.W.WorkerCalls.jobs l.worker ≡ g.W.WorkerCalls.jobs l.fn.worker)
    × Went g.W.WorkerCalls.step (AreCourses (g.W.WorkerCalls.jobs l.fn.worker) l.notes) l.fn.worker
    l.worker
