use Rattle.std.proofs.Common.{subst}
use Rattle.run_crew.specs.Courses.{Counts, IsAnswered, IsShift, StepsJobs}
use Rattle.run_crew.proofs.Coursing.{seen_path}
use Rattle.run_crew.proofs.workers.WorkerStart.work.Goals as goal

pub returns : goal.returns
returns g c =
    let went = c.take_tasks.ensures.calls in
    let place = g.T.Place in
    let counted = g.T.CountedPlace in (
      _,
      (
        went.0,
        subst (λ n. Counts 0 c.take_tasks.new.own.starts (IsShift n c.take_tasks.new.notes) went.0)
            c.args.self.jobs.ok.0 went.1,
        seen_path _ (λ w. w.gate.now) (λ w. w.jobs.items)
            (λ gate call. IsAnswered counted.starts place.holds place.flushes place.reports
            counted.finishes (g.G.Gate.lets gate) (g.G.Gate.reported gate) call)
            (StepsJobs g.J.Job.answers g.J.Job.turns) (λ a x b is. is) went.0 _ _ went.2,
      ),
    )
