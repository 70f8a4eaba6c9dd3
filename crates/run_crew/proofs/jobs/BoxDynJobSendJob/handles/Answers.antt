use Rattle.run_crew.proofs.Boxes.{boxed}
use Rattle.run_crew.proofs.jobs.BoxDynJobSendJob.handles.Goals as goal

pub returns : goal.returns
returns g c =
    boxed c.args.self.now
    (λ k x. (goal.Job-dyn g (k, x)).answers x c.args.job.now c.handles.result) _ _
    c.deref_box-1.ensures.1 c.handles.ensures
