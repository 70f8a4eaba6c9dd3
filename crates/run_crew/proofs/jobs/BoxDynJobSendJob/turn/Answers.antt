use Rattle.run_crew.proofs.Boxes.{boxed_step}
use Rattle.run_crew.proofs.jobs.BoxDynJobSendJob.turn.Goals as goal

pub returns : goal.returns
returns g c =
    boxed_step c.args.self.now
    (λ k x y. (goal.Job-dyn g (k, x)).turns x c.args.info.now c.args.turn c.args.done
    c.turn.result y) _ _ _
    c.deref_box_mut-1.ensures.value.1 c.turn.ensures
