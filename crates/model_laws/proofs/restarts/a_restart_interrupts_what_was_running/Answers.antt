use Rattle.model_laws.proofs.restarts.a_restart_interrupts_what_was_running.Goals as goal
use Rattle.model_laws.proofs.Interrupts.{restarted}

pub returns : goal.returns
returns c = λ p. restarted p
