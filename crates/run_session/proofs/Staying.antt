-- Scopes that are done and tasks that have ended stay as they are, event by event.
use Rattle.run_model.specs.State.{State}
use Rattle.model_laws.proofs.Stays.{endings_join, endings_same}
use Rattle.task_group.proofs.Lasting.{stay_all, stay_both}
use Rattle.run_session.specs.Lasting.{Stays}

pub stays_same : (p : State) → Stays p p
stays_same p = record { scopes = endings_same p.tree.scopes; work = stay_all p.work }

pub stays_join : (p q r : State) → Stays p q → Stays q r → Stays p r
stays_join p q r first second = record {
  scopes =
      endings_join p.tree.scopes q.tree.scopes r.tree.scopes first.scopes second.scopes;
  work = stay_both p.work q.work r.work first.work second.work;
}
