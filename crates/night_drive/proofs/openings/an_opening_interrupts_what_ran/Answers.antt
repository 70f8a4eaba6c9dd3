use Rattle.model_laws.proofs.Interrupts.{restarted}
use Rattle.run_model.specs.Event as event
use Rattle.run_model.specs.Step.{step}
use Rattle.night_drive.proofs.Opening.{known_reopened}
use Rattle.night_drive.proofs.openings.an_opening_interrupts_what_ran.Goals as goal

pub returns : goal.returns
returns c p ended night group key =
    known_reopened p (step p event.Restart) (restarted p) ended night group key
