use Rattle.drive_steps.proofs.Late.{none_begins_too_late}
use Rattle.drive_steps.proofs.rounds.none_begins_too_late.Goals as goal

pub returns : goal.returns
returns c = none_begins_too_late
