use Rattle.drive_nights.proofs.Trying.{first_opening}
use Rattle.drive_nights.proofs.examples.a_first_night_is_opened.Goals as goal

pub returns-clause-opens : goal.returns-clause-opens
returns-clause-opens c = first_opening
