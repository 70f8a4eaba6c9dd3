use Rattle.drive_nights.proofs.Opening.{openings_open}
use Rattle.drive_nights.proofs.effects.an_opening_opens_a_night.Goals as goal

pub returns : goal.returns
returns c = openings_open
