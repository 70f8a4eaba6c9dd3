use Rattle.drive_nights.proofs.Resulting.{openings_make_all}
use Rattle.drive_nights.proofs.effects.an_opening_makes_all.Goals as goal

pub returns : goal.returns
returns c = openings_make_all
