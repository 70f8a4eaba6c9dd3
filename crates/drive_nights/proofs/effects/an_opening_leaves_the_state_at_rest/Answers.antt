use Rattle.drive_nights.proofs.Resting.{openings_rest}
use Rattle.drive_nights.proofs.effects.an_opening_leaves_the_state_at_rest.Goals as goal

pub returns : goal.returns
returns c = openings_rest
