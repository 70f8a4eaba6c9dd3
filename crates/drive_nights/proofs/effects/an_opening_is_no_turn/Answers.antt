use Rattle.drive_nights.proofs.Keeping.{openings_are_no_turns}
use Rattle.drive_nights.proofs.effects.an_opening_is_no_turn.Goals as goal

pub returns : goal.returns
returns c = openings_are_no_turns
