use Rattle.night_drive.proofs.Playing.{openings_reopen}
use Rattle.night_drive.proofs.plan_turns.an_opening_begins_the_next_session.Goals as goal

pub returns : goal.returns
returns c = openings_reopen
