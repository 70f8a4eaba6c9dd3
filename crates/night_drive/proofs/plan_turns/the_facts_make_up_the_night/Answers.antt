use Rattle.night_drive.proofs.Playing.{seen_is_shown}
use Rattle.night_drive.proofs.plan_turns.the_facts_make_up_the_night.Goals as goal

pub returns : goal.returns
returns c = seen_is_shown
