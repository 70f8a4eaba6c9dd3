use Rattle.drive_steps.proofs.Hearing.{clocks_are_turns}
use Rattle.drive_steps.proofs.heard.a_clock_stops_what_is_due.Goals as goal

pub returns : goal.returns
returns c = clocks_are_turns
