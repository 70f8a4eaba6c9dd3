use Rattle.run_console.proofs.Clocks.{are_forward}
use Rattle.run_console.proofs.clock_laws.no_advance_is_behind_the_clock.Goals as goal

pub returns : goal.returns
returns c = are_forward
