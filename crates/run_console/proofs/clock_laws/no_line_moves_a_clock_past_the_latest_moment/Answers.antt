use Rattle.run_console.proofs.Clocks.{line_within}
use Rattle.run_console.proofs.clock_laws.no_line_moves_a_clock_past_the_latest_moment.Goals as goal

pub returns : goal.returns
returns c = line_within
