use Rattle.run_console.proofs.AdvanceTexts.{asks_so}
use Rattle.run_console.proofs.clock_laws.an_advance_line_asks_for_an_advance.Goals as goal

pub returns : goal.returns
returns c = asks_so
