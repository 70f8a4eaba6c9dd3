use Rattle.model_laws.proofs.Lines.{line_up, chain_up}
use Rattle.model_laws.proofs.searches.lines_go_up.Goals as goal

pub returns-clause-line : goal.returns-clause-line
returns-clause-line c = line_up

pub returns-clause-chain : goal.returns-clause-chain
returns-clause-chain c = chain_up
