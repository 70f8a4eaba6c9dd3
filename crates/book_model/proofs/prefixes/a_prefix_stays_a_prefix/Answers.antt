use Rattle.book_model.proofs.PrefixLemmas.{prefix_here}
use Rattle.book_model.proofs.prefixes.a_prefix_stays_a_prefix.Goals as goal

pub returns-clause-here : goal.returns-clause-here
returns-clause-here c = prefix_here
