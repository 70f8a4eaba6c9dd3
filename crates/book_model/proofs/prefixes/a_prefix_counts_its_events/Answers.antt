use Rattle.book_model.proofs.PrefixLemmas.{prefix_least, prefix_most, prefix_rules}
use Rattle.book_model.proofs.prefixes.a_prefix_counts_its_events.Goals as goal

pub returns : goal.returns
returns c = record { least = prefix_least; most = prefix_most; rules = prefix_rules }
