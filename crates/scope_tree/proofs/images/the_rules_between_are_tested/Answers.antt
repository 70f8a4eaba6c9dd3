use Rattle.scope_tree.proofs.BetweenReads.{between_tested}
use Rattle.scope_tree.proofs.images.the_rules_between_are_tested.Goals as goal

pub returns : goal.returns
returns c = between_tested
