use Rattle.scope_tree.proofs.Parts.{tree_part, work_part, cross_part, all_parts}
use Rattle.scope_tree.proofs.images.the_rules_have_three_parts.Goals as goal

pub returns : goal.returns
returns c = record { tree = tree_part; work = work_part; between = cross_part; all = all_parts }
