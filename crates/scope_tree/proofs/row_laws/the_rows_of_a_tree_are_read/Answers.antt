use Rattle.scope_tree.proofs.TreeReads.{tree_again}
use Rattle.scope_tree.proofs.row_laws.the_rows_of_a_tree_are_read.Goals as goal

pub returns : goal.returns
returns c layout head bytes rest t are = tree_again layout head bytes t rest are
