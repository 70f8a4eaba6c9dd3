use Rattle.scope_tree.proofs.TreeReads.{tree_takes}
use Rattle.scope_tree.proofs.row_laws.what_is_read_are_the_rows_of_a_tree.Goals as goal

pub returns : goal.returns
returns c layout head bytes rest t e = tree_takes layout head bytes t rest e
