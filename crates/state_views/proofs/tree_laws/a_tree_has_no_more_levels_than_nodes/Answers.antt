use Rattle.std.specs.Prelude.{length}
use Rattle.std.proofs.Common.{arith}
use Rattle.state_views.proofs.TreeLemmas.{drawn_same}
use Rattle.state_views.proofs.tree_laws.a_tree_has_no_more_levels_than_nodes.Goals as goal

pub returns : goal.returns
returns c = λ levels parents some enough.
    drawn_same levels (length parents) 0 parents some (omega (arith, enough)) (omega arith)
