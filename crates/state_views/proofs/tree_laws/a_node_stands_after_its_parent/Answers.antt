use Rattle.state_views.proofs.StateTrees.{nodes_rise}
use Rattle.state_views.proofs.tree_laws.a_node_stands_after_its_parent.Goals as goal

pub returns : goal.returns
returns c = nodes_rise
