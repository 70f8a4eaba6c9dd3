use Rattle.std.proofs.Common.{arith}
use Rattle.console_lines.proofs.Appending.{◌followed_by◌, appended_within}
use Rattle.state_views.specs.declared.tree_lines.TheConstants.{LONGEST_TREE_HEAD}
use Rattle.state_views.proofs.tree_lines.append_tree_head.Goals as goal

pub returns : goal.returns
returns g c =
    appended_within LONGEST_TREE_HEAD (c.push_counts.ensures followed_by c.push_fullness.ensures
    followed_by c.push.ensures) (omega arith)
