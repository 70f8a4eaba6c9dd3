use Rattle.std.proofs.Common.{arith}
use Rattle.console_lines.proofs.Appending.{◌followed_by◌, appended_within}
use Rattle.state_views.specs.declared.tree_lines.TheConstants.{LONGEST_TREE_SCOPE}
use Rattle.state_views.proofs.tree_lines.append_tree_scope.Goals as goal

pub returns : goal.returns
returns g c =
    appended_within LONGEST_TREE_SCOPE (c.push_named.ensures followed_by c.push_kind.ensures
    followed_by c.push.ensures followed_by c.push_look.ensures followed_by c.push-2.ensures)
    (omega arith)
