use Rattle.std.proofs.Common.{arith}
use Rattle.console_lines.proofs.Appending.{◌followed_by◌, appended_within}
use Rattle.state_views.proofs.tree_lines.push_taken.Goals as goal

pub returns : goal.returns
returns g c =
    appended_within 53 (c.push_after.ensures followed_by c.push_number.ensures followed_by
    c.push_number-2.ensures) (omega (arith, c.requires.word))
