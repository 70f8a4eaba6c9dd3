use Rattle.std.proofs.Common.{arith}
use Rattle.console_lines.proofs.Appending.{◌followed_by◌, appended_within}
use Rattle.state_views.proofs.row_lines.push_named.Goals as goal

pub returns : goal.returns
returns g c =
    appended_within 45 (c.push.ensures followed_by c.push_count.ensures followed_by
    c.push_name.ensures followed_by c.push-2.ensures) (omega (arith, c.requires.word))
