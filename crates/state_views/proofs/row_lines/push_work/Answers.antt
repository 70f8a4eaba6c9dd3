use Rattle.console_lines.proofs.Appending.{◌followed_by◌}
use Rattle.state_views.proofs.row_lines.push_work.Goals as goal

pub returns : goal.returns
returns g c =
    c.push_name.ensures followed_by c.push_name-2.ensures followed_by c.push.ensures followed_by
    c.push_phase.ensures followed_by c.push_retry.ensures
