use Rattle.console_lines.proofs.Appending.{◌followed_by◌}
use Rattle.state_views.proofs.summary_lines.push_counted_group.Goals as goal

pub returns : goal.returns
returns g c =
    c.push_named.ensures followed_by c.push_group.ensures followed_by c.push_phases.ensures
