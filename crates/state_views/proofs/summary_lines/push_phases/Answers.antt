use Rattle.console_lines.proofs.Appending.{◌followed_by◌}
use Rattle.state_views.proofs.summary_lines.push_phases.Goals as goal

pub returns : goal.returns
returns g c =
    c.push_count.ensures followed_by c.push_count-2.ensures followed_by
    c.push_count-3.ensures followed_by c.push_count-4.ensures followed_by
    c.push_count-5.ensures followed_by c.push_count-6.ensures
