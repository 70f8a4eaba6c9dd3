use Rattle.std.proofs.Common.{arith}
use Rattle.state_views.specs.declared.summary_lines.TheConstants.{LONGEST_SUMMARY}
use Rattle.console_lines.proofs.Appending.{◌followed_by◌, appended_within}
use Rattle.state_views.proofs.summary_lines.append_group_summary.Goals as goal

pub returns : goal.returns
returns g c =
    appended_within LONGEST_SUMMARY (c.push_counted_group.ensures followed_by
    c.push_count.ensures followed_by c.push.ensures followed_by c.push_state.ensures followed_by
    c.push-2.ensures) (omega arith)
