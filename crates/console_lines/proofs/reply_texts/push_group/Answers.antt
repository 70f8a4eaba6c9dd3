use Rattle.console_lines.proofs.Appending.{◌followed_by◌}
use Rattle.console_lines.proofs.reply_texts.push_group.Goals as goal

pub returns : goal.returns
returns g c =
    c.push_count.ensures followed_by c.push_limit.ensures followed_by
    c.push_yes_or_no.ensures followed_by c.push_error.ensures
