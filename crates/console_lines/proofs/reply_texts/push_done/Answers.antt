use Rattle.console_lines.proofs.Appending.{◌followed_by◌}
use Rattle.console_lines.proofs.reply_texts.push_done.Goals as goal

pub returns : goal.returns
returns g c =
    c.push_deadline.ensures followed_by c.push_ending.ensures
