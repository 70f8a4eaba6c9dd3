use Rattle.console_lines.proofs.Appending.{◌followed_by◌}
use Rattle.console_lines.proofs.reply_texts.push_start.Goals as goal

pub returns : goal.returns
returns g c =
    c.push_count.ensures followed_by c.push_name.ensures followed_by c.push_name-2.ensures
