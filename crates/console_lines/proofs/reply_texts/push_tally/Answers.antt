use Rattle.console_lines.proofs.Appending.{◌followed_by◌}
use Rattle.console_lines.proofs.reply_texts.push_tally.Goals as goal

pub returns : goal.returns
returns g c =
    c.push_name.ensures followed_by c.push_count.ensures followed_by
    c.push_count-2.ensures followed_by c.push_count-3.ensures followed_by c.push_count-4.ensures
