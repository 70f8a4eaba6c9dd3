use Rattle.console_lines.proofs.Appending.{◌followed_by◌}
use Rattle.store_words.proofs.renewals.push_sizes.Goals as goal

pub returns : goal.returns
returns g c =
    c.push_number.ensures followed_by c.push_left.ensures followed_by c.push_left-2.ensures
    followed_by c.push_left-3.ensures followed_by c.push.ensures
