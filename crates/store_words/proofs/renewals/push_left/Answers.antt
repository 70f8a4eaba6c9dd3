use Rattle.std.proofs.Common.{arith}
use Rattle.std.specs.Prelude.{◌+◌, length}
use Rattle.console_lines.proofs.Appending.{◌followed_by◌, appended_within}
use Rattle.store_words.proofs.renewals.push_left.Goals as goal

pub returns : goal.returns
returns g c =
    appended_within (length c.args.word.now + 44)
    (c.push_number.ensures followed_by c.push_number-2.ensures) (omega arith)
