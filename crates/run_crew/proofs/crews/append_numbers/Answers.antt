use Rattle.std.proofs.Common.{arith}
use Rattle.console_lines.proofs.Appending.{◌followed_by◌, appended_within}
use Rattle.run_crew.proofs.crews.append_numbers.Goals as goal

pub returns : goal.returns
returns c =
    appended_within 128 (c.push_number.ensures followed_by c.push_number-2.ensures followed_by
    c.push.ensures) (omega (arith, c.requires.few))
