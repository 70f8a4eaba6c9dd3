use Rattle.std.proofs.Common.{refl}
use Rattle.console_lines.proofs.OnLiterals.{moments_on_literals}
use Rattle.console_lines.proofs.moments.examples.a_date_and_time_has_an_offset.Goals as goal

pub returns : goal.returns
unfolding moments_on_literals
returns c = record { zulu = refl; east = refl; west = refl; leap = refl }
