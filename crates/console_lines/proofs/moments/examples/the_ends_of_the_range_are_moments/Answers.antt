use Rattle.std.proofs.Common.{refl}
use Rattle.console_lines.proofs.OnLiterals.{moments_on_literals}
use Rattle.console_lines.proofs.moments.examples.the_ends_of_the_range_are_moments.Goals as goal

pub returns : goal.returns
unfolding moments_on_literals
returns c = record { first = refl; before = refl; greatest = refl; past = refl }
