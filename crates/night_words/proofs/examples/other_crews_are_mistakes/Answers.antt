use Rattle.std.proofs.Common.{codes, false, refl}
use Rattle.clap.proofs.OnLiterals.{clap_on_literals}
use Rattle.night_words.proofs.examples.other_crews_are_mistakes.Goals as goal

pub returns-clause-none : goal.returns-clause-none
unfolding clap_on_literals
returns-clause-none c = λ name. (codes "a", (false, (refl, refl, refl, refl)))

pub returns-clause-nine : goal.returns-clause-nine
unfolding clap_on_literals
returns-clause-nine c = λ name. (codes "a", (false, (refl, refl, refl, refl)))

pub returns-clause-zeros : goal.returns-clause-zeros
unfolding clap_on_literals
returns-clause-zeros c = λ name. (codes "a", (false, (refl, refl, refl, refl)))
