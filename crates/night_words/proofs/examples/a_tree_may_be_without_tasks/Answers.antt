use Rattle.std.proofs.Common.{codes, refl}
use Rattle.clap.proofs.OnLiterals.{clap_on_literals}
use Rattle.night_words.proofs.examples.a_tree_may_be_without_tasks.Goals as goal

pub returns-clause-alone : goal.returns-clause-alone
unfolding clap_on_literals
returns-clause-alone c = λ name. (codes "a", (refl, refl, refl))

pub returns-clause-json : goal.returns-clause-json
unfolding clap_on_literals
returns-clause-json c = λ name. (codes "a", (refl, refl, refl))

pub returns-clause-json_too : goal.returns-clause-json_too
unfolding clap_on_literals
returns-clause-json_too c = λ name. (codes "a", (refl, refl, (refl, refl)))
