use Rattle.std.proofs.Common.{codes, refl}
use Rattle.clap.proofs.OnLiterals.{clap_on_literals}
use Rattle.night_words.proofs.examples.other_views_may_be_printed.Goals as goal

pub returns-clause-summary_too : goal.returns-clause-summary_too
unfolding clap_on_literals
returns-clause-summary_too c = λ name. (codes "a", (refl, refl, (refl, refl)))

pub returns-clause-tasks_too : goal.returns-clause-tasks_too
unfolding clap_on_literals
returns-clause-tasks_too c = λ name. (codes "a", (refl, refl, (refl, refl)))

pub returns-clause-tree_too : goal.returns-clause-tree_too
unfolding clap_on_literals
returns-clause-tree_too c = λ name. (codes "a", (refl, refl, (refl, refl)))

pub returns-clause-group_too : goal.returns-clause-group_too
unfolding clap_on_literals
returns-clause-group_too c = λ name. (codes "a", (refl, refl, (refl, refl)))
