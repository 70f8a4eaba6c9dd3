use Rattle.std.proofs.Common.{codes, inl, inr, refl, true}
use Rattle.clap.proofs.OnLiterals.{clap_on_literals}
use Rattle.night_words.proofs.examples.a_new_file_may_be_wanted.Goals as goal

pub returns-clause-not_new : goal.returns-clause-not_new
returns-clause-not_new c = λ name. (name, inr (inl refl))

pub returns-clause-same : goal.returns-clause-same
unfolding clap_on_literals
returns-clause-same c = λ name. (codes "a", (true, inl (refl, refl, refl, refl)))
