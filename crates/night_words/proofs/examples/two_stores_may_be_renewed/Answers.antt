use Rattle.std.proofs.Common.{false, inr, inl, refl}
use Rattle.std.specs.Prelude.{codes}
use Rattle.night_words.proofs.examples.two_stores_may_be_renewed.Goals as goal

pub returns-clause-same : goal.returns-clause-same
returns-clause-same c = λ name. (codes "a", (false, inr (name, inl refl)))
