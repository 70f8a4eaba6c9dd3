use Rattle.std.proofs.Common.{None, Some, codes, false, refl, true}
use Rattle.clap.proofs.OnLiterals.{clap_on_literals}
use Rattle.night_words.proofs.examples.a_store_may_be_renewed_in_place.Goals as goal

pub returns-clause-neither : goal.returns-clause-neither
unfolding clap_on_literals
returns-clause-neither c = λ name.
    (codes "a", (None, (false, (false, refl, (refl, refl, refl, refl, refl)))))

pub returns-clause-both : goal.returns-clause-both
unfolding clap_on_literals
returns-clause-both c = λ name.
    (codes "a", (Some (codes "b"), (false, (true, refl, (refl, refl, refl, refl, refl)))))

pub returns-clause-new : goal.returns-clause-new
unfolding clap_on_literals
returns-clause-new c = λ name.
    (codes "a", (None, (true, (true, refl, (refl, refl, refl, refl, refl)))))
