use Rattle.std.proofs.Common.{Some, ap, codes, inl, refl, sym}
use Rattle.clap.proofs.OnLiterals.{clap_on_literals}
use Rattle.night_words.proofs.examples.some_tasks_may_be_inspected.Goals as goal

pub returns-clause-phase : goal.returns-clause-phase
unfolding clap_on_literals
returns-clause-phase c =
    λ name held is. (refl, refl, ((refl, refl, refl, refl, refl), (ap Some (sym is), refl, refl)))

pub returns-clause-group : goal.returns-clause-group
unfolding clap_on_literals
returns-clause-group c =
    λ name group is. (refl, refl, ((refl, refl, refl, refl, refl), (refl, ap Some (sym is), refl)))

pub returns-clause-both : goal.returns-clause-both
unfolding clap_on_literals
returns-clause-both c =
    λ name error group is one.
    (refl, refl, ((refl, refl, refl, refl, refl), (ap Some (sym is), ap Some (sym one), refl)))

pub returns-clause-other : goal.returns-clause-other
unfolding clap_on_literals
returns-clause-other c = λ name.
    (codes "a", (refl, refl, (inl (refl, refl, refl, refl, refl), refl)))

pub returns-clause-large : goal.returns-clause-large
unfolding clap_on_literals
returns-clause-large c = λ name.
    (codes "a", (refl, refl, (inl (refl, refl, refl, refl, refl), refl)))
