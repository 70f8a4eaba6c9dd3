use Rattle.run_model.proofs.Common.{inl, refl, rules}
use Rattle.run_model.specs.declared.layouts.Layout.TheVariants.{Small}
use Rattle.book_model.proofs.examples.steps.a_recovery_is_reported_by_its_reads.Goals as goal

pub returns-clause-memory : goal.returns-clause-memory
returns-clause-memory c d = ((Small, refl), refl)

pub returns-clause-failed : goal.returns-clause-failed
returns-clause-failed c calls failures = record {
  sized = (Small, refl);
  which = inl (inl (refl, refl));
  chosen = λ honest. absurd honest;
  passed = search rules;
  only = λ honest. absurd honest;
}
