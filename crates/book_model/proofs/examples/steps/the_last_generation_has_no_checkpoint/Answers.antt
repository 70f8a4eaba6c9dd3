use Rattle.run_model.proofs.Common.{◌≡◌, Ok, Err, inl, inr, refl, rules}
use Rattle.run_model.specs.declared.faults.Fault.TheVariants.{NumbersSpent}
use Rattle.run_model.specs.declared.faults.Trouble.TheVariants.{Faulty}
use Rattle.book_model.specs.Books.{Checkpoints}
use Rattle.book_model.specs.Examples.Steps.{last_book, last_flushed, state_of}
use Rattle.book_model.proofs.ExampleSteps.{done, fits}
use Rattle.book_model.proofs.examples.steps.the_last_generation_has_no_checkpoint.Goals as goal

pub returns-clause-answered : goal.returns-clause-answered
returns-clause-answered c = (
  last_book,
  record {
    result = Err (Faulty NumbersSpent);
    reported = refl;
    saves = search (rules, inl, inr);
    layout = refl;
  },
  (
    last_flushed,
    record { result = Ok 4; reported = refl; saves = search (rules, fits); layout = refl },
    refl,
  ),
)

pub returns-clause-undone : goal.returns-clause-undone
returns-clause-undone c n new reports =
    let spent : Ok n ≡ Err (Faulty NumbersSpent) =
    (done (Checkpoints state_of) last_book new n reports).spent refl refl in cc
