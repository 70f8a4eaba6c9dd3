use Rattle.std.proofs.Common.{[], ◌∷◌, refl}
use Rattle.run_model.specs.declared.commands.Wish.TheVariants.{Cancel}
use Rattle.run_model.specs.declared.faults.Fault.TheVariants.{DiskFailed}
use Rattle.run_model.specs.declared.refusals.Refusal.TheVariants.{Broken}
use Rattle.book_model.specs.Examples.Calls.{checkpoint, derive, faulty, flush, refused}
use Rattle.book_model.specs.Examples.Steps.{book_after_three, failed, state_of}
use Rattle.book_model.proofs.ExampleSteps.{flush_faulty, three_then}
use Rattle.book_model.proofs.Stepping.{step_left}
use Rattle.book_model.proofs.examples.steps.a_flush_fails.Goals as goal

pub returns-clause-flush : goal.returns-clause-flush
returns-clause-flush c = flush_faulty

pub returns-clause-answered : goal.returns-clause-answered
returns-clause-answered c =
    three_then (flush ∷ derive "c" "root" Cancel ∷ checkpoint ∷ [])
    (faulty DiskFailed ∷ refused Broken ∷ refused Broken ∷ []) failed (
      failed,
      flush_faulty,
      (
        failed,
        record { reported = refl; same = refl },
        (failed, record { reported = refl; same = refl }, refl),
      ),
    )

pub returns-clause-caused : goal.returns-clause-caused
returns-clause-caused c reports =
    let left =
    step_left state_of book_after_three flush (faulty DiskFailed) book_after_three reports in
    cc ((left.failed refl).1)
