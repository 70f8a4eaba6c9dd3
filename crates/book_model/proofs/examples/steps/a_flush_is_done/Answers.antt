use Rattle.run_model.proofs.Common.{[], ◌∷◌, Ok, arith, refl, rules}
use Rattle.book_model.specs.Books.{Flushes}
use Rattle.book_model.specs.Examples.Calls.{acked, flush}
use Rattle.book_model.specs.Examples.Steps.{book_after_three, flushed, flushed_twice, state_of}
use Rattle.book_model.proofs.ExampleSteps.{done, fits, three_then}
use Rattle.book_model.proofs.examples.steps.a_flush_is_done.Goals as goal

pub returns-clause-answered : goal.returns-clause-answered
returns-clause-answered c =
    three_then (flush ∷ []) (acked 4 ∷ []) flushed (
      flushed,
      record { result = Ok 4; reported = refl; saves = search (rules, fits); layout = refl },
      refl,
    )

pub returns-clause-again : goal.returns-clause-again
returns-clause-again c = record
    { result = Ok 4; reported = refl; saves = search rules; layout = refl }

pub returns-clause-counted : goal.returns-clause-counted
returns-clause-counted c new reports =
    omega (arith, (done (Flushes state_of) book_after_three new 3 reports).saves.answer.counted)

pub returns-clause-batched : goal.returns-clause-batched
returns-clause-batched c reports =
    let flushes = done (Flushes state_of) book_after_three flushed_twice 4 reports in
    omega (arith, (flushes.added (omega arith) fits).0.clock)
