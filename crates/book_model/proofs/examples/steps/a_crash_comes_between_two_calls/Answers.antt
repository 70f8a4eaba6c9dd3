use Rattle.run_model.proofs.Common.{◌++◌, arith, ap, length, length-append}
use Rattle.model_laws.proofs.RunLemmas.{run_counts}
use Rattle.book_model.specs.Examples.Nights.{new_store}
use Rattle.book_model.specs.Examples.Plays.{first_events}
use Rattle.book_model.proofs.examples.steps.a_crash_comes_between_two_calls.Goals as goal

pub returns-clause-kept : goal.returns-clause-kept
returns-clause-kept c bytes kept =
    let reached = run_counts new_store.state kept.state (first_events ++ kept.more) kept.reached in
    let all = ap (λ l. length l) kept.in_order in
    let sum = length-append kept.more kept.lost in
    (omega (arith, reached), omega (arith, reached, all, sum))
