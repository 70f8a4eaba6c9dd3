use Rattle.book_model.proofs.ExampleNights.{three_states}
use Rattle.book_model.proofs.examples.nights.a_crash_leaves_one_of_three_states.Goals as goal

pub returns : goal.returns
returns c = three_states
