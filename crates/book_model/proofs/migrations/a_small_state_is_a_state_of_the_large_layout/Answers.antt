use Rattle.book_model.proofs.Widening.{widened_layout, widened_rules}
use Rattle.book_model.proofs.migrations.a_small_state_is_a_state_of_the_large_layout.Goals as goal

pub returns-clause-layout : goal.returns-clause-layout
returns-clause-layout c = widened_layout

pub returns-clause-rules : goal.returns-clause-rules
returns-clause-rules c = widened_rules
