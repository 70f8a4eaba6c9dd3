use Rattle.book_model.proofs.OpeningLemmas.{format_nothing, format_stopped, fresh_stores}
use Rattle.book_model.proofs.openings.a_crashed_format_leaves_no_other_state.Goals as goal

pub returns-clause-only : goal.returns-clause-only
returns-clause-only c = format_stopped

pub returns-clause-nothing_or : goal.returns-clause-nothing_or
returns-clause-nothing_or c = format_nothing

pub returns-clause-fresh : goal.returns-clause-fresh
returns-clause-fresh c = fresh_stores
