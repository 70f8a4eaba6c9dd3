use Rattle.std.proofs.Common.{sym, ◌∙◌}
use Rattle.run_journal.proofs.LayoutLemmas.{one_layout}
use Rattle.book_model.proofs.books.a_book_keeps_its_layout.Goals as goal

pub returns : goal.returns
returns g c old new before after on =
    one_layout new.journal.layout old.journal.layout (sym after ∙ on.passed.size ∙ before)
