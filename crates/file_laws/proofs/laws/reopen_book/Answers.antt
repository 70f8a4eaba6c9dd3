use Rattle.std.proofs.Common.{◌≡◌, ◌∙◌, ap, subst}
use Rattle.run_model.specs.Session.{Session}
use Rattle.run_model.specs.State.{State}
use Rattle.book_model.specs.Stores.{Stores, restarted}
use Rattle.file_laws.proofs.laws.reopen_book.Goals as goal

pub returns-in-Ok-open : goal.returns-in-Ok-open
returns-in-Ok-open g c safe =
    let found = c.durable-acked.ensures.images safe _ c.requires.left in
    let opened = c.in-Ok-open.ensures.opens.answer in
    let honest = c.in-Ok.ensures.honest.1 (c.requires.keeps, c.requires.intact) in
    let same = c.in-Ok.ensures.same c.requires.keeps in
    let stored = subst (λ bytes. Stores bytes opened.stored) same (opened.found.stores honest) in
    let one : opened.stored ≡ found.state =
    c.a_store_means_one_state.ensures.one _ _ _ stored found.stores in (
      found.state,
      found.prefix,
      ap (λ (s : Session). s.start) opened.opened.session ∙ ap restarted one,
    )
