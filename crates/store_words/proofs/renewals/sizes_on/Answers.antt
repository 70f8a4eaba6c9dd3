use Rattle.store_words.proofs.renewals.sizes_on.Goals as goal

pub returns-in-Ok-clause-found : goal.returns-in-Ok-clause-found
returns-in-Ok-clause-found g c = (c.in-Ok.state, c.in-Ok.ensures, c.sizes_of.ensures)
