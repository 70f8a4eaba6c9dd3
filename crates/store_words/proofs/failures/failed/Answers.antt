use Rattle.store_words.proofs.failures.failed.Goals as goal

pub returns-in-Store-clause-file : goal.returns-in-Store-clause-file
returns-in-Store-clause-file g c = rw c.in-Store.is (c.file_failed.ensures c.in-Store.field-0)
