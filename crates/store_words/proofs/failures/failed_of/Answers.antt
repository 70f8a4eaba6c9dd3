use Rattle.store_words.proofs.failures.failed_of.Goals as goal

pub returns-in-Old-clause-file : goal.returns-in-Old-clause-file
returns-in-Old-clause-file g c =
    rw (c.in-Old.is, c.failed.ensures.fault, ← c.of.ensures) c.failed.ensures.file
