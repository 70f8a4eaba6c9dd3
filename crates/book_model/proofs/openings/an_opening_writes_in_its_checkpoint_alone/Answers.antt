use Rattle.book_model.proofs.OpeningLemmas.{not_reads}
use Rattle.book_model.proofs.openings.an_opening_writes_in_its_checkpoint_alone.Goals as goal

pub returns : goal.returns
returns g c given new why =
    not_reads g.D.RunDisk.state given new why (g.met.D.RunDisk.is_disk given)
