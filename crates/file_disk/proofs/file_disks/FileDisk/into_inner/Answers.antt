use Rattle.file_disk.proofs.OpeningLemmas.{if_honest}
use Rattle.file_disk.proofs.file_disks.FileDisk.into_inner.Goals as goal

pub returns-clause-leaves : goal.returns-clause-leaves
returns-clause-leaves g c honest x = if_honest _ _ honest
