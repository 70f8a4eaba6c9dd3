use Rattle.file_disk.proofs.OpeningLemmas.{honest_as_before, rests}
use Rattle.file_disk.proofs.file_disks.FileDisk.unsettled.Goals as goal

pub returns-clause-honest : goal.returns-clause-honest
returns-clause-honest g c =
    rw c.of.ensures (honest_as_before _ _ _ _ c.size.ensures.kept c.size.ensures.same)

pub returns-clause-rest : goal.returns-clause-rest
returns-clause-rest g c =
    rw c.of.ensures (rests _ _ _ _ _ _ _ _ _ c.size.ensures.kept c.size.ensures.same)
