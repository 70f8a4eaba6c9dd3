use Rattle.std.proofs.Common.{refl}
use Rattle.run_disk.proofs.OverLemmas.{shows_below}
use Rattle.run_disk.proofs.failing_disks.FailingDisk.into_inner.Goals as goal

pub returns-clause-below : goal.returns-clause-below
returns-clause-below g c = refl

pub returns-clause-same : goal.returns-clause-same
returns-clause-same g c = shows_below _ _ _ _ _

pub returns-clause-since : goal.returns-clause-since
returns-clause-since g c t x = (λ left. left, λ left. left)
