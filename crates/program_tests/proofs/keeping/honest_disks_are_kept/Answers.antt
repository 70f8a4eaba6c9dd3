use Rattle.program_tests.proofs.KeptRuns.{kept, readings, scripts}
use Rattle.program_tests.proofs.keeping.honest_disks_are_kept.Goals as goal

pub returns-clause-found : goal.returns-clause-found
returns-clause-found g c = λ passes. kept g.D.RunDisk.state passes g.met.D.RunDisk.is_disk

pub returns-clause-readings : goal.returns-clause-readings
returns-clause-readings g c = λ passes. readings g.D.RunDisk.state passes g.met.D.RunDisk.is_disk

pub returns-clause-scripts : goal.returns-clause-scripts
returns-clause-scripts g c = λ passes. scripts g.D.RunDisk.state passes g.met.D.RunDisk.is_disk
