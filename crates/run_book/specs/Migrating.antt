-- The faults that a migration reports. No public contract cites what follows.
use Rattle.run_model.specs.declared.faults.Fault.{Fault}
use Rattle.run_model.specs.declared.faults.Fault.TheVariants.{Memory}
use Rattle.book_model.specs.declared.migrations.MigrateFault.{MigrateFault}
use Rattle.book_model.specs.declared.migrations.MigrateFault.TheVariants as why

-- The fault that a migration reports if the recovery of the old disk has this fault. Refused memory
-- isn't a fault of the disk.
abbrev pub of_old : Fault → MigrateFault
of_old Memory = why.Memory
of_old fault = why.Old fault
