use Rattle.std.proofs.Common.{arith}
use Rattle.run_disk.proofs.MemoryLemmas.{quiet_calls, quiet_kept, quiet_reads}
use Rattle.run_disk.proofs.memory_disks.MemoryDiskRunDisk.read_at.Goals as goal

pub invariant_of-self : goal.invariant_of-self
invariant_of-self g c =
    let disk = c.args.self.now in
    rw c.pass.ensures (record {
      kept = quiet_kept disk.history disk.tally.calls disk.tally.failures disk.kept
          disk.tally.failures c.if-is_spent.ensures.early
          (omega (arith, disk.kept.failures_fit));
    })

pub returns-clause-call : goal.returns-clause-call
returns-clause-call g c =
    let disk = c.args.self.now in
    rw c.pass.ensures
    (quiet_calls disk.history disk.tally.calls disk.tally.failures disk.kept tt
    c.if-is_spent.ensures.early)

pub returns-clause-reads : goal.returns-clause-reads
returns-clause-reads g c honest =
    let disk = c.args.self.now in
    rw c.pass.ensures
    (quiet_reads disk.history disk.tally.calls disk.tally.failures disk.kept
    disk.tally.failures)

pub returns-clause-bytes : goal.returns-clause-bytes
returns-clause-bytes g c honest = c.read.ensures
