use Rattle.std.proofs.Common.{arith, ◌+◌}
use Rattle.run_disk.proofs.MemoryLemmas.{quiet_kept, refused_calls, refused_writes, written_calls}
use Rattle.run_disk.proofs.MemoryLemmas.{written_kept, written_writes}
use Rattle.run_disk.proofs.memory_disks.MemoryDiskRunDisk.write_at.Goals as goal

pub invariant_of-self : goal.invariant_of-self
invariant_of-self g c =
    let disk = c.args.self.now in
    rw (c.in-Ok.ensures.ok, c.pass.ensures) (record {
      kept = written_kept disk.history disk.tally.calls disk.tally.failures
          disk.kept
          c.args.at c.args.bytes.now c.requires
          disk.tally.failures c.if-is_spent.ensures.early
          (omega (arith, disk.kept.failures_fit));
    })

pub invariant_of-self-in-Err : goal.invariant_of-self-in-Err
invariant_of-self-in-Err g c =
    let disk = c.args.self.now in
    rw (c.in-Err.ensures.err, c.fail.ensures) (record {
      kept = quiet_kept disk.history disk.tally.calls disk.tally.failures disk.kept
          (disk.tally.failures + 1) c.if-is_spent.ensures.early
          (omega (arith, disk.kept.failures_fit));
    })

pub returns-in-Ok-clause-call : goal.returns-in-Ok-clause-call
returns-in-Ok-clause-call g c =
    let disk = c.args.self.now in
    rw (c.in-Ok.ensures.ok, c.pass.ensures)
    (written_calls disk.history disk.tally.calls disk.tally.failures disk.kept
    c.args.at c.args.bytes.now c.requires tt
    c.if-is_spent.ensures.early)

pub returns-in-Ok-clause-writes : goal.returns-in-Ok-clause-writes
returns-in-Ok-clause-writes g c honest =
    let disk = c.args.self.now in
    rw (c.in-Ok.ensures.ok, c.pass.ensures)
    (written_writes disk.history disk.tally.calls disk.tally.failures disk.kept
    c.args.at c.args.bytes.now c.requires tt)

pub returns-in-Err-clause-writes : goal.returns-in-Err-clause-writes
returns-in-Err-clause-writes g c honest =
    let disk = c.args.self.now in
    rw (c.in-Err.ensures.err, c.fail.ensures)
    (refused_writes disk.history disk.tally.calls disk.tally.failures disk.kept
    (disk.tally.failures + 1) c.args.at c.args.bytes.now c.fail.result)

pub returns-in-Err-clause-call : goal.returns-in-Err-clause-call
returns-in-Err-clause-call g c =
    let disk = c.args.self.now in
    rw (c.in-Err.ensures.err, c.fail.ensures)
    (refused_calls disk.history disk.tally.calls disk.tally.failures disk.kept c.fail.result
    c.if-is_spent.ensures.early)
