use Rattle.std.proofs.Common.{arith, ◌+◌}
use Rattle.run_disk.proofs.MemoryLemmas.{quiet_kept, refused_calls, refused_syncs, synced_calls}
use Rattle.run_disk.proofs.MemoryLemmas.{synced_kept, synced_syncs}
use Rattle.run_disk.proofs.memory_disks.MemoryDiskRunDisk.sync.Goals as goal

pub invariant_of-self : goal.invariant_of-self
invariant_of-self g c =
    let disk = c.args.self.now in
    rw (c.in-Ok.ensures.ok, c.pass.ensures) (record {
      kept = synced_kept disk.history disk.tally.calls disk.tally.failures
          disk.kept
          disk.tally.failures c.if-is_spent.ensures.early
          (omega (arith, disk.kept.failures_fit));
    })

pub invariant_of-self-in-Err : goal.invariant_of-self-in-Err
invariant_of-self-in-Err g c =
    let disk = c.args.self.now in
    rw (c.in-Err.ensures.err, c.fail.ensures) (record {
      kept = quiet_kept disk.history disk.tally.calls disk.tally.failures disk.kept
          (disk.tally.failures + 1) c.if-is_spent.ensures.early
          (omega (arith, disk.kept.failures_fit));
    })

pub returns-in-Ok-clause-call : goal.returns-in-Ok-clause-call
returns-in-Ok-clause-call g c =
    let disk = c.args.self.now in
    rw (c.in-Ok.ensures.ok, c.pass.ensures)
    (synced_calls disk.history disk.tally.calls disk.tally.failures disk.kept tt
    c.if-is_spent.ensures.early)

pub returns-in-Ok-clause-syncs : goal.returns-in-Ok-clause-syncs
returns-in-Ok-clause-syncs g c honest =
    let disk = c.args.self.now in
    rw (c.in-Ok.ensures.ok, c.pass.ensures)
    (synced_syncs disk.history disk.tally.calls disk.tally.failures disk.kept tt)

pub returns-in-Err-clause-syncs : goal.returns-in-Err-clause-syncs
returns-in-Err-clause-syncs g c honest =
    let disk = c.args.self.now in
    rw (c.in-Err.ensures.err, c.fail.ensures)
    (refused_syncs disk.history disk.tally.calls disk.tally.failures disk.kept
    (disk.tally.failures + 1) c.fail.result)

pub returns-in-Err-clause-call : goal.returns-in-Err-clause-call
returns-in-Err-clause-call g c =
    let disk = c.args.self.now in
    rw (c.in-Err.ensures.err, c.fail.ensures)
    (refused_calls disk.history disk.tally.calls disk.tally.failures disk.kept c.fail.result
    c.if-is_spent.ensures.early)
