use Rattle.file_disk.proofs.CallLemmas.{calls_after, kept_after}
use Rattle.file_disk.proofs.WriteLemmas.{write_leaves_on, writes_after}
use Rattle.file_disk.proofs.file_disks.FileDiskRunDisk.write_at.Goals as goal

pub invariant_of-self-2 : goal.invariant_of-self-2
invariant_of-self-2 g c =
    record {
      kept = kept_after _ _ _ _ _ _ _ _ _ _ _ _ _ c.write_at-done.result c.count.result
          c.args.self.now.kept c.if-is_stopped.ensures c.count.ensures
          c.write_at-done.ensures.kept.1 (λ honest. c.write_at-done.ensures.goes_on honest.keeps)
          (λ honest. write_leaves_on _ _ _ _ _ _ _ _ _ c.args.at c.args.bytes.now _
          c.args.self.now.kept
          c.requires (λ keeps. c.write_at-done.ensures.writes keeps) honest);
    }

pub returns-clause-call : goal.returns-clause-call
returns-clause-call g c =
    calls_after _ _ _ _ _ _ _ _ _ _ _ _ _ c.write_at-done.result c.count.result
    c.args.self.now.kept c.if-is_stopped.ensures c.count.ensures
    c.write_at-done.ensures.kept.0 c.write_at-done.ensures.kept.1
    (λ honest. c.write_at-done.ensures.goes_on honest.keeps)

pub returns-clause-writes : goal.returns-clause-writes
returns-clause-writes g c =
    writes_after _ _ _ _ _ _ _ _ _ _ _ _ _ c.args.at c.args.bytes.now c.write_at-done.result
    c.count.result c.args.self.now.kept c.write_at-done.ensures.kept.0 c.count.ensures.same
    c.requires (λ keeps. c.write_at-done.ensures.writes keeps)
