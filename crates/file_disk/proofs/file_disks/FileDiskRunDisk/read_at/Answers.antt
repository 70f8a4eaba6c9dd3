use Rattle.file_disk.proofs.CallLemmas.{calls_after, kept_after}
use Rattle.file_disk.proofs.WriteLemmas.{read_leaves}
use Rattle.file_disk.proofs.file_disks.FileDiskRunDisk.read_at.Goals as goal

pub invariant_of-self-2 : goal.invariant_of-self-2
invariant_of-self-2 g c =
    record {
      kept = kept_after _ _ _ _ _ _ _ _ _ _ _ _ _ c.read_at-done.result c.count.result
          c.args.self.now.kept c.if-is_stopped.ensures c.count.ensures
          c.read_at-done.ensures.kept.1 (λ honest. c.read_at-done.ensures.goes_on honest.keeps)
          (λ honest. read_leaves _ _ _ (c.read_at-done.ensures.same honest.keeps));
    }

pub returns-clause-call : goal.returns-clause-call
returns-clause-call g c =
    calls_after _ _ _ _ _ _ _ _ _ _ _ _ _ c.read_at-done.result c.count.result
    c.args.self.now.kept c.if-is_stopped.ensures c.count.ensures
    c.read_at-done.ensures.kept.0 c.read_at-done.ensures.kept.1
    (λ honest. c.read_at-done.ensures.goes_on honest.keeps)
