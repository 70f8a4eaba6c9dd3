use Rattle.file_disk.proofs.CallLemmas.{calls_after, kept_after}
use Rattle.file_disk.proofs.WriteLemmas.{sync_leaves, syncs_after}
use Rattle.file_disk.proofs.file_disks.FileDiskRunDisk.sync.Goals as goal

pub invariant_of-self-2 : goal.invariant_of-self-2
invariant_of-self-2 g c =
    record {
      kept = kept_after _ _ _ _ _ _ _ _ _ _ _ _ _ c.sync-done.result c.count.result
          c.args.self.now.kept c.if-is_stopped.ensures c.count.ensures
          c.sync-done.ensures.kept.1 (λ honest. c.sync-done.ensures.goes_on honest.keeps)
          (λ honest. sync_leaves _ _ _ _ _ (c.args.self.now.kept.ended honest)
          (c.sync-done.ensures.goes_on honest.keeps) (c.sync-done.ensures.durable honest.keeps)
          (c.sync-done.ensures.lost honest.keeps));
    }

pub returns-clause-call : goal.returns-clause-call
returns-clause-call g c =
    calls_after _ _ _ _ _ _ _ _ _ _ _ _ _ c.sync-done.result c.count.result
    c.args.self.now.kept c.if-is_stopped.ensures c.count.ensures
    c.sync-done.ensures.kept.0 c.sync-done.ensures.kept.1
    (λ honest. c.sync-done.ensures.goes_on honest.keeps)

pub returns-clause-syncs : goal.returns-clause-syncs
returns-clause-syncs g c =
    syncs_after _ _ _ _ _ _ _ _ _ _ _ _ _ c.sync-done.result c.count.result
    c.args.self.now.kept c.if-is_stopped.ensures.fine c.sync-done.ensures.kept.0
    c.count.ensures.same (λ keeps. c.sync-done.ensures.goes_on keeps)
    (λ keeps. c.sync-done.ensures.durable keeps) (λ keeps. c.sync-done.ensures.lost keeps)
