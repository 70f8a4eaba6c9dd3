use Rattle.file_calls.specs.Folders.{ToCreate}
use Rattle.store_replacement.proofs.CallLemmas.{always_created}
use Rattle.store_replacement.proofs.MarkLemmas.{marked_by}
use Rattle.store_replacement.proofs.marks.leave_mark.Goals as goal

pub returns-clause-always : goal.returns-clause-always
returns-clause-always g c keeps name apart =
    always_created g.C.Folder.number c.args.mark.now name _ _ _ _ c.create_new.result
    (c.create_new.ensures.goes_on keeps) (c.create_new.ensures.creates keeps)
    (c.create_new.ensures.failed keeps) apart

pub returns-clause-marked : goal.returns-clause-marked
returns-clause-marked g c keeps =
    marked_by g.C.Folder.number
    (g.C.Folder.refuses c.create_new.new.self (ToCreate c.args.mark.now)) c.args.mark.now _ _
    c.create_new.result (c.create_new.ensures.creates keeps)
    (c.create_new.ensures.refused keeps)
