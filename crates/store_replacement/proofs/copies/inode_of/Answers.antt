use Rattle.file_calls.specs.Folders.{ToIdentify}
use Rattle.store_replacement.proofs.CallLemmas.{always_same}
use Rattle.store_replacement.proofs.MarkLemmas.{refused_by}
use Rattle.store_replacement.proofs.copies.inode_of.Goals as goal

pub returns-clause-always : goal.returns-clause-always
returns-clause-always g c keeps =
    always_same _ _ _ _ c.inode.result (c.inode.ensures.goes_on keeps)
    (c.inode.ensures.same keeps)

pub returns-clause-refused : goal.returns-clause-refused
returns-clause-refused g c keeps =
    refused_by
    (g.C.Folder.refuses c.inode.new.self (ToIdentify (g.C.Folder.number c.args.file.now)))
    c.inode.result c.or_error.result c.or_error.ensures.same (c.inode.ensures.refused keeps)
