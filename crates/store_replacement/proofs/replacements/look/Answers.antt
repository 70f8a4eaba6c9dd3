use Rattle.file_calls.specs.Folders.{ToLookUp}
use Rattle.store_replacement.proofs.CallLemmas.{always_same}
use Rattle.store_replacement.proofs.MarkLemmas.{refused_by}
use Rattle.store_replacement.proofs.replacements.look.Goals as goal

pub returns-clause-always : goal.returns-clause-always
returns-clause-always g c keeps =
    always_same _ _ _ _ c.look_up.result (c.look_up.ensures.goes_on keeps)
    (c.look_up.ensures.same keeps)

pub returns-clause-refused : goal.returns-clause-refused
returns-clause-refused g c keeps =
    refused_by (g.C.Folder.refuses c.look_up.new.self (ToLookUp c.args.name.now))
    c.look_up.result c.or_error.result c.or_error.ensures.same (c.look_up.ensures.refused keeps)
