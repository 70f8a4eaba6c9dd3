use Rattle.store_replacement.proofs.CopyLemmas.{always_only, always_only_after, copied_synced}
use Rattle.store_replacement.proofs.copies.copy_synced.Goals as goal

pub returns-clause-always : goal.returns-clause-always
returns-clause-always g c keeps =
    let copied = c.copy.ensures.kept keeps in
    let made = g.C.Folder.number c.args.to.now in
    always_only_after made _ _ _ _ _ _ (c.copy.ensures.always keeps)
    (always_only made _ _ _ _ c.sync_file.result (c.sync_file.ensures.goes_on copied)
    (c.sync_file.ensures.only copied))

pub returns-clause-done : goal.returns-clause-done
returns-clause-done g c keeps name is =
    let copied = c.copy.ensures.kept keeps in
    copied_synced _ (g.C.Folder.number c.args.to.now) (g.C.Folder.state c.args.folder.now)
    (g.C.Folder.state c.copy.new.folder) (g.C.Folder.state c.sync_file.new.self)
    c.sync_file.result
    (c.in_ok-copy.ensures.done keeps name is) (c.sync_file.ensures.durable copied)
