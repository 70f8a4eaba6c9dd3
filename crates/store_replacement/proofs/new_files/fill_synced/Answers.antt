use Rattle.store_replacement.proofs.CopyLemmas.{always_only, always_only_after, copied_synced}
use Rattle.store_replacement.proofs.new_files.fill_synced.Goals as goal

pub returns-clause-always : goal.returns-clause-always
returns-clause-always g c keeps =
    let filled = c.fill.ensures.kept keeps in
    let made = g.C.Folder.number c.args.file.now in
    always_only_after made _ _ _ _ _ _ (c.fill.ensures.always keeps)
    (always_only made _ _ _ _ c.sync_file.result (c.sync_file.ensures.goes_on filled)
    (c.sync_file.ensures.only filled))

pub returns-clause-done : goal.returns-clause-done
returns-clause-done g c keeps empty intact =
    let filled = c.fill.ensures.kept keeps in
    copied_synced _ (g.C.Folder.number c.args.file.now) (g.C.Folder.state c.args.folder.now)
    (g.C.Folder.state c.fill.new.folder) (g.C.Folder.state c.sync_file.new.self)
    c.sync_file.result
    (c.in_ok-fill.ensures.done keeps empty intact) (c.sync_file.ensures.durable filled)
