use Rattle.store_replacement.proofs.NewFileLemmas.{always_makes_after, always_new}
use Rattle.store_replacement.proofs.new_files.make_new.Goals as goal

pub returns-in-Err-clause-always : goal.returns-in-Err-clause-always
returns-in-Err-clause-always g c keeps =
    always_new g.C.Folder.number c.args.name.now _ _ _ _ c.create_new.result
    (c.create_new.ensures.goes_on keeps) (c.create_new.ensures.creates keeps)
    (c.create_new.ensures.failed keeps)

pub returns-in-Ok-make_whole-clause-always : goal.returns-in-Ok-make_whole-clause-always
returns-in-Ok-make_whole-clause-always g c keeps =
    always_makes_after c.args.name.now _ _ _ _ _ _
    (always_new g.C.Folder.number c.args.name.now _ _ _ _ c.create_new.result
    (c.create_new.ensures.goes_on keeps) (c.create_new.ensures.creates keeps)
    (c.create_new.ensures.failed keeps))
    (c.make_whole.ensures.always (c.create_new.ensures.kept keeps)
    (g.C.Folder.state c.args.folder.now) (c.in-Ok.ensures.creates keeps))

pub returns-in-Err-make_whole-clause-always : goal.returns-in-Err-make_whole-clause-always
returns-in-Err-make_whole-clause-always g c keeps =
    always_makes_after c.args.name.now _ _ _ _ _ _
    (always_new g.C.Folder.number c.args.name.now _ _ _ _ c.create_new.result
    (c.create_new.ensures.goes_on keeps) (c.create_new.ensures.creates keeps)
    (c.create_new.ensures.failed keeps))
    (c.make_whole.ensures.always (c.create_new.ensures.kept keeps)
    (g.C.Folder.state c.args.folder.now) (c.in-Ok.ensures.creates keeps))
