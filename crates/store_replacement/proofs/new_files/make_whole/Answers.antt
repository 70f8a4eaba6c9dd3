use Rattle.std.proofs.Common.{inl, refl}
use Rattle.store_replacement.specs.NewFiles.{OnlyMakes}
use Rattle.store_replacement.proofs.MomentLemmas.{always_start}
use Rattle.store_replacement.proofs.NewFileLemmas.{always_makes_after, makes_created}
use Rattle.store_replacement.proofs.new_files.make_whole.Goals as goal

pub returns-in-Err-clause-always : goal.returns-in-Err-clause-always
returns-in-Err-clause-always g c keeps s made =
    always_start (OnlyMakes c.args.name.now s) _ _
    (makes_created c.args.name.now (g.C.Folder.number c.args.file.now) s _ made)

pub returns-in-Err-fill_named-clause-always : goal.returns-in-Err-fill_named-clause-always
returns-in-Err-fill_named-clause-always g c keeps s made =
    let first = c.fill_named.ensures.always keeps s made in
    always_makes_after c.args.name.now _ _ _ s _ _ first
    (c.take_away.ensures.always (c.fill_named.ensures.kept keeps) s first.at_last)

pub returns-in-Err-clause-left : goal.returns-in-Err-clause-left
returns-in-Err-clause-left g c keeps s made alone = inl (_, c.in-Err.ensures, refl)
