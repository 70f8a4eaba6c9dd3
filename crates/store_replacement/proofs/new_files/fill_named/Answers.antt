use Rattle.std.proofs.Common.{◌∙◌, ap, refl}
use Rattle.file_calls.specs.Names.{leads}
use Rattle.store_replacement.specs.NewFiles.{OnlyMakes}
use Rattle.store_replacement.proofs.CopyLemmas.{was_ok}
use Rattle.store_replacement.proofs.MomentLemmas.{always_start, in_any_case}
use Rattle.store_replacement.proofs.NewFileLemmas.{always_makes_after, always_makes_names}
use Rattle.store_replacement.proofs.NewFileLemmas.{always_makes_only, made_whole, makes_created}
use Rattle.store_replacement.proofs.NewFileLemmas.{leads_created, leads_synced, passed_on}
use Rattle.store_replacement.proofs.new_files.fill_named.Goals as goal

pub returns-in_err-prepare-clause-always : goal.returns-in_err-prepare-clause-always
returns-in_err-prepare-clause-always g c keeps s made =
    always_start (OnlyMakes c.args.name.now s) _ _
    (makes_created c.args.name.now (g.C.Folder.number c.args.file.now) s _ made)

pub returns-in_err-or_error-clause-always : goal.returns-in_err-or_error-clause-always
returns-in_err-or_error-clause-always g c keeps s made =
    always_makes_only c.args.name.now (g.C.Folder.number c.args.file.now) _ _ s _ _ made
    (c.fill_synced.ensures.always keeps)

pub returns-clause-always : goal.returns-clause-always
returns-clause-always g c keeps s made =
    let filled = c.fill_synced.ensures.kept keeps in
    let first = always_makes_only c.args.name.now (g.C.Folder.number c.args.file.now) _ _ s _ _
    made (c.fill_synced.ensures.always keeps) in
    always_makes_after c.args.name.now _ _ _ s _ _ first
    (always_makes_names c.args.name.now _ _ s _ _ c.sync_names.result
    (c.sync_names.ensures.goes_on filled) (c.sync_names.ensures.files filled)
    (c.sync_names.ensures.durable filled) (c.sync_names.ensures.lost filled) first.at_last)

pub returns-clause-made : goal.returns-clause-made
returns-clause-made g c keeps s made =
    let filled = c.fill_synced.ensures.kept keeps in
    let whole = was_ok _ c.fill_synced.result c.or_error.result _ c.or_error.ensures.same
    c.in_ok-or_error.was (c.fill_synced.ensures.done keeps made.empty made.intact) in
    passed_on _ c.sync_names.result c.or_error-2.result c.or_error-2.ensures.same
    (made_whole c.args.name.now _ (g.C.Folder.number c.args.file.now) s
    (g.C.Folder.state c.args.folder.now) (g.C.Folder.state c.fill_synced.new.folder)
    (g.C.Folder.state c.sync_names.new.self) c.sync_names.result made
    (c.fill_synced.ensures.always keeps).at_last whole (c.sync_names.ensures.files filled)
    (c.sync_names.ensures.durable filled))

pub returns-clause-prepared : goal.returns-clause-prepared
returns-clause-prepared g c =
    in_any_case _ c.or_error-2.result (_, c.in_ok-prepare.ensures, refl)

pub returns-in_err-prepare-clause-named : goal.returns-in_err-prepare-clause-named
returns-in_err-prepare-clause-named g c keeps s made =
    leads_created c.args.name.now (g.C.Folder.number c.args.file.now) s _ made

pub returns-in_err-or_error-clause-named : goal.returns-in_err-or_error-clause-named
returns-in_err-or_error-clause-named g c keeps s made =
    ap (λ steps. leads steps c.args.name.now) (c.fill_synced.ensures.always keeps).at_last.steps
    ∙ leads_created c.args.name.now (g.C.Folder.number c.args.file.now) s _ made

pub returns-clause-named : goal.returns-clause-named
returns-clause-named g c keeps s made =
    let filled = c.fill_synced.ensures.kept keeps in
    leads_synced c.args.name.now (g.C.Folder.number c.args.file.now) s
    (g.C.Folder.state c.args.folder.now) (g.C.Folder.state c.fill_synced.new.folder)
    (g.C.Folder.state c.sync_names.new.self) c.sync_names.result made
    (c.fill_synced.ensures.always keeps).at_last.steps (c.sync_names.ensures.durable filled)
    (c.sync_names.ensures.lost filled)
