use Rattle.store_replacement.proofs.CopyLemmas.{always_only_after, always_only_same, copied_whole}
use Rattle.store_replacement.proofs.CopyLemmas.{for_copy_same}
use Rattle.store_replacement.proofs.copies.copy.Goals as goal

pub returns-in_err-size-clause-always : goal.returns-in_err-size-clause-always
returns-in_err-size-clause-always g c keeps =
    always_only_same (g.C.Folder.number c.args.to.now) _ _ _ _ c.size.result
    (c.size.ensures.goes_on keeps) (c.size.ensures.same keeps)

pub returns-clause-always : goal.returns-clause-always
returns-clause-always g c keeps =
    let made = g.C.Folder.number c.args.to.now in
    always_only_after made _ _ _ _ _ _
    (always_only_same made _ _ _ _ c.size.result (c.size.ensures.goes_on keeps)
    (c.size.ensures.same keeps))
    (c.copy_all.ensures.always (c.size.ensures.kept keeps))

pub returns-clause-done : goal.returns-clause-done
returns-clause-done g c keeps name is =
    let same = c.size.ensures.same keeps in
    copied_whole _ (g.C.Folder.number c.args.from.now) (g.C.Folder.number c.args.to.now) _ _ _
    c.copy_all.result same (c.in_ok-size.ensures.size keeps)
    (c.copy_all.ensures.done (c.size.ensures.kept keeps) name
    (for_copy_same _ _ name _ _ same is))
