use Rattle.store_replacement.proofs.CallLemmas.{always_keeps_after, always_keeps_same}
use Rattle.store_replacement.proofs.CallLemmas.{always_removed, always_same_after}
use Rattle.store_replacement.proofs.NewFileLemmas.{always_makes_after, always_makes_removed}
use Rattle.store_replacement.proofs.NewFileLemmas.{always_makes_same, makes_same, removed_leads}
use Rattle.store_replacement.proofs.NewFileLemmas.{passed_on}
use Rattle.store_replacement.proofs.new_files.take_away.Goals as goal

pub returns-in_err-new-clause-always : goal.returns-in_err-new-clause-always
returns-in_err-new-clause-always g c keeps s makes =
    always_makes_same c.args.name.now _ _ s _ _ makes (c.inode_of.ensures.always keeps)

pub returns-in_err-look_at_new-clause-always : goal.returns-in_err-look_at_new-clause-always
returns-in_err-look_at_new-clause-always g c keeps s makes =
    let known = c.inode_of.ensures.kept keeps in
    always_makes_same c.args.name.now _ _ s _ _ makes
    (always_same_after _ _ _ _ _ _ (c.inode_of.ensures.always keeps)
    (c.look_at_new.ensures.always known))

pub returns-clause-always : goal.returns-clause-always
returns-clause-always g c keeps s makes =
    let known = c.inode_of.ensures.kept keeps in
    let looked = c.look_at_new.ensures.kept known in
    let both = always_same_after _ _ _ _ _ _ (c.inode_of.ensures.always keeps)
    (c.look_at_new.ensures.always known) in
    let name = c.args.name.now in
    always_makes_after name _ _ _ s _ _
    (always_makes_same name _ _ s _ _ makes both)
    (always_makes_removed name _ _ s _ _ c.remove.result (c.remove.ensures.goes_on looked)
    (c.remove.ensures.files looked) (c.remove.ensures.removes looked)
    (c.remove.ensures.failed looked) (makes_same name s _ _ makes both.at_last))

pub returns-clause-gone : goal.returns-clause-gone
returns-clause-gone g c keeps =
    let known = c.inode_of.ensures.kept keeps in
    let looked = c.look_at_new.ensures.kept known in
    passed_on _ c.remove.result c.or_error.result c.or_error.ensures.same
    (removed_leads c.args.name.now (g.C.Folder.state c.look_at_new.new.folder)
    (g.C.Folder.state c.remove.new.self) c.remove.result (c.remove.ensures.removes looked))

pub returns-in_err-new-clause-others : goal.returns-in_err-new-clause-others
returns-in_err-new-clause-others g c keeps other apart =
    always_keeps_same other _ _ _ _ (c.inode_of.ensures.always keeps)

pub returns-in_err-look_at_new-clause-others : goal.returns-in_err-look_at_new-clause-others
returns-in_err-look_at_new-clause-others g c keeps other apart =
    let known = c.inode_of.ensures.kept keeps in
    always_keeps_same other _ _ _ _
    (always_same_after _ _ _ _ _ _ (c.inode_of.ensures.always keeps)
    (c.look_at_new.ensures.always known))

pub returns-clause-others : goal.returns-clause-others
returns-clause-others g c keeps other apart =
    let known = c.inode_of.ensures.kept keeps in
    let looked = c.look_at_new.ensures.kept known in
    always_keeps_after other _ _ _ _ _ _
    (always_keeps_same other _ _ _ _
    (always_same_after _ _ _ _ _ _ (c.inode_of.ensures.always keeps)
    (c.look_at_new.ensures.always known)))
    (always_removed c.args.name.now other _ _ _ _ c.remove.result
    (c.remove.ensures.goes_on looked) (c.remove.ensures.files looked)
    (c.remove.ensures.removes looked) (c.remove.ensures.failed looked) apart)
