use Rattle.std.proofs.Common.{OnOk, subst}
use Rattle.file_calls.specs.Folders.{IsAlways, IsNew, IsOldOrNew}
use Rattle.file_calls.specs.OpenFiles.{IsAtRest}
use Rattle.store_replacement.proofs.CallLemmas.{always_less_same, always_old, always_same_after}
use Rattle.store_replacement.proofs.CallLemmas.{done_as_before, new_as_before, rest_as_before}
use Rattle.store_replacement.proofs.copies.put_made.Goals as goal

pub returns-in_err-new-clause-always : goal.returns-in_err-new-clause-always
returns-in_err-new-clause-always g c keeps apart rest =
    always_old c.args.to.now _ _ _ _ _
    (always_less_same c.args.to.now _ _ _ _ (c.inode_of.ensures.always keeps))

pub returns-in_err-old-clause-always : goal.returns-in_err-old-clause-always
returns-in_err-old-clause-always g c keeps apart rest =
    always_old c.args.to.now _ _ _ _ _ (always_less_same c.args.to.now _ _ _ _
    (always_same_after _ _ _ _ _ _ (c.inode_of.ensures.always keeps)
    (c.inode_of-2.ensures.always (c.inode_of.ensures.kept keeps))))

pub returns-clause-always : goal.returns-clause-always
returns-clause-always g c keeps apart rest =
    let new = c.inode_of.ensures.kept keeps in
    let both = always_same_after _ _ _ _ _ _ (c.inode_of.ensures.always keeps)
    (c.inode_of-2.ensures.always new) in
    let t = g.C.Folder.state c.inode_of-2.new.folder in
    let put = subst (λ n. IsAtRest (t.file n)
    → IsAlways (IsOldOrNew c.args.to.now (t.file n).now t)
    (g.C.Folder.past c.inode_of-2.new.folder) (g.C.Folder.past c.put.new.folder)
    (g.C.Folder.state c.put.new.folder))
    (c.in_ok-new.ensures.inode keeps)
    (c.put.ensures.always (c.inode_of-2.ensures.kept new) apart) in
    new_as_before c.args.to.now (g.C.Folder.number c.args.made.now) _ _ _ _ _ _ both
    (put (rest_as_before (g.C.Folder.number c.args.made.now) _ _ both.at_last rest))

pub returns-clause-done : goal.returns-clause-done
returns-clause-done g c keeps apart rest =
    let new = c.inode_of.ensures.kept keeps in
    let both = always_same_after _ _ _ _ _ _ (c.inode_of.ensures.always keeps)
    (c.inode_of-2.ensures.always new) in
    let t = g.C.Folder.state c.inode_of-2.new.folder in
    let put = subst (λ n. IsAtRest (t.file n) → OnOk c.put.result
    (IsNew c.args.to.now (t.file n).now (g.C.Folder.state c.put.new.folder)))
    (c.in_ok-new.ensures.inode keeps)
    (c.put.ensures.done (c.inode_of-2.ensures.kept new) apart) in
    done_as_before c.args.to.now (g.C.Folder.number c.args.made.now) _ _ _ c.put.result both.at_last
    (put (rest_as_before (g.C.Folder.number c.args.made.now) _ _ both.at_last rest))
