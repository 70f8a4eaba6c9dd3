use Rattle.std.proofs.Common.{OnOk, subst}
use Rattle.file_calls.specs.Folders.{IsAlways, IsNew, IsOldOrNew}
use Rattle.store_replacement.proofs.CallLemmas.{always_before, always_old}
use Rattle.store_replacement.proofs.CopyLemmas.{always_less_only, was_ok}
use Rattle.store_replacement.proofs.copies.put_copy.Goals as goal

pub returns-in_err-or_uncopied-clause-always : goal.returns-in_err-or_uncopied-clause-always
returns-in_err-or_uncopied-clause-always g c keeps apart is =
    always_old c.args.to.now _ _ _ _ _
    (always_less_only c.args.to.now _ _ _ _ _ is.unused (c.copy_synced.ensures.always keeps))

pub returns-clause-always : goal.returns-clause-always
returns-clause-always g c keeps apart is =
    let whole = was_ok _ c.copy_synced.result c.or_uncopied.result _ c.or_uncopied.ensures.same
    c.in_ok-or_uncopied.was (c.copy_synced.ensures.done keeps c.args.to.now is) in
    always_before c.args.to.now _ _ _ _ _ _ _
    (always_less_only c.args.to.now _ _ _ _ _ is.unused (c.copy_synced.ensures.always keeps))
    (subst (λ bytes. IsAlways
    (IsOldOrNew c.args.to.now bytes (g.C.Folder.state c.copy_synced.new.folder))
    (g.C.Folder.past c.copy_synced.new.folder) (g.C.Folder.past c.put_made.new.folder)
    (g.C.Folder.state c.put_made.new.folder)) whole.now
    (c.put_made.ensures.always (c.copy_synced.ensures.kept keeps) apart whole.rest))

pub returns-clause-done : goal.returns-clause-done
returns-clause-done g c keeps apart is =
    let whole = was_ok _ c.copy_synced.result c.or_uncopied.result _ c.or_uncopied.ensures.same
    c.in_ok-or_uncopied.was (c.copy_synced.ensures.done keeps c.args.to.now is) in
    subst (λ bytes. OnOk c.put_made.result
    (IsNew c.args.to.now bytes (g.C.Folder.state c.put_made.new.folder))) whole.now
    (c.put_made.ensures.done (c.copy_synced.ensures.kept keeps) apart whole.rest)
