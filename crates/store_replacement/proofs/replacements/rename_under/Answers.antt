use Rattle.store_replacement.proofs.CallLemmas.{always_after, always_renamed, done_renamed}
use Rattle.store_replacement.proofs.CopyLemmas.{mark_is_another}
use Rattle.store_replacement.proofs.replacements.rename_under.Goals as goal

pub returns-in_err-rename-clause-always : goal.returns-in_err-rename-clause-always
returns-in_err-rename-clause-always g c keeps apart mark file led rest =
    always_renamed c.args.from.now c.args.to.now file _ _ _ _ c.rename.result
    (c.rename.ensures.goes_on keeps) (c.rename.ensures.files keeps)
    (c.rename.ensures.renames keeps) (c.rename.ensures.failed keeps) apart led rest

pub returns-clause-always : goal.returns-clause-always
returns-clause-always g c keeps apart mark file led rest =
    let renamed = c.rename.ensures.kept keeps in
    always_after c.args.to.now _ _ _ _ _ _ _
    (always_renamed c.args.from.now c.args.to.now file _ _ _ _ c.rename.result
    (c.rename.ensures.goes_on keeps) (c.rename.ensures.files keeps)
    (c.rename.ensures.renames keeps) (c.rename.ensures.failed keeps) apart led rest)
    (c.sync_renamed.ensures.always renamed (mark_is_another _ _ mark))

pub returns-clause-done : goal.returns-clause-done
returns-clause-done g c keeps apart mark file led rest =
    let renamed = c.rename.ensures.kept keeps in
    done_renamed c.args.from.now c.args.to.now file _ _ _ c.sync_renamed.result
    (c.rename.ensures.files keeps) (c.in_ok-rename.ensures.renames keeps)
    (c.sync_renamed.ensures.done renamed (mark_is_another _ _ mark)) apart led rest
