use Rattle.store_replacement.proofs.CallLemmas.{always_names, always_synced, done_synced}
use Rattle.store_replacement.proofs.replacements.sync_renamed.Goals as goal

pub returns-clause-always : goal.returns-clause-always
returns-clause-always g c keeps apart =
    let left = c.leave_mark-is_left.ensures.kept keeps in
    let synced = c.sync_names-done.ensures.kept left in
    always_synced c.args.name.now _ _ _ _ _ _ _ _
    (c.leave_mark-is_left.ensures.always keeps c.args.name.now apart)
    (always_names c.args.name.now _ _ _ _ c.sync_names-done.result
    (c.sync_names-done.ensures.goes_on left) (c.sync_names-done.ensures.files left)
    (c.sync_names-done.ensures.durable left) (c.sync_names-done.ensures.lost left))
    (c.settle_mark.ensures.always synced c.args.name.now apart)

pub returns-clause-done : goal.returns-clause-done
returns-clause-done g c keeps apart =
    let left = c.leave_mark-is_left.ensures.kept keeps in
    let synced = c.sync_names-done.ensures.kept left in
    done_synced c.args.name.now _ _ _ _ c.sync_names-done.result
    (c.leave_mark-is_left.ensures.always keeps c.args.name.now apart).at_last
    (c.sync_names-done.ensures.files left) (c.sync_names-done.ensures.durable left)
    (c.settle_mark.ensures.always synced c.args.name.now apart).at_last
