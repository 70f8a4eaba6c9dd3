use Rattle.store_replacement.proofs.BesideLemmas.{always_beside, always_gone, always_old_kept}
use Rattle.store_replacement.proofs.BesideLemmas.{made_beside, new_beside}
use Rattle.store_replacement.proofs.CallLemmas.{always_created}
use Rattle.store_replacement.proofs.copies.replace_by_copy.Goals as goal

pub returns-in-Err-clause-always : goal.returns-in-Err-clause-always
returns-in-Err-clause-always g c keeps apart led =
    always_old_kept c.args.to.now _ _ _ _ _
    (always_created g.C.Folder.number c.args.from.now c.args.to.now _ _ _ _ c.create_new.result
    (c.create_new.ensures.goes_on keeps) (c.create_new.ensures.creates keeps)
    (c.create_new.ensures.failed keeps) apart)

pub returns-in_err-lock-clause-always : goal.returns-in_err-lock-clause-always
returns-in_err-lock-clause-always g c keeps apart led =
    always_old_kept c.args.to.now _ _ _ _ _
    (always_created g.C.Folder.number c.args.from.now c.args.to.now _ _ _ _ c.create_new.result
    (c.create_new.ensures.goes_on keeps) (c.create_new.ensures.creates keeps)
    (c.create_new.ensures.failed keeps) apart)

pub returns-in-Ok-put_prepared-clause-always : goal.returns-in-Ok-put_prepared-clause-always
returns-in-Ok-put_prepared-clause-always g c keeps apart led =
    let s = g.C.Folder.state c.args.folder.now in
    let file = g.C.Folder.number c.args.file.now in
    let made = g.C.Folder.number c.in-Ok.made in
    let creates = c.in-Ok.ensures.creates keeps in
    always_beside c.args.to.now file made c.args.from.now _ _ _ s _ _ creates apart led
    (always_created g.C.Folder.number c.args.from.now c.args.to.now _ _ _ _ c.create_new.result
    (c.create_new.ensures.goes_on keeps) (c.create_new.ensures.creates keeps)
    (c.create_new.ensures.failed keeps) apart)
    (c.put_prepared.ensures.always (c.create_new.ensures.kept keeps) apart
    (made_beside file made c.args.from.now c.args.to.now s _ creates apart led))

pub returns-in-Ok-put_prepared-clause-done : goal.returns-in-Ok-put_prepared-clause-done
returns-in-Ok-put_prepared-clause-done g c keeps apart led =
    let s = g.C.Folder.state c.args.folder.now in
    let file = g.C.Folder.number c.args.file.now in
    let made = g.C.Folder.number c.in-Ok.made in
    let creates = c.in-Ok.ensures.creates keeps in
    new_beside c.args.to.now file made c.args.from.now s _ _ creates led
    (c.in-Ok-put_prepared.ensures.done (c.create_new.ensures.kept keeps) apart
    (made_beside file made c.args.from.now c.args.to.now s _ creates apart led))

pub returns-in-Err-put_prepared-clause-always : goal.returns-in-Err-put_prepared-clause-always
returns-in-Err-put_prepared-clause-always g c keeps apart led =
    let s = g.C.Folder.state c.args.folder.now in
    let file = g.C.Folder.number c.args.file.now in
    let made = g.C.Folder.number c.in-Ok.made in
    let creates = c.in-Ok.ensures.creates keeps in
    let created = c.create_new.ensures.kept keeps in
    always_gone c.args.to.now _ _ _ _ s _ _
    (always_beside c.args.to.now file made c.args.from.now _ _ _ s _ _ creates apart led
    (always_created g.C.Folder.number c.args.from.now c.args.to.now _ _ _ _ c.create_new.result
    (c.create_new.ensures.goes_on keeps) (c.create_new.ensures.creates keeps)
    (c.create_new.ensures.failed keeps) apart)
    (c.put_prepared.ensures.always created apart
    (made_beside file made c.args.from.now c.args.to.now s _ creates apart led)))
    (c.take_away-left.ensures.others (c.put_prepared.ensures.kept created) c.args.to.now apart)
