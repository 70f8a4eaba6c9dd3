use Rattle.run_model.proofs.Common.{sym, subst, IfOk-from_err, IfErr}
use Rattle.std.proofs.lemmas.Result.{on_ok_weaker}
use Rattle.run_book.proofs.Copying.{new_size, new_state, no_memory}
use Rattle.run_book.proofs.Exits.{passed_on}
use Rattle.book_renewal.specs.Renewals.{RenewsNot}
use Rattle.book_renewal.proofs.Renewing.{are_stores, unread_not, written_not}
use Rattle.book_renewal.proofs.renewals.renew_sized.Goals as goal

pub read_stored-requires-clause-new : goal.read_stored-requires-clause-new
read_stored-requires-clause-new g c = new_state c.args.from _ c.in_ok-state.ensures.state

pub read_stored-requires-clause-size : goal.read_stored-requires-clause-size
read_stored-requires-clause-size g c =
    new_size c.args.from _ _ c.in_ok-state.ensures.state c.requires.from

pub write_left-written-requires-clause-size : goal.write_left-written-requires-clause-size
write_left-written-requires-clause-size g c = c.requires.to

pub write_left-written-requires-clause-few : goal.write_left-written-requires-clause-few
write_left-written-requires-clause-few g c = c.in_ok-stored.ensures.found.few

pub returns-clause-renewed : goal.returns-clause-renewed
returns-clause-renewed g c =
    on_ok_weaker c.write_left-written.result (λ written. record {
      layout = c.args.to;
      size = c.requires.to;
      state = c.in_ok-stored.stored;
      found = c.in_ok-stored.ensures.found;
      written = written;
    }) c.write_left-written.ensures.written

pub returns-clause-not : goal.returns-clause-not
returns-clause-not g c =
    written_not g.D.RunDisk.state g.E.RunDisk.state c.args.old.now c.read_stored.new.old
    c.args.new.now c.write_left-written.new.new c.write_left-written.result c.in_ok-stored.stored
    (are_stores _ _ c.args.from c.args.to c.requires.from c.requires.to)
    c.in_ok-stored.ensures.found c.write_left-written.ensures.not

pub returns-in_err-state-clause-renewed : goal.returns-in_err-state-clause-renewed
returns-in_err-state-clause-renewed g c =
    IfOk-from_err c.from_residual.result _ c.from_residual.ensures.0

pub returns-in_err-state-clause-not : goal.returns-in_err-state-clause-not
returns-in_err-state-clause-not g c =
    let from = g.D.RunDisk.state in
    let to = g.E.RunDisk.state in
    let old = c.args.old.now in
    let given = c.args.new.now in
    subst (λ r. IfErr r (λ w. RenewsNot from to old given w old given))
    (sym (passed_on c.from_residual.result _ c.from_residual.ensures.1))
    (unread_not from to old old given _
    (are_stores _ _ c.args.from c.args.to c.requires.from c.requires.to)
    (no_memory from old _ c.in_err-state.ensures.fault))

pub returns-in_err-stored-clause-renewed : goal.returns-in_err-stored-clause-renewed
returns-in_err-stored-clause-renewed g c =
    IfOk-from_err c.from_residual-in_err-stored.result _ c.from_residual-in_err-stored.ensures.0

pub returns-in_err-stored-clause-not : goal.returns-in_err-stored-clause-not
returns-in_err-stored-clause-not g c =
    let from = g.D.RunDisk.state in
    let to = g.E.RunDisk.state in
    let old = c.args.old.now in
    let read = c.read_stored.new.old in
    let given = c.args.new.now in
    let r = c.from_residual-in_err-stored in
    subst (λ r. IfErr r (λ w. RenewsNot from to old given w read given))
    (sym (passed_on r.result _ r.ensures.1))
    (unread_not from to old read given _
    (are_stores _ _ c.args.from c.args.to c.requires.from c.requires.to)
    c.in_err-stored.ensures.none)
