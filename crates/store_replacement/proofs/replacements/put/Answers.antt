use Rattle.store_replacement.proofs.CallLemmas.{always_less_same, always_old}
use Rattle.store_replacement.proofs.CallLemmas.{always_same_after, new_as_before, rest_as_before}
use Rattle.store_replacement.proofs.CallLemmas.{leads_as_before, done_as_before}
use Rattle.store_replacement.proofs.replacements.put.Goals as goal

pub returns-in_err-look_at_new-clause-always : goal.returns-in_err-look_at_new-clause-always
returns-in_err-look_at_new-clause-always g c keeps apart rest =
    always_old c.args.to.now _ _ _ _ _
    (always_less_same c.args.to.now _ _ _ _ (c.look_at_new.ensures.always keeps))

pub returns-in_err-look_at_old-clause-always : goal.returns-in_err-look_at_old-clause-always
returns-in_err-look_at_old-clause-always g c keeps apart rest =
    let new = c.look_at_new.ensures.kept keeps in
    always_old c.args.to.now _ _ _ _ _ (always_less_same c.args.to.now _ _ _ _
    (always_same_after _ _ _ _ _ _ (c.look_at_new.ensures.always keeps)
    (c.look_at_old.ensures.always new)))

pub returns-clause-always : goal.returns-clause-always
returns-clause-always g c keeps apart rest =
    let new = c.look_at_new.ensures.kept keeps in
    let both = always_same_after _ _ _ _ _ _ (c.look_at_new.ensures.always keeps)
    (c.look_at_old.ensures.always new) in
    new_as_before c.args.to.now c.args.new.number _ _ _ _ _ _ both
    (c.rename.ensures.always (c.look_at_old.ensures.kept new) apart c.args.new.number
    (leads_as_before c.args.from.now c.args.new.number _ _ both.at_last
    (c.in_ok-look_at_new.ensures.from keeps))
    (rest_as_before c.args.new.number _ _ both.at_last rest))

pub returns-clause-done : goal.returns-clause-done
returns-clause-done g c keeps apart rest =
    let new = c.look_at_new.ensures.kept keeps in
    let both = always_same_after _ _ _ _ _ _ (c.look_at_new.ensures.always keeps)
    (c.look_at_old.ensures.always new) in
    done_as_before c.args.to.now c.args.new.number _ _ _ c.rename.result both.at_last
    (c.rename.ensures.done (c.look_at_old.ensures.kept new) apart c.args.new.number
    (leads_as_before c.args.from.now c.args.new.number _ _ both.at_last
    (c.in_ok-look_at_new.ensures.from keeps))
    (rest_as_before c.args.new.number _ _ both.at_last rest))
