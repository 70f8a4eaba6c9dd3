use Rattle.store_replacement.proofs.CallLemmas.{always_keeps_after, always_keeps_same}
use Rattle.store_replacement.proofs.CallLemmas.{always_removed}
use Rattle.store_replacement.proofs.marks.remove_mark.Goals as goal

pub returns-then-not-is_full-clause-always : goal.returns-then-not-is_full-clause-always
returns-then-not-is_full-clause-always g c keeps name apart =
    let looked = c.is_full.ensures.kept keeps in
    always_keeps_after name _ _ _ _ _ _
    (always_keeps_same name _ _ _ _ (c.is_full.ensures.always keeps))
    (always_removed c.args.mark.now name _ _ _ _ c.remove-gone.result
    (c.remove-gone.ensures.goes_on looked) (c.remove-gone.ensures.files looked)
    (c.remove-gone.ensures.removes looked) (c.remove-gone.ensures.failed looked) apart)

pub returns-else-not-is_full-clause-always : goal.returns-else-not-is_full-clause-always
returns-else-not-is_full-clause-always g c keeps name apart =
    always_keeps_same name _ _ _ _ (c.is_full.ensures.always keeps)
