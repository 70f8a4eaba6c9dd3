use Rattle.std.proofs.Common.{refl}
use Rattle.store_replacement.proofs.CallLemmas.{always_old}
use Rattle.store_replacement.proofs.LeftLemmas.{less_itself}
use Rattle.store_replacement.proofs.MomentLemmas.{always_start, in_any_case}
use Rattle.store_replacement.specs.Replacements.{LeavesNoMore}
use Rattle.store_replacement.proofs.copies.put_prepared.Goals as goal

pub returns-in_err-prepare-clause-always : goal.returns-in_err-prepare-clause-always
returns-in_err-prepare-clause-always g c keeps apart is =
    always_old c.args.to.now _ _ _ _ _
    (always_start (LeavesNoMore c.args.to.now _) _ _ (less_itself c.args.to.now _))

pub returns-clause-prepared : goal.returns-clause-prepared
returns-clause-prepared g c =
    in_any_case _ c.put_copy.result (_, c.in_ok-prepare.ensures, refl)
