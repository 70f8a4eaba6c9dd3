use Rattle.store_replacement.proofs.LeftLemmas.{keeps_itself}
use Rattle.store_replacement.proofs.MomentLemmas.{always_start}
use Rattle.store_replacement.specs.Replacements.{KeepsName}
use Rattle.store_replacement.proofs.marks.settle_mark.Goals as goal

pub returns-else-is_left-clause-always : goal.returns-else-is_left-clause-always
returns-else-is_left-clause-always g c keeps name apart =
    always_start (KeepsName name _) _ _ (keeps_itself name _)
