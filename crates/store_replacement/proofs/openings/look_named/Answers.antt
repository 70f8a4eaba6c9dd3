use Rattle.store_replacement.proofs.CallLemmas.{always_same, always_same_after}
use Rattle.store_replacement.proofs.openings.look_named.Goals as goal

pub returns-in_default-clause-always : goal.returns-in_default-clause-always
returns-in_default-clause-always g c keeps =
    let known = c.inode.ensures.kept keeps in
    always_same_after _ _ _ _ _ _
    (always_same _ _ _ _ c.inode.result (c.inode.ensures.goes_on keeps)
    (c.inode.ensures.same keeps))
    (always_same _ _ _ _ c.follow.result (c.follow.ensures.goes_on known)
    (c.follow.ensures.same known))
