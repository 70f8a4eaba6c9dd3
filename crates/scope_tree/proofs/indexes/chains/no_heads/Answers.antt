use Rattle.run_model.proofs.Common.{◌≡◌, ℕ, Option, None, length, ap, ◌∙◌, arith, replicate}
use Rattle.scope_tree.specs.declared.indexes.chains.TheConstants.{CHAINS}
use Rattle.scope_tree.proofs.indexes.chains.no_heads.Goals as goal

pub returns-clause-none : goal.returns-clause-none
returns-clause-none g c =
    let full : length c.loop-heads.heads.items ≡ CHAINS =
    omega (arith, c.loop-heads-test.false, c.loop-heads.invariant.within, c.len.ensures) in
    c.loop-heads.invariant.none ∙ ap (λ n. replicate {A = Option ℕ} n None) full
