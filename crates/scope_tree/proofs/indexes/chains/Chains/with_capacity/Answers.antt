use Rattle.std.proofs.Common.{sym, ◌∙◌, arith}
use Rattle.scope_tree.proofs.Chaining.{chained_none}
use Rattle.scope_tree.proofs.indexes.chains.Chains.with_capacity.Goals as goal

pub invariant_of-result : goal.invariant_of-result
invariant_of-result g c = (
  chained_none _ _ _ _ _ c.in_ok-keys.ensures.items c.in_ok-nexts.ensures.items
      c.in_ok-heads.ensures.none (omega (arith, c.in_ok-keys.ensures.exact, c.requires))
      (c.in_ok-nexts.ensures.exact ∙ sym c.in_ok-keys.ensures.exact),
  c.in_ok-heads.ensures.capacity,
)
