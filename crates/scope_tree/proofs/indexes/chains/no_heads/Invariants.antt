use Rattle.run_model.proofs.Common.{◌≡◌, ◌≤◌, ◌-◌, None, length, vec_capacity, replicate}
use Rattle.scope_tree.specs.declared.indexes.chains.TheConstants.{CHAINS}
use Rattle.scope_tree.proofs.indexes.chains.no_heads.Given as goal

abbrev pub invariant-loop-heads : goal.invariant-loop-heads
invariant-loop-heads g l = record {
  none : l.heads.items ≡ replicate (length l.heads.items) None;
  capacity : vec_capacity l.heads ≡ CHAINS;
  within : length l.heads.items ≤ CHAINS;
}

abbrev pub decreases-loop-heads : goal.decreases-loop-heads
decreases-loop-heads g l = CHAINS - length l.heads.items
