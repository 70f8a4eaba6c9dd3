use Rattle.run_model.proofs.Common.{◌≡◌, ◌<◌, length, value_of}
use Rattle.scope_tree.proofs.indexes.ancestors.nearest_value.Given as goal

abbrev pub invariant-loop-text : goal.invariant-loop-text
invariant-loop-text l = record {
  inside : l.holder < length l.scopes;
  found : value_of l.scopes l.holder l.key ≡ value_of l.scopes l.s l.key;
}

abbrev pub decreases-loop-text : goal.decreases-loop-text
decreases-loop-text l = l.holder
