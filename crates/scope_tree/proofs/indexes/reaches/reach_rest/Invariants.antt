use Rattle.std.proofs.Common.{◌≡◌}
use Rattle.scope_tree.specs.Reaches.{AreReaches}
use Rattle.scope_tree.proofs.indexes.reaches.reach_rest.Given as goal

abbrev pub invariant-loop-s : goal.invariant-loop-s
invariant-loop-s g l = record {
  same : l.reaches.len ≡ l.s;
  right : AreReaches l.scopes l.reaches.items;
  capacity : l.reaches.cap ≡ l.initial.reaches.cap;
}
