use Rattle.std.proofs.Common.{◌∙◌, arith}
use Rattle.scope_tree.proofs.Nearing.{reaches_pushed}
use Rattle.scope_tree.proofs.indexes.reaches.reach_rest.Goals as goal

pub loop-s-preserved : goal.loop-s-preserved
loop-s-preserved g c = record {
  same = omega (arith, c.push_reserved.ensures.len, c.loop-s.invariant.same);
  right = reaches_pushed c.args.scopes.now c.loop-s.reaches.items _ c.loop-s.s
      c.new_reach-reach.result c.loop-s.invariant.right c.new_reach-reach.ensures
      (omega (arith, c.loop-s.invariant.same, c.loop-s.reaches.ok)) c.push_reserved.ensures.items;
  capacity = c.push_reserved.ensures.capacity ∙ c.loop-s.invariant.capacity;
}
