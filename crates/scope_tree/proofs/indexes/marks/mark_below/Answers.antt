use Rattle.std.proofs.Common.{arith}
use Rattle.scope_tree.proofs.Spread.{popped, turns_go_on}
use Rattle.scope_tree.proofs.indexes.marks.mark_below.Goals as goal

pub mark_children-requires-clause-here : goal.mark_children-requires-clause-here
mark_children-requires-clause-here g c =
    (popped _ _ _ _ _ _ _ c.loop-s.invariant c.in-Some.ensures.items).1.is

pub mark_children-requires-clause-known : goal.mark_children-requires-clause-known
mark_children-requires-clause-known g c =
    let known = (popped _ _ _ _ _ _ _ c.loop-s.invariant c.in-Some.ensures.items).0 in
    omega (arith, known, c.requires.same)

pub loop-s-preserved : goal.loop-s-preserved
loop-s-preserved g c =
    turns_go_on _ _ _ _ _ _ _ c.loop-s.invariant c.in-Some.ensures.items
    c.mark_children.new.marks c.mark_children.new.work.items
    (omega (arith, c.mark_children.ensures.room)) c.mark_children.ensures.spread
