use Rattle.std.proofs.Common.{◌-◌, ◌/◌, arith}
use Rattle.scope_tree.specs.Deadlines.{IsParent}
use Rattle.scope_tree.proofs.Heaps.{known_at, rises}
use Rattle.scope_tree.proofs.indexes.deadlines.sift_up.Goals as goal

pub key-requires : goal.key-requires
key-requires c = known_at c.args.scopes.now c.loop-i.due _ c.loop-i.invariant.known (let h =
    c.loop-i.invariant.inside in omega arith)

pub key-requires-in-loop-i : goal.key-requires-in-loop-i
key-requires-in-loop-i c = known_at c.args.scopes.now c.loop-i.due _ c.loop-i.invariant.known
    (let h = c.loop-i.invariant.inside in omega arith)

pub loop-i-preserved : goal.loop-i-preserved
loop-i-preserved c =
    let above : IsParent ((c.loop-i.i - 1) / 2) c.loop-i.i = (omega arith, omega arith) in
    rises c.args.scopes.now c.args.due.now c.loop-i.due c.swap.new.self c.loop-i.i
    ((c.loop-i.i - 1) / 2) c.loop-i.invariant above (omega
    (arith, c.key.ensures, c.key-in-loop-i.ensures)) c.swap.ensures.after
