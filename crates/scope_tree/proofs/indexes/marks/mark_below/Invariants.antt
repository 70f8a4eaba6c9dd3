use Rattle.std.proofs.Common.{◌+◌, length}
use Rattle.scope_tree.specs.Spread.{unmarked}
use Rattle.scope_tree.proofs.Spread.{Turns}
use Rattle.scope_tree.proofs.indexes.marks.mark_below.Given as goal

abbrev pub invariant-loop-s : goal.invariant-loop-s
invariant-loop-s g l = Turns l.links.keys l.fn.marks l.marks l.work.items l.at

abbrev pub decreases-loop-s : goal.decreases-loop-s
decreases-loop-s g l = length l.work.items + unmarked l.marks
