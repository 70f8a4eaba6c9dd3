use Rattle.std.proofs.Common.{sym, ◌∙◌}
use Rattle.scope_tree.proofs.Waiting.{noted_pushed, noted_same}
use Rattle.scope_tree.proofs.indexes.deadlines.note.Goals as goal

pub returns-then-waits : goal.returns-then-waits
returns-then-waits c =
    noted_pushed c.args.scopes.now c.args.due.now.items c.args.n c.index-scopes-n.result
    c.requires.known c.index-scopes-n.is c.push.new.due.items
    (sym c.if-waits.true ∙ c.waits.ensures) c.push.ensures.heap c.push.ensures.same

pub returns-else-waits : goal.returns-else-waits
returns-else-waits c =
    noted_same c.args.scopes.now c.args.due.now.items c.args.n c.index-scopes-n.result
    c.requires.known c.index-scopes-n.is (sym c.if-waits.false ∙ c.waits.ensures)
    c.requires.heap
