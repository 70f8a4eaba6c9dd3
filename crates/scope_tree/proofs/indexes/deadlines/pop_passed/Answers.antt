use Rattle.std.proofs.Common.{refl, sym, ap, ◌∙◌, subst, get_or}
use Rattle.scope_tree.specs.Deadlines.{AreKnown, due_at}
use Rattle.scope_tree.proofs.Waiting.{none_due}
use Rattle.scope_tree.proofs.indexes.deadlines.pop_passed.Goals as goal

pub first_hit-requires-clause-known : goal.first_hit-requires-clause-known
first_hit-requires-clause-known c =
    subst (AreKnown c.args.scopes.now) (sym c.deref.ensures.0) c.requires.waiting.heap.known

pub returns-in_err-hit : goal.returns-in_err-hit
returns-in_err-hit c =
    let rows = c.args.scopes.now in
    let due = due_at c.args.event c.args.clock rows in
    rw c.from_residual.ensures (
      refl,
      none_due c.args.event c.args.clock rows c.args.due.now.items c.requires.waiting
          c.requires.few
          (λ some. sym (c.first_hit.ensures ∙ ap (λ l. due (get_or l 0 0)) c.deref.ensures.0)
          ∙ c.in_err-hit.was),
    )

pub returns : goal.returns
returns c =
    let rows = c.args.scopes.now in
    let due = due_at c.args.event c.args.clock rows in (
      c.take_first-first.ensures,
      ap due c.take_first-first.ensures.first
          ∙ sym (c.first_hit.ensures ∙ ap (λ l. due (get_or l 0 0)) c.deref.ensures.0)
          ∙ c.in_ok-hit.was,
    )
