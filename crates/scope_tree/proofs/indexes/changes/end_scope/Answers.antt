use Rattle.run_model.proofs.Common.{◌≡◌, with_hit, at_row}
use Rattle.std.proofs.Common.{ap, not, ◌∙◌, subst, sym}
use Rattle.scope_tree.specs.Marks.{AreKept, mark_of}
use Rattle.scope_tree.specs.Spread.{IsSpread}
use Rattle.scope_tree.proofs.Striking.{kept_struck, no_spread}
use Rattle.scope_tree.proofs.Spread.{not_some}
use Rattle.scope_tree.proofs.Prefixes.{set_is_at_row}
use Rattle.std.proofs.Math.ListN.{set}
use Rattle.scope_tree.proofs.indexes.changes.end_scope.Given.{Over}
use Rattle.scope_tree.proofs.indexes.changes.end_scope.Goals as goal
use Rattle.scope_tree.proofs.indexes.changes.end_scope.Goals.{then-is_none, else-is_none}

-- The rows after the end of one.
ended : (g : Over) (c : goal.After-end g)
    → set c.args.scopes.now c.args.s c.end.new.row
    ≡ at_row (with_hit c.args.hit) c.args.s c.args.scopes.now
ended g c =
    let rows = c.args.scopes.now in
    let row = c.index-scopes-s.result in
    ap (set rows c.args.s) (c.end.ensures ∙ ap (with_hit c.args.hit) (sym c.index-scopes-s.is))
    ∙ set_is_at_row (with_hit c.args.hit) c.args.s rows row c.requires.known c.index-scopes-s.is

pub returns-clause-rows : goal.returns-clause-rows
returns-clause-rows g c = ended g c

pub returns-clause-kept : goal.returns-clause-kept
returns-clause-kept g c =
    let links = c.args.links.now.keys in
    let old = c.args.marks.now in
    let spread : IsSpread links old c.if-is_none.marks c.args.s = elim c.if-is_none.branch [
      | then-is_none w ↦ rw w.marks-is w.mark_below.ensures
      | else-is_none w ↦ rw w.marks-is
          (no_spread links old c.args.s (c.is_none.ensures ∙ ap not w.if-is_none.false))
    ] in
    subst (λ l. AreKept l c.if-is_none.marks links) (sym (ended g c))
    (kept_struck c.args.scopes.now old c.if-is_none.marks links c.args.s c.args.hit c.requires.kept
    c.requires.struck spread)

pub mark_below-requires-clause-free : goal.mark_below-requires-clause-free
mark_below-requires-clause-free g c =
    not_some (mark_of c.args.marks.now c.args.s) c.is_none.result c.is_none.ensures
    c.if-is_none.true
