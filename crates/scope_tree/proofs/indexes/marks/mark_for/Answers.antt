use Rattle.std.proofs.Common.{◌<◌, ◌++◌, ◌∷◌, [], true, false, length, IfSome, refl, sym, ◌∙◌}
use Rattle.std.proofs.Common.{subst, arith}
use Rattle.scope_tree.specs.Marks.{IsMark}
use Rattle.scope_tree.proofs.Growing.{chosen_mark, detached_mark, mark_from_above}
use Rattle.scope_tree.proofs.Marking.{above_within}
use Rattle.scope_tree.proofs.indexes.marks.mark_for.Goals as goal

pub returns-then-is_detached : goal.returns-then-is_detached
returns-then-is_detached c =
    detached_mark c.args.scopes.now c.args.row.now c.requires.ordered c.requires.parent
    (sym c.is_detached.ensures ∙ c.if-is_detached.true)

pub mark_above-up-requires : goal.mark_above-up-requires
mark_above-up-requires c below = (let known = c.requires.parent below in
    omega (arith, known, c.requires.marked.same))

pub returns-in_default : goal.returns-in_default
returns-in_default c =
    let rows = c.args.scopes.now in
    subst (IsMark (rows ++ c.args.row.now ∷ []) (length rows)) (sym c.mark_above-up.ensures)
    (mark_from_above c.args.scopes.now c.args.marks.now c.args.row.now c.requires.ordered
    c.requires.marked c.requires.parent (sym c.is_detached.ensures ∙ c.if-is_detached.false)
    c.in_default.is)

pub comes_first-requires : goal.comes_first-requires
comes_first-requires c =
    let rows = c.args.scopes.now in
    subst (λ m. IfSome m (λ n. n < length rows)) (sym c.mark_above-up.ensures)
    (above_within rows c.args.marks.now c.args.row.now c.requires.marked c.requires.parent)

pub returns-then-comes_first : goal.returns-then-comes_first
returns-then-comes_first c =
    chosen_mark c.args.scopes.now c.args.marks.now c.args.row.now c.in-Some.own
    c.mark_above-up.result (length c.args.scopes.now) c.comes_first.result true c.requires.ordered
    c.requires.marked c.requires.parent (sym c.is_detached.ensures ∙ c.if-is_detached.false)
    c.in-Some.is c.mark_above-up.ensures refl c.comes_first.ensures
    c.if-comes_first.true

pub returns-else-comes_first : goal.returns-else-comes_first
returns-else-comes_first c =
    chosen_mark c.args.scopes.now c.args.marks.now c.args.row.now c.in-Some.own
    c.mark_above-up.result (length c.args.scopes.now) c.comes_first.result false c.requires.ordered
    c.requires.marked c.requires.parent (sym c.is_detached.ensures ∙ c.if-is_detached.false)
    c.in-Some.is c.mark_above-up.ensures refl c.comes_first.ensures
    c.if-comes_first.false
