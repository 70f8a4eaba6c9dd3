use Rattle.run_model.proofs.Common.{not, ap, subst, ◌∙◌}
use Rattle.scope_tree.specs.Marks.{mark_of}
use Rattle.scope_tree.proofs.Spread.{Walk, walk_starts, walk_skips, walk_marks, walk_ends}
use Rattle.scope_tree.proofs.Spread.{not_some, inside}
use Rattle.scope_tree.proofs.indexes.marks.mark_children.Goals as goal
use Rattle.scope_tree.proofs.indexes.marks.mark_children.Goals.{then-is_none, else-is_none}

pub loop-child-init : goal.loop-child-init
loop-child-init g c =
    walk_starts c.args.links.now.keys c.args.marks.now c.args.work.now.items c.args.s c.args.at
    c.last-child.result c.last-child.ensures c.requires.here

pub loop-child-preserved : goal.loop-child-preserved
loop-child-preserved g c =
    let links = c.args.links.now.keys in
    let t = c.in-Some.t in
    let walk = subst (Walk links c.args.marks.now c.loop-child.marks c.args.work.now.items
    c.loop-child.work.items c.args.s c.args.at) c.in-Some.is c.loop-child.invariant in
    elim c.if-is_none.branch [
      | then-is_none w ↦ rw (w.marks-is, w.work-is, w.push.ensures.items)
          (walk_marks links c.args.marks.now c.loop-child.marks c.args.work.now.items
          c.loop-child.work.items c.args.s c.args.at t c.before-child.result c.before-child.ensures
          walk (inside c.args.marks.now c.loop-child.marks links c.args.s t walk.k walk.last.0
          walk.within walk.same c.requires.same)
          walk.last.1 (not_some (mark_of c.loop-child.marks t) c.is_none.result c.is_none.ensures
          w.if-is_none.true))
      | else-is_none w ↦ rw (w.marks-is, w.work-is)
          (walk_skips links c.args.marks.now c.loop-child.marks c.args.work.now.items
          c.loop-child.work.items c.args.s c.args.at t c.before-child.result c.before-child.ensures
          walk (λ child. c.is_none.ensures ∙ ap not w.if-is_none.false))
    ]

pub returns-clause-spread : goal.returns-clause-spread
returns-clause-spread g c =
    let links = c.args.links.now.keys in
    walk_ends links c.args.marks.now c.loop-child.marks c.args.work.now.items
    c.loop-child.work.items c.args.s c.args.at
    (subst (Walk links c.args.marks.now c.loop-child.marks c.args.work.now.items
    c.loop-child.work.items c.args.s c.args.at) c.in_default.is c.loop-child.invariant)
