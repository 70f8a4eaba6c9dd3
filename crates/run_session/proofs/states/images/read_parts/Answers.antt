use Rattle.run_model.proofs.Common.{◌∙◌, ℕ, List, ap, subst, sym, WorkState}
use Rattle.run_model.specs.declared.layouts.Layout.{Layout}
use Rattle.row_view.specs.WorkRows.{AreWorkRows}
use Rattle.run_session.proofs.Imaging.{no_fit, no_tree, no_work, parts_fit, read_there}
use Rattle.run_session.proofs.states.images.read_parts.Goals as goal

pub returns-in-Err-clause-none : goal.returns-in-Err-clause-none
returns-in-Err-clause-none g c = λ image h.
    no_tree c.args.tree.layout image c.args.bytes.now c.args.head.now c.in-Err.ensures.none h

pub returns-in-Err-read_rows-clause-none : goal.returns-in-Err-read_rows-clause-none
returns-in-Err-read_rows-clause-none g c = λ image h.
    let head = c.args.head.now in
    let rest = c.in-Ok.read.1.now in
    no_work c.args.tree.layout image c.args.bytes.now rest head c.in-Ok.read.0 c.in-Ok.ensures.read
    (subst
    (λ (l : Layout). (w : WorkState) (behind : List ℕ) → AreWorkRows l head rest w behind → ⊥)
    (ap (λ (w : WorkState). w.layout) c.requires.groups) c.in-Err-read_rows.ensures.none) h

pub returns-then-not-is_whole-clause-none : goal.returns-then-not-is_whole-clause-none
returns-then-not-is_whole-clause-none g c = λ image h.
    let read = c.in-Ok-read_rows.read in
    no_fit c.args.tree.layout image c.args.bytes.now c.in-Ok.read.1.now read.1.now c.args.head.now
    c.in-Ok.read.0 read.0 c.in-Ok.ensures.read
    (read_there _ _ _ _ _ _ c.requires.groups c.in-Ok-read_rows.ensures.read)
    (sym c.is_whole.ensures ∙ c.if-not-is_whole.true) h

pub returns-clause-read : goal.returns-clause-read
returns-clause-read g c = λ image h.
    let read = c.in-Ok-read_rows.read in
    parts_fit c.args.tree.layout image c.args.bytes.now c.in-Ok.read.1.now read.1.now
    c.args.head.now c.in-Ok.read.0 read.0 c.in-Ok.ensures.read
    (read_there _ _ _ _ _ _ c.requires.groups c.in-Ok-read_rows.ensures.read)
    (sym c.is_whole.ensures ∙ c.if-not-is_whole.false) h
