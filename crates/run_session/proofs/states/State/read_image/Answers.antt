use Rattle.std.proofs.Common.{◌≡◌, None, Some, subst, sym}
use Rattle.run_model.specs.declared.layouts.Layout.{Layout}
use Rattle.row_view.specs.RowReading.{head_at}
use Rattle.scope_tree.specs.Whole.{whole}
use Rattle.scope_tree.proofs.WholeReads.{image_takes}
use Rattle.run_session.proofs.Imaging.{if_err, no_head, no_image}
use Rattle.run_session.proofs.states.State.read_image.Goals as goal

pub returns-in_default-clause-none : goal.returns-in_default-clause-none
returns-in_default-clause-none g c =
    let layout = c.self.inside.tree.layout in
    let bytes = c.args.bytes.now in
    rw (← c.self.view_is)
    (no_image layout bytes
    (no_head layout bytes
    (subst (λ (l : Layout). head_at l bytes ≡ None) c.layout.ensures
    (sym c.in_default.ensures.value))))

pub returns-in_err-tree-clause-none : goal.returns-in_err-tree-clause-none
returns-in_err-tree-clause-none g c =
    let bytes = c.args.bytes.now in
    let h = subst (λ (l : Layout). head_at l bytes ≡ Some (c.in-Some.head, c.in-Some.rest.now))
    c.layout.ensures (sym c.in-Some.ensures.value) in
    rw (← c.self.view_is)
    (if_err _ _ (no_image c.self.inside.tree.layout bytes (c.in_err-tree.ensures.none bytes h)))

pub invariant_of-state : goal.invariant_of-state
invariant_of-state g c =
    let bytes = c.args.bytes.now in
    let head = c.in-Some.head in
    let h = subst (λ (l : Layout). head_at l bytes ≡ Some (head, c.in-Some.rest.now))
    c.layout.ensures (sym c.in-Some.ensures.value) in
    (image_takes head.version c.self.inside.tree.layout bytes
    (whole head c.in_ok-tree.tree c.in_ok-tree.groups)
    (c.in_ok-tree.ensures.read bytes h)).consistent

pub returns-clause-read : goal.returns-clause-read
returns-clause-read g c =
    let bytes = c.args.bytes.now in
    let head = c.in-Some.head in
    let h = subst (λ (l : Layout). head_at l bytes ≡ Some (head, c.in-Some.rest.now))
    c.layout.ensures (sym c.in-Some.ensures.value) in
    rw (← c.self.view_is)
    (image_takes head.version c.self.inside.tree.layout bytes
    (whole head c.in_ok-tree.tree c.in_ok-tree.groups)
    (c.in_ok-tree.ensures.read bytes h))
