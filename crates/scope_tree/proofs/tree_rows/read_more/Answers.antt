use Rattle.run_model.proofs.Common.{◌+◌, sym, ap, ◌∙◌, subst, arith, Some, rules}
use Rattle.scope_tree.proofs.RowLoops.{ReadSoFar, read_next, read_no_row, read_stray_row, follower}
use Rattle.scope_tree.proofs.Sounding.{rows_are, capacity_is}
use Rattle.scope_tree.proofs.tree_rows.read_more.Goals as goal

pub returns-in_err-view-clause-none : goal.returns-in_err-view-clause-none
returns-in_err-view-clause-none g c =
    let head = c.args.head.now in
    let none = read_no_row head.count head.clock head.scopes c.loop-n.n c.args.rows.now.rows
    c.loop-n.rows.rows c.args.bytes.now c.loop-n.rest.now c.loop-n.invariant.so
    c.loop-n-test.true (sym c.in_err-view.ensures.value) in
    search (rules, none)

pub returns-then-not-can_follow-clause-none : goal.returns-then-not-can_follow-clause-none
returns-then-not-can_follow-clause-none g c =
    let head = c.args.head.now in
    let behind = c.in_ok-view.behind.now in
    let read = sym c.in_ok-view.ensures.value
    ∙ ap (λ r. Some (r, behind)) (sym c.row_copy-row.ensures) in
    read_stray_row head.count head.clock head.scopes c.loop-n.n c.args.rows.now.rows
    c.loop-n.rows.rows c.args.bytes.now c.loop-n.rest.now behind c.row_copy-row.result
    c.loop-n.invariant.so c.loop-n-test.true read
    (sym c.can_follow.ensures ∙ c.if-not-can_follow.true)

pub push-requires-clause-free : goal.push-requires-clause-free
push-requires-clause-free g c =
    (follower c.args.head.now.count c.args.head.now.clock c.loop-n.rows.rows c.row_copy-row.result
    (sym c.can_follow.ensures ∙ c.if-not-can_follow.false)).free

pub push-requires-clause-parent : goal.push-requires-clause-parent
push-requires-clause-parent g c below =
    (follower c.args.head.now.count c.args.head.now.clock c.loop-n.rows.rows c.row_copy-row.result
    (sym c.can_follow.ensures ∙ c.if-not-can_follow.false)).known

pub push-requires-clause-room : goal.push-requires-clause-room
push-requires-clause-room g c =
    let counted = c.loop-n.invariant.so.counted in
    omega (arith, counted, c.loop-n-test.true, c.loop-n.invariant.capacity, c.requires)

pub loop-n-preserved : goal.loop-n-preserved
loop-n-preserved g c =
    let head = c.args.head.now in
    let behind = c.in_ok-view.behind.now in
    let read = sym c.in_ok-view.ensures.value
    ∙ ap (λ r. Some (r, behind)) (sym c.row_copy-row.ensures) in
    let next = read_next head.count head.clock head.scopes c.loop-n.n c.args.rows.now.rows
    c.loop-n.rows.rows c.args.bytes.now c.loop-n.rest.now behind c.row_copy-row.result
    c.loop-n.invariant.so c.loop-n-test.true read
    (sym c.can_follow.ensures ∙ c.if-not-can_follow.false) in
    record {
      so = subst (λ rows. ReadSoFar head.count head.clock head.scopes (c.loop-n.n + 1)
          c.args.rows.now.rows rows c.args.bytes.now behind)
          (sym (rows_are _ _ c.push.ensures)) next;
      capacity = capacity_is _ _ c.push.ensures ∙ c.loop-n.invariant.capacity;
    }
