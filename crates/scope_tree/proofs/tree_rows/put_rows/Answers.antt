use Rattle.std.proofs.Common.{◌+◌, length, arith, ap, ◌∙◌}
use Rattle.row_view.specs.Image.{scope_bytes}
use Rattle.row_view.specs.Writing.{put_at}
use Rattle.scope_tree.proofs.RowLoops.{put_first, put_next, put_done, row_room, row_short}
use Rattle.scope_tree.proofs.RowLoops.{writable_at}
use Rattle.scope_tree.proofs.tree_rows.put_rows.Goals as goal

pub loop-row-init : goal.loop-row-init
loop-row-init c = put_first c.args.rows.now c.args.at c.args.out.now

pub scope_row-requires : goal.scope_row-requires
scope_row-requires c =
    (writable_at c.args.rows.now c.loop-row.row-index c.row-item.result c.requires.rows
    c.loop-row-test.true c.row-item.is).below_root

pub put_scope-end-requires-clause-room : goal.put_scope-end-requires-clause-room
put_scope-end-requires-clause-room c =
    let rows = c.args.rows.now in
    let row = c.row-item.result in
    let may = writable_at rows c.loop-row.row-index row c.requires.rows
    c.loop-row-test.true c.row-item.is in
    let room = row_room rows c.loop-row.row-index c.args.at c.loop-row.end
    (length (scope_bytes row)) c.args.out.now c.loop-row.out c.loop-row.invariant
    c.loop-row-test.true (row_short row may c.scope_row.ensures.kept) c.requires.room in
    let size = ap (λ r. length (scope_bytes r)) c.scope_row.ensures.value in
    omega (arith, size, room)

pub loop-row-preserved : goal.loop-row-preserved
loop-row-preserved c =
    let rows = c.args.rows.now in
    let row = c.row-item.result in
    let end = c.loop-row.end in
    let may = writable_at rows c.loop-row.row-index row c.requires.rows
    c.loop-row-test.true c.row-item.is in
    put_next rows c.loop-row.row-index c.args.at end c.put_scope-end.result c.args.out.now
    c.loop-row.out c.put_scope-end.new.out row c.loop-row.invariant c.loop-row-test.true
    c.row-item.is c.scope_row.ensures.kept (row_short row may c.scope_row.ensures.kept)
    (c.put_scope-end.ensures.end ∙ ap (λ r. end + length (scope_bytes r)) c.scope_row.ensures.value)
    (c.put_scope-end.ensures.written
    ∙ ap (λ r. put_at c.loop-row.out end (scope_bytes r)) c.scope_row.ensures.value)
    c.requires.room (omega (arith, c.put_scope-end.auto.out))

pub returns : goal.returns
returns c =
    let done = put_done c.args.rows.now c.loop-row.row-index c.args.at c.loop-row.end
    c.args.out.now c.loop-row.out c.loop-row.invariant c.loop-row-test.false c.requires.room in
    record { end = done.0; written = done.1; kept = done.2; most = done.3 }
