use Rattle.std.proofs.Common.{◌+◌, length, arith, ap, ◌∙◌}
use Rattle.row_view.specs.Image.{group_bytes, is_kept_group}
use Rattle.row_view.specs.Writing.{put_at}
use Rattle.row_view.proofs.RowLengths.{group_len_most}
use Rattle.task_group.proofs.PutLoops.{put_first, put_next, put_done, row_room}
use Rattle.task_group.proofs.image_rows.put_groups.Goals as goal

pub loop-row-init : goal.loop-row-init
loop-row-init c = put_first group_bytes is_kept_group 103 c.args.rows.now c.args.at c.args.out.now

pub put_group-end-requires-clause-room : goal.put_group-end-requires-clause-room
put_group-end-requires-clause-room c =
    let row = c.row-item.result in
    let room = row_room group_bytes is_kept_group 103 c.args.rows.now c.loop-row.row-index
    c.args.at c.loop-row.end (length (group_bytes row)) c.args.out.now c.loop-row.out row
    c.loop-row.invariant c.loop-row-test.true c.row-item.is
    (group_len_most row c.group_row.ensures.kept) c.requires.room in
    let size = ap (λ r. length (group_bytes r)) c.group_row.ensures.value in
    omega (arith, size, room)

pub loop-row-preserved : goal.loop-row-preserved
loop-row-preserved c =
    let row = c.row-item.result in
    let end = c.loop-row.end in
    put_next group_bytes is_kept_group 103 c.args.rows.now c.loop-row.row-index c.args.at end
    c.put_group-end.result c.args.out.now c.loop-row.out c.put_group-end.new.out row
    c.loop-row.invariant c.loop-row-test.true c.row-item.is c.group_row.ensures.kept
    (group_len_most row c.group_row.ensures.kept)
    (c.put_group-end.ensures.end ∙ ap (λ r. end + length (group_bytes r)) c.group_row.ensures.value)
    (c.put_group-end.ensures.written
    ∙ ap (λ r. put_at c.loop-row.out end (group_bytes r)) c.group_row.ensures.value)
    c.requires.room (omega (arith, c.put_group-end.auto.out))

pub returns : goal.returns
returns c =
    let done = put_done group_bytes is_kept_group 103 c.args.rows.now c.loop-row.row-index c.args.at
    c.loop-row.end c.args.out.now c.loop-row.out c.loop-row.invariant c.loop-row-test.false in
    record { end = done.0; written = done.1; kept = done.2; most = done.3 }
