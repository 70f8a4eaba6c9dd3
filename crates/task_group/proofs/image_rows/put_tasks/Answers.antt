use Rattle.run_model.proofs.Common.{◌≡◌, ◌+◌, true, length, arith, refl, sym, ap, subst, ◌∙◌}
use Rattle.run_model.proofs.Common.{slice_get_read}
use Rattle.run_model.specs.declared.tasks.Task.{Task}
use Rattle.row_view.specs.declared.heads.ImageVersion.TheVariants.{Two}
use Rattle.row_view.specs.Image.{task_bytes, is_kept_task}
use Rattle.row_view.specs.Writing.{put_at}
use Rattle.row_view.proofs.RowLengths.{task_len_most}
use Rattle.task_group.proofs.PutLoops.{put_first, put_next, put_done, row_room}
use Rattle.task_group.proofs.image_rows.put_tasks.Goals as goal

pub loop-row-init : goal.loop-row-init
loop-row-init c =
    put_first (task_bytes Two) (is_kept_task Two) 136 c.args.rows.now c.args.at c.args.out.now

pub put_task-end-requires-clause-room : goal.put_task-end-requires-clause-room
put_task-end-requires-clause-room c =
    let row = c.row-item.result in
    let room = row_room (task_bytes Two) (is_kept_task Two) 136 c.args.rows.now c.loop-row.row-index
    c.args.at c.loop-row.end (length (task_bytes Two row)) c.args.out.now c.loop-row.out row
    c.loop-row.invariant c.loop-row-test.true c.row-item.is
    (task_len_most Two row c.task_row.ensures.kept) c.requires.room in
    let size = ap (λ r. length (task_bytes Two r)) c.task_row.ensures.value in
    omega (arith, size, room)

pub loop-row-preserved : goal.loop-row-preserved
loop-row-preserved c =
    let row = c.row-item.result in
    let end = c.loop-row.end in
    put_next (task_bytes Two) (is_kept_task Two) 136 c.args.rows.now c.loop-row.row-index
    c.args.at end c.put_task-end.result c.args.out.now c.loop-row.out c.put_task-end.new.out row
    c.loop-row.invariant c.loop-row-test.true c.row-item.is c.task_row.ensures.kept
    (task_len_most Two row c.task_row.ensures.kept)
    (c.put_task-end.ensures.end
    ∙ ap (λ r. end + length (task_bytes Two r)) c.task_row.ensures.value)
    (c.put_task-end.ensures.written
    ∙ ap (λ r. put_at c.loop-row.out end (task_bytes Two r)) c.task_row.ensures.value)
    c.requires.room (omega (arith, c.put_task-end.auto.out))

pub returns : goal.returns
returns c =
    let done = put_done (task_bytes Two) (is_kept_task Two) 136 c.args.rows.now
    c.loop-row.row-index c.args.at c.loop-row.end c.args.out.now c.loop-row.out
    c.loop-row.invariant c.loop-row-test.false in
    record { end = done.0; written = done.1; kept = done.2; most = done.3 }

pub task_row-requires : goal.task_row-requires
task_row-requires c =
    let rows = c.args.rows.now in
    c.requires.links c.loop-row.row-index c.row-item.result
    (slice_get_read rows (length rows) c.loop-row.row-index c.row-item.result refl
    c.loop-row-test.true c.row-item.is)

pub put_task-end-requires-clause-kept : goal.put_task-end-requires-clause-kept
put_task-end-requires-clause-kept c =
    subst (λ (r : Task). is_kept_task Two r ≡ true) (sym c.task_row.ensures.value)
    c.task_row.ensures.kept
