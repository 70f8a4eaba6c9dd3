use Rattle.std.proofs.Common.{◌+◌, length, sym, ap, ◌∙◌, arith}
use Rattle.row_view.specs.declared.heads.ImageVersion.TheVariants.{Two}
use Rattle.row_view.specs.Image.{task_bytes, is_kept_task}
use Rattle.row_view.specs.Writing.{put_at}
use Rattle.row_view.proofs.RowLengths.{task_len_most}
use Rattle.state_renewal.specs.Marks.{is_flagged, task_by}
use Rattle.state_renewal.proofs.Leaving.{left_first, left_room, left_next, left_same, left_done}
use Rattle.state_renewal.proofs.renewed_rows.put_tasks.Goals.{then-flags-n, else-flags-n}
use Rattle.state_renewal.proofs.renewed_rows.put_tasks.Goals as goal

pub loop-n-init : goal.loop-n-init
loop-n-init g c =
    left_first (task_bytes Two) (is_kept_task Two) 136 c.args.tasks.now
    (task_by c.args.stay.now c.args.tasks.now) c.args.groups.now.tasks c.args.at
    c.args.out.now

pub put_task-end-requires-clause-room : goal.put_task-end-requires-clause-room
put_task-end-requires-clause-room g c =
    let row = c.task_at.result.now in
    let found = c.task_at.ensures in
    let room = left_room (task_bytes Two) (is_kept_task Two) 136 c.args.tasks.now
    (task_by c.args.stay.now c.args.tasks.now) c.args.groups.now.tasks c.loop-n.n c.args.at
    c.loop-n.end c.args.out.now c.loop-n.out row c.loop-n.invariant found
    (ap (λ l. is_flagged l c.loop-n.n) (sym c.flags-flags.ensures) ∙ c.if-flags-n.true)
    (task_len_most Two
    (task_by c.args.stay.now c.args.tasks.now row) c.task_renumbered.ensures.kept)
    c.requires.room in
    let size = ap (λ r. length ((task_bytes Two) r)) c.task_renumbered.ensures.value in
    omega (arith, size, room)

pub loop-n-preserved : goal.loop-n-preserved
loop-n-preserved g c =
    elim c.if-flags-n.branch [
      | then-flags-n w ↦
          let row = w.task_at.result.now in
          let found = w.task_at.ensures in
          left_next (task_bytes Two) (is_kept_task Two) 136 c.args.tasks.now
          (task_by c.args.stay.now c.args.tasks.now) c.args.groups.now.tasks c.loop-n.n c.args.at
          c.loop-n.end c.if-flags-n.end c.args.out.now c.loop-n.out c.if-flags-n.out row
          c.loop-n.invariant found
          (ap (λ l. is_flagged l c.loop-n.n) (sym c.flags-flags.ensures) ∙ w.if-flags-n.true)
          w.task_renumbered.ensures.kept
          (task_len_most Two (task_by c.args.stay.now c.args.tasks.now row)
          w.task_renumbered.ensures.kept)
          (w.end-is ∙ w.put_task-end.ensures.end
          ∙ ap (λ r. c.loop-n.end + length ((task_bytes Two) r)) w.task_renumbered.ensures.value)
          (w.out-is ∙ w.put_task-end.ensures.written
          ∙ ap (λ r. put_at c.loop-n.out c.loop-n.end ((task_bytes Two) r))
          w.task_renumbered.ensures.value)
          c.requires.room (ap (λ b. length b) w.out-is ∙ omega (arith, w.put_task-end.auto.out))
      | else-flags-n w ↦
          left_same (task_bytes Two) (is_kept_task Two) 136 c.args.tasks.now
          (task_by c.args.stay.now c.args.tasks.now) c.args.groups.now.tasks c.loop-n.n c.args.at
          c.loop-n.end c.if-flags-n.end c.args.out.now c.loop-n.out c.if-flags-n.out
          c.loop-n.invariant
          (ap (λ l. is_flagged l c.loop-n.n) (sym c.flags-flags.ensures) ∙ w.if-flags-n.false)
          w.end-is w.out-is
    ]

pub returns : goal.returns
returns g c =
    let done = left_done (task_bytes Two) (is_kept_task Two) 136 c.args.tasks.now
    (task_by c.args.stay.now c.args.tasks.now) c.args.groups.now.tasks c.loop-n.n c.args.at
    c.loop-n.end c.args.out.now c.loop-n.out c.loop-n.invariant
    (omega (arith, c.loop-n-test.false, c.task_count-n-end.ensures.len)) in
    record { end = done.0; written = done.1; kept = done.2; most = done.3 }
