use Rattle.std.proofs.Common.{◌+◌, length, ap, ◌∙◌, arith}
use Rattle.row_view.specs.Image.{group_bytes, is_kept_group}
use Rattle.row_view.specs.Writing.{put_at}
use Rattle.row_view.proofs.RowLengths.{group_len_most}
use Rattle.state_renewal.specs.Marks.{group_by}
use Rattle.state_renewal.proofs.Leaving.{left_first, left_room, left_next, left_same, left_done}
use Rattle.state_renewal.proofs.renewed_rows.put_groups.Goals.{then-flags-g, else-flags-g}
use Rattle.state_renewal.proofs.renewed_rows.put_groups.Goals as goal

pub loop-g-init : goal.loop-g-init
loop-g-init g c =
    left_first group_bytes is_kept_group 103 c.args.flags.now
    (group_by c.args.scopes.now) c.args.groups.now.groups c.args.at
    c.args.out.now

pub put_group-end-requires-clause-room : goal.put_group-end-requires-clause-room
put_group-end-requires-clause-room g c =
    let row = c.group_at.result.now in
    let found = c.group_at.ensures in
    let room = left_room group_bytes is_kept_group 103 c.args.flags.now
    (group_by c.args.scopes.now) c.args.groups.now.groups c.loop-g.g c.args.at
    c.loop-g.end c.args.out.now c.loop-g.out row c.loop-g.invariant found
    c.if-flags-g.true
    (group_len_most (group_by c.args.scopes.now row) c.group_renumbered.ensures.kept)
    c.requires.room in
    let size = ap (λ r. length (group_bytes r)) c.group_renumbered.ensures.value in
    omega (arith, size, room)

pub loop-g-preserved : goal.loop-g-preserved
loop-g-preserved g c =
    elim c.if-flags-g.branch [
      | then-flags-g w ↦
          let row = w.group_at.result.now in
          let found = w.group_at.ensures in
          left_next group_bytes is_kept_group 103 c.args.flags.now
          (group_by c.args.scopes.now) c.args.groups.now.groups c.loop-g.g c.args.at
          c.loop-g.end c.if-flags-g.end c.args.out.now c.loop-g.out c.if-flags-g.out row
          c.loop-g.invariant found w.if-flags-g.true w.group_renumbered.ensures.kept
          (group_len_most (group_by c.args.scopes.now row) w.group_renumbered.ensures.kept)
          (w.end-is ∙ w.put_group-end.ensures.end
          ∙ ap (λ r. c.loop-g.end + length (group_bytes r)) w.group_renumbered.ensures.value)
          (w.out-is ∙ w.put_group-end.ensures.written
          ∙ ap (λ r. put_at c.loop-g.out c.loop-g.end (group_bytes r))
          w.group_renumbered.ensures.value)
          c.requires.room (ap (λ b. length b) w.out-is ∙ omega (arith, w.put_group-end.auto.out))
      | else-flags-g w ↦
          left_same group_bytes is_kept_group 103 c.args.flags.now
          (group_by c.args.scopes.now) c.args.groups.now.groups c.loop-g.g c.args.at
          c.loop-g.end c.if-flags-g.end c.args.out.now c.loop-g.out c.if-flags-g.out
          c.loop-g.invariant w.if-flags-g.false w.end-is w.out-is
    ]

pub returns : goal.returns
returns g c =
    let done = left_done group_bytes is_kept_group 103 c.args.flags.now
    (group_by c.args.scopes.now) c.args.groups.now.groups c.loop-g.g c.args.at
    c.loop-g.end c.args.out.now c.loop-g.out c.loop-g.invariant
    (omega (arith, c.loop-g-test.false, c.group_count-g-end.ensures.len)) in
    record { end = done.0; written = done.1; kept = done.2; most = done.3 }
