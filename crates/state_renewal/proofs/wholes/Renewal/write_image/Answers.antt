use Rattle.run_model.proofs.Common.{◌≡◌, ◌≤◌, ◌+◌, length, drop, ap, ◌∙◌, arith, flat_map}
use Rattle.row_view.specs.declared.heads.ImageHead.{ImageHead}
use Rattle.row_view.specs.declared.heads.ImageVersion.TheVariants.{Two}
use Rattle.row_view.specs.Image.{group_bytes, head_bytes, in_version, scope_bytes, task_bytes}
use Rattle.row_view.specs.Writing.{put_at}
use Rattle.row_view.proofs.Joins.{put_then}
use Rattle.state_renewal.specs.Renewed.{renewed}
use Rattle.run_session.proofs.Imaging.{written}
use Rattle.state_renewal.proofs.Renewing.{renewed_image, room_there}
use Rattle.state_renewal.proofs.wholes.Renewal.write_image.Goals as goal

pub put_renewed_groups-end-requires-clause-room : goal.put_renewed_groups-end-requires-clause-room
put_renewed_groups-end-requires-clause-room g c =
    let there = room_there c.args.layout c.args.state.now c.count-rules.ensures.rules
    c.requires.fits in
    omega (
      arith,
      c.requires.room,
      there.0,
      there.1,
      there.2,
      c.put_head-end.ensures.end,
      c.put_renewed_scopes-end.ensures.most,
      c.put_head-end.auto.out,
      c.put_renewed_scopes-end.auto.out,
    )

pub put_renewed_tasks-requires-clause-room : goal.put_renewed_tasks-requires-clause-room
put_renewed_tasks-requires-clause-room g c =
    let there = room_there c.args.layout c.args.state.now c.count-rules.ensures.rules
    c.requires.fits in
    omega (
      arith,
      c.requires.room,
      there.0,
      there.1,
      there.2,
      c.put_head-end.ensures.end,
      c.put_renewed_scopes-end.ensures.most,
      c.put_renewed_groups-end.ensures.most,
      c.put_head-end.auto.out,
      c.put_renewed_scopes-end.auto.out,
      c.put_renewed_groups-end.auto.out,
    )

pub returns-clause-written : goal.returns-clause-written
returns-clause-written g c =
    let q = renewed c.args.state.now in
    let old = c.args.out.now in
    let first = c.put_head-end.new.out in
    let second = c.put_renewed_scopes-end.new.out in
    let end = c.put_renewed_scopes-end.result in
    let behind = c.put_renewed_groups-end.result in
    let there = room_there c.args.layout c.args.state.now c.count-rules.ensures.rules
    c.requires.fits in
    let place : c.put_head-end.result ≡ 23 = omega (arith, c.put_head-end.ensures.end) in
    let fits : behind ≤ length second = omega (
      arith,
      c.requires.room,
      there.0,
      there.1,
      there.2,
      place,
      c.put_renewed_scopes-end.ensures.most,
      c.put_renewed_groups-end.ensures.most,
      c.put_head-end.auto.out,
      c.put_renewed_scopes-end.auto.out,
    ) in
    let room : end ≤ length old = omega (
      arith,
      c.requires.room,
      there.0,
      place,
      c.put_renewed_scopes-end.ensures.most,
    ) in
    written q old first second c.put_renewed_tasks.new.out end
    (c.put_head-end.ensures.written
    ∙ ap (λ (h : ImageHead). put_at old 0 (head_bytes (in_version Two h)))
    c.renewed_head.ensures.head)
    (c.put_renewed_scopes-end.ensures.written
    ∙ ap (λ n. put_at first n (flat_map scope_bytes (drop 1 q.tree.scopes))) place)
    (c.put_renewed_scopes-end.ensures.end
    ∙ ap (λ n. n + length (flat_map scope_bytes (drop 1 q.tree.scopes))) place)
    (c.put_renewed_tasks.ensures.written
    ∙ ap (λ o. put_at o behind (flat_map (task_bytes Two) q.work.tasks))
    c.put_renewed_groups-end.ensures.written
    ∙ put_then second end behind (flat_map group_bytes q.work.groups)
    (flat_map (task_bytes Two) q.work.tasks) c.put_renewed_groups-end.ensures.end fits)
    room

pub returns-clause-image : goal.returns-clause-image
returns-clause-image g c =
    renewed_image c.args.layout c.args.state.now c.count-rules.ensures.rules c.requires.fits
    c.renewed_head.ensures.clock c.requires.few c.put_renewed_scopes-end.ensures.kept
    c.put_renewed_groups-end.ensures.kept c.put_renewed_tasks.ensures.kept
