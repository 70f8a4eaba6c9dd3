use Rattle.run_model.proofs.Common.{arith, text_bytes, to_be_bytes, w16}
use Rattle.row_view.specs.declared.heads.ImageVersion.TheVariants.{Two}
use Rattle.row_view.specs.Image.{link_bytes, stage_bytes}
use Rattle.row_view.specs.RowViews.{stage_of}
use Rattle.row_view.proofs.RowJoins.{put_five, length_five}
use Rattle.row_view.proofs.task_rows.put_task.Goals as goal

pub returns-clause-end : goal.returns-clause-end
returns-clause-end c =
    let row = c.args.row.now in
    omega (
      arith,
      length_five (to_be_bytes w16 row.group) (text_bytes row.job.now)
          (text_bytes row.argument.now) (stage_bytes (stage_of row.stage))
          (link_bytes Two row.retry_of),
    )

pub returns-clause-written : goal.returns-clause-written
returns-clause-written c =
    let row = c.args.row.now in
    let group = to_be_bytes w16 row.group in
    let job = text_bytes row.job.now in
    let argument = text_bytes row.argument.now in
    let stage = stage_bytes (stage_of row.stage) in
    let link = link_bytes Two row.retry_of in
    rw (
      c.put_link.ensures.written,
      c.put_stage-end.ensures.written,
      c.put_text-end-2.ensures.written,
      c.put_text-end.ensures.written,
      c.put_u16-end.ensures.written,
    )
    (put_five c.args.out.now c.args.at _ _ _ _ group job argument stage link
    c.put_u16-end.ensures.end c.put_text-end.ensures.end c.put_text-end-2.ensures.end
    c.put_stage-end.ensures.end
    (omega (arith, c.requires.room, length_five group job argument stage link)))
