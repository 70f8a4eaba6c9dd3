use Rattle.run_model.proofs.Common.{arith, [], ◌∷◌, text_bytes, to_be_bytes, w64}
use Rattle.row_view.specs.Image.{reason_bytes}
use Rattle.row_view.proofs.RowJoins.{put_five, length_four}
use Rattle.row_view.proofs.scope_rows.put_hit_fields.Goals as goal

pub returns-clause-written : goal.returns-clause-written
returns-clause-written c =
    let hit = c.args.hit.now in
    let event = to_be_bytes w64 hit.event in
    let moment = to_be_bytes w64 hit.moment in
    let reason = reason_bytes hit.reason in
    let cause = text_bytes hit.cause.now in
    rw (
      c.put_text.ensures.written,
      c.put_reason-end.ensures.written,
      c.put_u64-end-2.ensures.written,
      c.put_u64-end.ensures.written,
      c.put_byte-end.ensures.written,
    )
    (put_five c.args.out.now c.args.at _ _ _ _ (1 ∷ []) event moment reason cause
    c.put_byte-end.ensures.end c.put_u64-end.ensures.end c.put_u64-end-2.ensures.end
    c.put_reason-end.ensures.end
    (omega (arith, c.requires.room, length_four event moment reason cause)))
