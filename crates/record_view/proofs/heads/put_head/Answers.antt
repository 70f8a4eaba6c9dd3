use Rattle.run_model.proofs.Common.{arith, [], ◌∷◌, to_be_bytes, w16, w64}
use Rattle.row_view.proofs.RowJoins.{put_six}
use Rattle.record_view.proofs.heads.put_head.Goals as goal

pub returns-clause-written : goal.returns-clause-written
returns-clause-written c =
    let head = c.args.head.now in
    rw (
      c.put_u16.ensures.written,
      c.put_u16-end-2.ensures.written,
      c.put_u16-end.ensures.written,
      c.put_u64-end-2.ensures.written,
      c.put_u64-end.ensures.written,
      c.put_byte-end.ensures.written,
    )
    (put_six c.args.out.now c.args.at _ _ _ _ _ (2 ∷ []) (to_be_bytes w64 head.clock)
    (to_be_bytes w64 head.count) (to_be_bytes w16 head.scopes) (to_be_bytes w16 head.groups)
    (to_be_bytes w16 head.tasks)
    c.put_byte-end.ensures.end c.put_u64-end.ensures.end c.put_u64-end-2.ensures.end
    c.put_u16-end.ensures.end c.put_u16-end-2.ensures.end
    (omega (arith, c.requires.room)))
