use Rattle.run_model.proofs.Common.{arith, [], ◌∷◌, length-append, text_bytes}
use Rattle.row_view.proofs.Joins.{put_three}
use Rattle.row_view.proofs.kind_bytes.put_value.Goals as goal

pub returns-clause-written : goal.returns-clause-written
returns-clause-written c =
    rw (c.put_text.ensures.written, c.put_text-end.ensures.written, c.put_byte-end.ensures.written)
    (put_three c.args.out.now c.args.at _ _
    (4 ∷ []) (text_bytes c.args.key.now) (text_bytes c.args.text.now)
    c.put_byte-end.ensures.end c.put_text-end.ensures.end
    (omega (arith, c.requires.room, length-append c.args.key.now (text_bytes c.args.text.now))))
