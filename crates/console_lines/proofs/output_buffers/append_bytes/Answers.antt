use Rattle.std.proofs.lemmas.Result.{err_from_is_err_and, on_ok_weaker}
use Rattle.console_lines.proofs.Buffered.{part_more, buffered_whole}
use Rattle.console_lines.proofs.output_buffers.append_bytes.Goals as goal

pub returns-in_err-write_out-clause-cut : goal.returns-in_err-write_out-clause-cut
returns-in_err-write_out-clause-cut g c =
    let p = err_from_is_err_and c.from_residual.result c.from_residual.ensures.1 in
    rw p.1 (
    part_more c.args.buffer.now.items c.args.bytes.now
    (g.W.Write.contents c.args.output.now) (g.W.Write.contents c.write_out.new.output)
    c.in_err-write_out.ensures.cut)

pub returns-then-remaining_capacity-bytes-clause-buffered :
    goal.returns-then-remaining_capacity-bytes-clause-buffered
returns-then-remaining_capacity-bytes-clause-buffered g c =
    on_ok_weaker c.write_whole.result
    (λ h. buffered_whole c.args.bytes.now c.args.buffer.now.items
    c.write_out.new.buffer.items
    (g.W.Write.contents c.args.output.now) (g.W.Write.contents c.write_out.new.output)
    (g.W.Write.contents c.write_whole.new.output)
    c.in_ok-write_out.ensures.whole h c.in_ok-write_out.ensures.none)
    c.write_whole.ensures.whole
