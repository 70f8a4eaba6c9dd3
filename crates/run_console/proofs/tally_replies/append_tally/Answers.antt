use Rattle.std.specs.Prelude.{map}
use Rattle.std.proofs.lemmas.Result.{err_from_is_err_and}
use Rattle.console_lines.specs.Replies.{reply_lines}
use Rattle.console_lines.specs.Tallies.{tallies_of}
use Rattle.console_lines.specs.declared.line_replies.LineReply.TheVariants as printed
use Rattle.console_lines.proofs.Buffered.{part_more}
use Rattle.run_console.proofs.tally_replies.append_tally.Goals as goal

pub returns-in_err-write_out-clause-not_appended :
    goal.returns-in_err-write_out-clause-not_appended
returns-in_err-write_out-clause-not_appended g c =
    let p = err_from_is_err_and c.from_residual.result c.from_residual.ensures.1 in
    rw (p.1, p.2, c.in_err-write_out.ensures.fault) (
    part_more c.args.buffer.now.items
    (reply_lines (map printed.Tally (tallies_of c.args.state.now.work.tasks)))
    (g.W.Write.contents c.args.output.now) (g.W.Write.contents c.write_out.new.output)
    c.in_err-write_out.ensures.cut)
