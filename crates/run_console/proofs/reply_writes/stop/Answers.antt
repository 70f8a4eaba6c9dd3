use Rattle.std.specs.Prelude.{◌++◌}
use Rattle.std.proofs.Common.{refl, ap, ◌∙◌}
use Rattle.console_lines.specs.declared.line_replies.LineReply.TheVariants as printed
use Rattle.console_lines.specs.Replies.{reply_line}
use Rattle.run_console.proofs.Ends.{trouble_reported}
use Rattle.run_console.proofs.reply_writes.stop.Goals as goal

pub returns-in-Err : goal.returns-in-Err
returns-in-Err g c = rw c.in-Err.ensures.fault c.in-Err.ensures.cut

pub returns : goal.returns
returns g c = (
  refl,
  trouble_reported c.write_out-written.result c.args.trouble c.args.buffer.now.items
      c.append.new.out.items (g.W.Write.contents c.args.output.now)
      (g.W.Write.contents c.write_out.new.output)
      (g.W.Write.contents c.write_out-written.new.output)
      c.in_default.ensures.whole
      (c.append.ensures.items
      ∙ ap (λ t. t ++ reply_line (printed.Failed c.args.trouble)) c.in_default.ensures.none)
      c.write_out-written.ensures.whole c.write_out-written.ensures.cut,
)
