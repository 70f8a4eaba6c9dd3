use Rattle.std.specs.Prelude.{◌≡◌, ◌++◌}
use Rattle.std.specs.Str.{IsAscii}
use Rattle.std.proofs.Common.{arith, ap, sym, subst, ◌∙◌}
use Rattle.std.proofs.lemmas.Str.{IsUtf8-from_ascii}
use Rattle.console_lines.specs.declared.line_replies.LineReply.TheVariants as printed
use Rattle.console_lines.specs.Replies.{reply_line}
use Rattle.console_lines.proofs.Ascii.{AreCounts, tally_is_ascii}
use Rattle.console_lines.proofs.Appending.{appended_then}
use Rattle.console_lines.proofs.tallies.JobTally.to_line.Goals as goal

pub unreachable-requires : goal.unreachable-requires
unreachable-requires g c =
    let tally = c.args.self.now in
    let are : AreCounts tally.counts = record {
      total = omega arith;
      success = omega arith;
      failure = omega arith;
      interrupted = omega arith;
    } in
    let line = appended_then _ _ _ _ _ _ _ c.push_tally.ensures c.push.ensures in
    let bytes : c.as_slice.result.now ≡ reply_line (printed.Tally tally) =
    c.as_slice.ensures.value ∙ line.items
    ∙ ap (λ t. t ++ reply_line (printed.Tally tally)) c.new-line.ensures in
    absurd (c.in-Err.ensures.cases.0 (IsUtf8-from_ascii _
    (subst IsAscii (sym bytes) (tally_is_ascii tally c.as_bytes-name.ensures.name are))))
