use Rattle.std.proofs.Common.{◌≡◌, map, take}
use Rattle.std.specs.String.{string_bytes}
use Rattle.console_lines.specs.Replies.{reply_lines}
use Rattle.console_lines.specs.declared.line_replies.LineReply.TheVariants as printed
use Rattle.console_lines.proofs.job_tallies.Tallies.to_lines.Given as goal

-- The lines so far are those of the first jobs.
abbrev pub invariant-loop-i : goal.invariant-loop-i
invariant-loop-i g l = string_bytes l.lines ≡ reply_lines (map printed.Tally (take l.i l.self))
