use Rattle.std.proofs.Common.{sym}
use Rattle.console_lines.proofs.Tallying.{lines_more}
use Rattle.console_lines.proofs.job_tallies.Tallies.to_lines.Goals as goal

pub loop-i-init : goal.loop-i-init
loop-i-init g c = c.new-lines.ensures.bytes

pub loop-i-preserved : goal.loop-i-preserved
loop-i-preserved g c =
    rw (
      c.in_ok-push_str.ensures.bytes,
      c.loop-i.invariant,
      c.as_str.ensures.value,
      c.in_ok-line.ensures,
    ) (sym (lines_more c.args.self.now c.loop-i.i _ c.tally.ensures))
