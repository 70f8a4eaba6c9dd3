use Rattle.std.proofs.Common.{length}
use Rattle.plan_lines.proofs.Rows.{AreFirst}
use Rattle.plan_lines.proofs.tokens.read_tokens.Given as goal

abbrev pub invariant-loop-word : goal.invariant-loop-word
invariant-loop-word l = AreFirst l.tokens.items l.line (length l.yielded)
