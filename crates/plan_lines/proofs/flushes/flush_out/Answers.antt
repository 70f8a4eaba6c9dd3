use Rattle.plan_lines.proofs.Writing.{at_error, part_is_prefix, whole_is_prefix}
use Rattle.plan_lines.proofs.flushes.flush_out.Goals as goal

pub returns-in_err-write_out-clause-prefix : goal.returns-in_err-write_out-clause-prefix
returns-in_err-write_out-clause-prefix g c =
    at_error c.from_residual.result (part_is_prefix _ _ _ c.in_err-write_out.ensures.cut)

pub returns-in-Err-clause-prefix : goal.returns-in-Err-clause-prefix
returns-in-Err-clause-prefix g c =
    whole_is_prefix _ _ _ _ c.in_ok-write_out.ensures.whole c.flush.ensures.bytes
