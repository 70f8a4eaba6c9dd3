use Rattle.std.proofs.Common.{arith, ◌++◌, take}
use Rattle.std.proofs.lemmas.Grind.{common_steps}
use Rattle.console_lines.proofs.Written.{appends_then}
use Rattle.console_lines.proofs.output_buffers.write_whole.Goals as goal

pub loop-rest-preserved : goal.loop-rest-preserved
loop-rest-preserved g c =
    let inv = c.loop-rest.invariant in (
      inv.0 ++ take c.in-Ok.count c.loop-rest.rest.now,
      grind (arith, common_steps, inv.1),
      appends_then _ _ _ _ _ inv.2 c.in-Ok.ensures.bytes,
    )
