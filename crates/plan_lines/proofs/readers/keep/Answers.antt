use Rattle.std.proofs.Common.{◌∙◌}
use Rattle.plan_lines.proofs.Reading.{as_fits}
use Rattle.plan_lines.proofs.readers.keep.Goals as goal

pub returns : goal.returns
returns c =
    c.in-Ok.ensures.ok
    ∙ as_fits c.args.line.now.items c.args.bytes.now c.remaining_capacity.result
    c.min-most.result c.remaining_capacity.ensures c.min-most.ensures
