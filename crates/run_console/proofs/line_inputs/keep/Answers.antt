use Rattle.std.proofs.Common.{◌∙◌}
use Rattle.run_console.proofs.Quiet.{kept_room}
use Rattle.run_console.proofs.line_inputs.keep.Goals as goal

pub returns : goal.returns
returns c =
    c.in-Ok.ensures.ok
    ∙ kept_room c.args.tail.now.items c.args.bytes.now c.remaining_capacity.result
    c.min-most.result c.remaining_capacity.ensures c.min-most.ensures
