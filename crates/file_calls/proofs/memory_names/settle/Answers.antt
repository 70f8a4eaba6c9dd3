use Rattle.std.proofs.lemmas.List.Edits.{map_over_more}
use Rattle.file_calls.specs.Names.{settled_step}
use Rattle.file_calls.proofs.memory_names.settle.Goals as goal

pub loop-i-preserved : goal.loop-i-preserved
loop-i-preserved c =
    rw (c.settle.ensures, ← c.index-steps-i.is)
    (map_over_more (settled_step c.args.to) c.args.steps.now c.loop-i.steps c.loop-i.i
    c.index-steps-i.result c.loop-i-test.true c.loop-i.invariant c.index-steps-i.is)
