use Rattle.std.proofs.Common.{◌∙◌, arith, sym}
use Rattle.std.proofs.lemmas.Bool.{both_ways}
use Rattle.drive_parts.proofs.Naming.{all_fine, more_fine, read}
use Rattle.drive_parts.proofs.names.first_refused.Goals as goal

pub loop-g-preserved : goal.loop-g-preserved
loop-g-preserved c =
    more_fine c.args.names.now c.loop-g.g c.index-names-g.result c.loop-g.invariant
    (read c.args.names.now c.loop-g.g c.index-names-g.result (omega arith) c.index-names-g.is)
    (c.is_group_name.ensures.0 c.if-not-is_group_name.false)
    (λ has. both_ways c.is_among.result c.if-is_among.false (c.is_among.ensures.1 (
      has.0,
      has.1,
      has.2
          ∙ sym (read c.args.names.now c.loop-g.g c.index-names-g.result (omega arith)
          c.index-names-g.is)
          ∙ read c.args.names.now c.loop-g.g c.index-names-g-else-not-is_group_name.result
          (omega arith) c.index-names-g-else-not-is_group_name.is,
    )))

pub returns : goal.returns
returns c = all_fine c.args.names.now c.loop-g.g c.loop-g.invariant (omega arith)
