use Rattle.std.proofs.Common.{arith}
use Rattle.drive_nights.specs.Nights.{night_at}
use Rattle.drive_nights.proofs.Searching.{greatest_more}
use Rattle.drive_nights.proofs.nights.last_night.Goals as goal

pub loop-s-preserved : goal.loop-s-preserved
loop-s-preserved g c = record {
  value = greatest_more (night_at c.args.state.now) c.loop-s.s c.loop-s.last c.night_at.result
      c.greater-last.result c.loop-s.invariant.value c.night_at.ensures.value
      c.greater-last.ensures;
  least = omega (arith, c.greater-last.ensures, c.loop-s.invariant.least);
  most = omega (arith, c.greater-last.ensures, c.loop-s.invariant.most, c.night_at.ensures.most);
}
