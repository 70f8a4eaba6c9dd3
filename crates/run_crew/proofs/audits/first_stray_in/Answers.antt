use Rattle.std.proofs.Common.{arith, below_more}
use Rattle.run_crew.proofs.Strays.{no_stray-of, stray-inside, stray-of}
use Rattle.run_crew.proofs.audits.first_stray_in.Goals as goal

pub returns-then-is_stray : goal.returns-then-is_stray
returns-then-is_stray c = (
  stray-of _ _ _ _ _ _ (omega arith) c.index-notes-place.is c.is_stray.ensures
      c.if-is_stray.true,
  c.loop-place.invariant,
)

pub loop-place-preserved : goal.loop-place-preserved
loop-place-preserved c =
    below_more _ _ c.loop-place.invariant
    (no_stray-of _ _ _ _ _ _ c.index-notes-place.is c.is_stray.ensures c.if-is_stray.false)

pub returns : goal.returns
returns c = λ i s.
    c.loop-place.invariant i (omega (arith, stray-inside _ _ _ i s, c.loop-place-test.false)) s
