use Rattle.std.proofs.Common.{◌∙◌}
use Rattle.run_disk.proofs.RunLemmas.{reads_then}
use Rattle.store_words.proofs.looks.steady_bytes.Goals as goal

pub loop-preserved : goal.loop-preserved
loop-preserved g c = record {
  last = record { before = c.loop.disk; reads = c.in_ok-bytes.ensures.gives };
  honest = λ honest. c.read_whole-in-loop.ensures.honest (c.loop.invariant.honest honest);
  only = λ honest. reads_then _ _ _ (c.loop.invariant.only honest)
      (c.read_whole-in-loop.ensures.only (c.loop.invariant.honest honest));
}

pub returns-then-eq-clause-bytes : goal.returns-then-eq-clause-bytes
returns-then-eq-clause-bytes g c =
    λ honest. c.in_ok-bytes.ensures.bytes (c.loop.invariant.honest honest)
    ∙ (c.loop.invariant.only honest).now

pub returns-then-eq-clause-only : goal.returns-then-eq-clause-only
returns-then-eq-clause-only g c =
    λ honest. reads_then _ _ _ (c.loop.invariant.only honest)
    (c.read_whole-in-loop.ensures.only (c.loop.invariant.honest honest))

pub returns-in_err-bytes-clause-only : goal.returns-in_err-bytes-clause-only
returns-in_err-bytes-clause-only g c =
    λ honest. reads_then _ _ _ (c.loop.invariant.only honest)
    (c.read_whole-in-loop.ensures.only (c.loop.invariant.honest honest))
