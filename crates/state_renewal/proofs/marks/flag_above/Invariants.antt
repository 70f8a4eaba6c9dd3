use Rattle.state_renewal.proofs.Raising.{AreRaised}
use Rattle.state_renewal.proofs.marks.flag_above.Given as goal

abbrev pub invariant-loop-back : goal.invariant-loop-back
invariant-loop-back l = AreRaised l.scopes l.fn.flags l.back l.flags
