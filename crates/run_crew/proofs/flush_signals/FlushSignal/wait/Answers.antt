use Rattle.std.proofs.Common.{rules}
use Rattle.run_crew.proofs.flush_signals.FlushSignal.wait.Goals as goal

pub returns-then-deref-heard : goal.returns-then-deref-heard
returns-then-deref-heard g c = search rules
