use Rattle.drive_parts.proofs.Naming.{AreFine}
use Rattle.drive_parts.proofs.names.first_refused.Given as goal

-- The first names aren't refused.
abbrev pub invariant-loop-g : goal.invariant-loop-g
invariant-loop-g l = AreFine l.names l.g
