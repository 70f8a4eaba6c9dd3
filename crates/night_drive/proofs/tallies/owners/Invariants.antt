use Rattle.std.specs.Prelude.{map}
use Rattle.night_drive.specs.Tallies.{AreOwners}
use Rattle.night_drive.proofs.tallies.owners.Given as goal

-- The first groups of the store have their owners.
abbrev pub invariant-loop-h : goal.invariant-loop-h
invariant-loop-h g l = AreOwners l.h l.state l.names (map (λ row. row.items) l.owners.items)
