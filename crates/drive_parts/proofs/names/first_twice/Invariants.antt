use Rattle.drive_parts.specs.Names.{groups_of}
use Rattle.drive_parts.proofs.Naming.{AreApart}
use Rattle.drive_parts.proofs.names.first_twice.Given as goal

-- The first commands have keys of their own.
abbrev pub invariant-loop-c : goal.invariant-loop-c
invariant-loop-c l = AreApart (groups_of l.commands) l.keys l.c
