use Rattle.night_drive.specs.Index.{IsIndex}
use Rattle.night_drive.proofs.index.Index.of.Given as goal

-- The first commands are in the index.
abbrev pub invariant-loop-c : goal.invariant-loop-c
invariant-loop-c l =
    IsIndex l.c l.plan.commands.items l.names (record { commands = l.commands })
