use Rattle.std.proofs.Common.{◌<◌, ℕ}
use Rattle.drive_parts.specs.Names.{HasKey, groups_of}
use Rattle.drive_parts.proofs.names.has_key.Given as goal

-- None of the first commands of the group has this key.
abbrev pub invariant-loop-c : goal.invariant-loop-c
invariant-loop-c l =
    (k : ℕ) → k < l.c → HasKey (groups_of l.commands) l.keys l.group l.key k → ⊥
