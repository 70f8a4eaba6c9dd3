use Rattle.std.proofs.Common.{◌≤◌, ◌*◌, ◌++◌, List, drop, ℕ}
use Rattle.std.specs.Io.KnownBytes.{Keeps}
use Rattle.arrayvec.specs.ArrayVec.{array_vec_len}
use Rattle.run_console.specs.Weaving.{left_in}
use Rattle.run_console.proofs.weaves.Weave.take.Given as goal

-- The bytes so far were taken, and of each some are ready.
abbrev pub invariant-loop-byte : goal.invariant-loop-byte
invariant-loop-byte g l =
    ((bytes : List ℕ) → Keeps (left_in g.C.MachineTime.moments l.initial.self (l.part ++ bytes))
    (left_in g.C.MachineTime.moments l.self (drop l.byte-index l.part ++ bytes)))
    × (array_vec_len l.self.ready ≤ 22 * l.byte-index)
    × (l.byte-index ≤ array_vec_len l.self.ready)
