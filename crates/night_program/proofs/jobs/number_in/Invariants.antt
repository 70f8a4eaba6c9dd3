use Rattle.std.proofs.Common.{◌≡◌, ◌≤◌, length}
use Rattle.night_program.specs.Jobs.{number_from}
use Rattle.night_program.proofs.jobs.number_in.Given as goal

-- what is left goes on after what was read
abbrev pub invariant-loop-byte : goal.invariant-loop-byte
invariant-loop-byte l = (number_from 0 l.fn.bytes ≡ number_from l.number l.rest) × (l.number ≤ 9999)

abbrev pub decreases-loop-byte : goal.decreases-loop-byte
decreases-loop-byte l = length l.rest
