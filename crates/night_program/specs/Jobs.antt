-- What the jobs of the program's crews answer to a turn.
use Rattle.std.specs.Prelude.{◌+◌, ◌-◌, ◌*◌, ◌&&◌, ℕ, Bool, true, false, List, [], ◌∷◌, length}
use Rattle.std.specs.Prelude.{Option, Some, None, codes, nat_le, nat_lt, if◌then◌else◌}
use Rattle.run_crew.specs.declared.jobs.Turn.{Turn}
use Rattle.run_crew.specs.declared.jobs.Turn.TheVariants as turn

-- This byte is a digit, and may come after this number, which has fewer than 4 digits.
abbrev pub goes_on : ℕ → ℕ → Bool
goes_on number byte = nat_le number 999 && (nat_le 48 byte && nat_le byte 57)

-- The number that these digits give when they come after this one.
abbrev pub number_from : ℕ → List ℕ → Option ℕ
number_from number [] = Some number
number_from number (byte ∷ bytes) =
    if goes_on number byte then number_from (number * 10 + (byte - 48)) bytes else None

-- The number that 1 to 4 digits stand for.
abbrev pub number_in : List ℕ → Option ℕ
number_in bytes =
    if nat_le 1 (length bytes) && nat_le (length bytes) 4 then number_from 0 bytes else None

-- A turn below the number asks for more turns, and the task ends on the turn with that number.
abbrev pub counted_turn : Option ℕ → ℕ → Turn
counted_turn (Some most) n = if nat_lt n most then turn.More else turn.Finished
counted_turn None n = turn.Failed (codes "bad argument")

-- A turn of `spin`, which learns whether the scope of its task is done.
abbrev pub spin_turn : List ℕ → ℕ → Bool → Turn
spin_turn argument n true = turn.Failed (codes "canceled")
spin_turn argument n false = counted_turn (number_in argument) n
