-- The hint for a user who types the lines.
use Rattle.std.specs.Prelude.{◌≡◌, ℕ, Bool, true, false, List, codes}
use Rattle.store_files.specs.ErrorSinks.{SinkState, IsPrinted}

-- What is printed of how lines are typed.
abbrev pub hint_line : List ℕ
hint_line =
    codes "one line, one reply; flush keeps; Ctrl-D keeps and ends; lines: night script --help\n"

-- If it was due, it was printed, or a call failed; else nothing was printed.
abbrev pub Hints : (is_due : Bool) → (e0 e1 : SinkState) → Type 0
Hints true e0 e1 = (reported : Bool) × IsPrinted reported hint_line e0 e1
Hints false e0 e1 = e1 ≡ e0
