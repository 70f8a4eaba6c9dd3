-- The lines of an input, with the machine's time before them.
use Rattle.std.specs.Prelude.{ℕ, nat_lt, max, if◌then◌else◌, List, [], ◌∷◌, ◌++◌, codes, Option}
use Rattle.std.specs.Fmt.{decimal}
use Rattle.std.specs.Option.{option_map, option_and_then}
use Rattle.run_model.specs.declared.commands.Command.TheVariants as command
use Rattle.run_model.specs.declared.commands.Step.TheVariants as step
use Rattle.console_lines.specs.declared.line_requests.LineRequest.{LineRequest}
use Rattle.console_lines.specs.declared.line_requests.LineRequest.TheVariants as asked
use Rattle.console_lines.specs.LineRequests.{request_of}
use Rattle.console_lines.specs.Lines.{lines_of}

-- The line that moves the clock to this moment.
abbrev pub advance_line : ℕ → List ℕ
advance_line moment = codes "advance " ++ decimal moment

-- An advance is put before a line if this moment is later than the latest so far.
abbrev pub advance_to : ℕ → ℕ → List (List ℕ)
advance_to latest moment = if nat_lt latest moment then advance_line moment ∷ [] else []

-- The latest moment after a request: that of an advance, if it is later.
abbrev pub latest_asked : ℕ → LineRequest → ℕ
latest_asked latest (asked.Step (step.Command (command.Advance moment))) = max latest moment
latest_asked latest _ = latest

-- The latest moment after a line.
abbrev pub latest_after : ℕ → List ℕ → ℕ
latest_after latest line = latest_asked latest (request_of line)

-- Each of these lines comes at the next of these moments. An advance to the moment is put before
-- the line if the moment is later than the latest so far. If no moment is left, the line comes as
-- it is.
abbrev pub timed_lines : ℕ → (moments : List ℕ) → List (List ℕ) → List (List ℕ)
timed_lines latest [] lines = lines
timed_lines latest (moment ∷ moments) [] = []
timed_lines latest (moment ∷ moments) (line ∷ lines) =
    advance_to latest moment
    ++ line ∷ timed_lines (latest_after (max latest moment) line) moments lines

-- Each of these lines after an LF.
abbrev pub further : List (List ℕ) → List ℕ
further [] = []
further (line ∷ lines) = 10 ∷ line ++ further lines

-- The input that consists of these lines, with an LF between two of them.
abbrev pub input_of : List (List ℕ) → List ℕ
input_of [] = []
input_of (line ∷ lines) = line ++ further lines

-- An input with the advances before its lines.
abbrev pub timed : ℕ → (moments bytes : List ℕ) → List ℕ
timed latest moments bytes = input_of (timed_lines latest moments (lines_of bytes))

-- The same, if the moments and the input are known.
abbrev pub timed_known : ℕ → (moments bytes : Option (List ℕ)) → Option (List ℕ)
timed_known latest moments bytes =
    option_and_then (λ known. option_map (λ reported. timed latest reported known) moments) bytes
