-- The request in a line.
use Rattle.std.specs.Prelude.{ℕ, nat_lt, not, if◌then◌else◌, List, [], ◌∷◌, length, codes}
use Rattle.std.specs.Prelude.{Option, Some, None, Result, Ok, Err, unwrap_or}
use Rattle.std.specs.List.{list_all}
use Rattle.std.specs.Option.{option_map, option_and_then}
use Rattle.std.specs.Option.{option_to_list}
use Rattle.std.specs.Str.{bytes_eq}
use Rattle.run_model.specs.declared.commands.Wish.{Wish}
use Rattle.run_model.specs.declared.commands.Wish.TheVariants as wish
use Rattle.run_model.specs.declared.commands.Command.TheVariants as command
use Rattle.run_model.specs.declared.refusals.Refusal.{Refusal}
use Rattle.run_model.specs.declared.refusals.Refusal.TheVariants as refusal
use Rattle.run_model.specs.Texts.{is_name, is_text}
use Rattle.console_lines.specs.Numbers.{number_of}
use Rattle.console_lines.specs.Moments.{moment_of}
use Rattle.console_lines.specs.declared.lines.TheConstants.{LONGEST_LINE}
use Rattle.console_lines.specs.declared.line_requests.LineRequest.{LineRequest}
use Rattle.console_lines.specs.declared.line_requests.LineRequest.TheVariants as asked
use Rattle.console_lines.specs.Checked.{asks, checked, names_in_wish, of_one, of_two}
use Rattle.console_lines.specs.Checked.{texts_in_wish}
use Rattle.console_lines.specs.GroupLines.{group_line_of}
use Rattle.console_lines.specs.Words.{words_of, rest_of, only_word}

-- ---- requests about scopes

-- The request to advance the clock to a moment, which was read or is out of range.
abbrev pub asks_advance : Result ℕ Refusal → LineRequest
asks_advance (Ok moment) = asks (command.Advance moment)
asks_advance (Err why) = asked.Refused why

-- The request to cancel a scope, with this cause.
abbrev pub asks_cancel : List ℕ → Option (List ℕ) → LineRequest
asks_cancel scope cause =
    checked (scope ∷ []) (option_to_list cause) (asks (command.Cancel scope cause))

-- A wish in a line. Either it can be given, or its moment is out of range. Then it is refused, but
-- only after this cause was checked.
pub data Wished : Type 0 where
  wished : Wish → Wished
  refused_after : Option (List ℕ) → Refusal → Wished

-- The request to derive a scope with such a wish.
abbrev pub asks_derive : List ℕ → List ℕ → Wished → LineRequest
asks_derive name parent (wished wish) =
    checked (name ∷ parent ∷ names_in_wish wish) (texts_in_wish wish)
    (asks (command.Derive name parent wish))
asks_derive name parent (refused_after cause why) =
    checked (name ∷ parent ∷ []) (option_to_list cause) (asked.Refused why)

-- ---- the forms of their lines, after the first word

-- A wish after which no word may follow.
abbrev pub alone : Wish → List (List ℕ) → Option Wished
alone wish [] = Some (wished wish)
alone wish _ = None

-- A deadline with this cause, at a moment that was read or is out of range.
abbrev pub deadline_at : Option (List ℕ) → Result ℕ Refusal → Wished
deadline_at cause (Ok moment) = wished (wish.Deadline moment cause)
deadline_at cause (Err why) = refused_after cause why

-- deadline MOMENT [CAUSE]
abbrev pub deadline_wish : List (List ℕ) → Option Wished
deadline_wish (moment ∷ cause) = option_map (deadline_at (rest_of cause)) (moment_of moment)
deadline_wish _ = None

-- timeout NUMBER [CAUSE]
abbrev pub timeout_wish : List (List ℕ) → Option Wished
timeout_wish (number ∷ cause) =
    option_map (λ seconds. wished (wish.Timeout seconds (rest_of cause))) (number_of number)
timeout_wish _ = None

-- value KEY TEXT
abbrev pub value_wish : List (List ℕ) → Option Wished
value_wish (key ∷ words) = option_map (λ text. wished (wish.Value key text)) (rest_of words)
value_wish _ = None

-- The kind that a word names, with the words after it.
abbrev pub wish_of : List ℕ → List (List ℕ) → Option Wished
wish_of kind words =
    if bytes_eq kind (codes "cancel") then alone wish.Cancel words
    else if bytes_eq kind (codes "cause") then alone wish.Cause words
    else if bytes_eq kind (codes "detached") then alone wish.Detached words
    else if bytes_eq kind (codes "deadline") then deadline_wish words
    else if bytes_eq kind (codes "timeout") then timeout_wish words
    else if bytes_eq kind (codes "value") then value_wish words
    else None

-- derive NAME PARENT KIND
abbrev pub derive_line : List (List ℕ) → Option LineRequest
derive_line (name ∷ parent ∷ kind ∷ words) =
    option_map (asks_derive name parent) (wish_of kind words)
derive_line _ = None

-- cancel SCOPE [CAUSE]
abbrev pub cancel_line : List (List ℕ) → Option LineRequest
cancel_line (scope ∷ cause) = Some (asks_cancel scope (rest_of cause))
cancel_line _ = None

-- advance MOMENT
abbrev pub advance_line : List (List ℕ) → Option LineRequest
advance_line words = option_map asks_advance (option_and_then moment_of (only_word words))

-- The request in these words, by the first of them: about scopes, groups, tasks or the store.
abbrev pub asked_by : List (List ℕ) → Option LineRequest
asked_by (first ∷ words) =
    if bytes_eq first (codes "derive") then derive_line words
    else if bytes_eq first (codes "cancel") then cancel_line words
    else if bytes_eq first (codes "advance") then advance_line words
    else if bytes_eq first (codes "scope") then of_one asked.Scope words
    else if bytes_eq first (codes "value") then of_two asked.Value words
    else group_line_of first words
asked_by [] = None

-- The request in a line. An empty line has no request. A line that is too long or of another form
-- is a bad line.
abbrev pub request_of : List ℕ → LineRequest
request_of line =
    if nat_lt LONGEST_LINE (length line) then asked.BadLine
    else if nat_lt 0 (length line) then unwrap_or (asked_by (words_of line)) asked.BadLine
    else asked.Nothing

-- ---- a wish, checked before the names: no public contract cites what follows

-- The refusal of the first test that fails, or else the result after the tests.
abbrev pub judged_by : List (List ℕ) → List (List ℕ) → Result Wish Refusal → Result Wish Refusal
judged_by names texts wish =
    if not (list_all is_name names) then Err refusal.BadName
    else if not (list_all is_text texts) then Err refusal.BadText
    else wish

-- The wish, or the refusal of it, whatever the names of the derive are.
abbrev pub judged : Wished → Result Wish Refusal
judged (wished wish) = judged_by (names_in_wish wish) (texts_in_wish wish) (Ok wish)
judged (refused_after cause why) = judged_by [] (option_to_list cause) (Err why)

-- The request to derive a scope with a wish that was checked, if the names of the derive are names.
abbrev pub derived : List ℕ → List ℕ → Result Wish Refusal → LineRequest
derived name parent (Ok wish) = asks (command.Derive name parent wish)
derived name parent (Err why) = asked.Refused why

-- The request to derive a scope with a wish that was checked. Its names are checked first.
abbrev pub asks_judged : List ℕ → List ℕ → Result Wish Refusal → LineRequest
asks_judged name parent wish = checked (name ∷ parent ∷ []) [] (derived name parent wish)
