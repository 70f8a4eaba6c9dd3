-- The requests about groups: the forms of their lines, after the first word.
use Rattle.std.specs.Prelude.{ℕ, nat_le, if◌then◌else◌, List, [], ◌∷◌, codes, Option, Some, None}
use Rattle.std.specs.Option.{option_map, option_and_then}
use Rattle.std.specs.Str.{bytes_eq}
use Rattle.run_model.specs.declared.bounds.TheConstants.{GREATEST_LIMIT}
use Rattle.run_model.specs.declared.commands.Command.TheVariants as command
use Rattle.console_lines.specs.Numbers.{number_of}
use Rattle.console_lines.specs.declared.line_requests.LineRequest.{LineRequest}
use Rattle.console_lines.specs.declared.line_requests.LineRequest.TheVariants as asked
use Rattle.console_lines.specs.Checked.{asks, checked, of_one, of_two, of_three}
use Rattle.console_lines.specs.TaskLines.{task_line_of}
use Rattle.console_lines.specs.Words.{only_word}

-- A limit of this many tasks, up to the greatest limit.
abbrev pub limit_at : ℕ → Option (Option ℕ)
limit_at most = if nat_le most GREATEST_LIMIT then Some (Some most) else None

-- The limit that a word stands for: a number up to the greatest limit, or `none`.
abbrev pub limit_of : List ℕ → Option (Option ℕ)
limit_of word =
    if bytes_eq word (codes "none") then Some None
    else option_and_then limit_at (number_of word)

-- limit GROUP NUMBER, limit GROUP none
abbrev pub limit_line : List (List ℕ) → Option LineRequest
limit_line (group ∷ words) =
    option_map (λ limit. checked (group ∷ []) [] (asks (command.SetLimit group limit)))
    (option_and_then limit_of (only_word words))
limit_line _ = None

-- The request of a line, by its first word. If the word isn't one about groups, the line is read as
-- one about tasks.
abbrev pub group_line_of : List ℕ → List (List ℕ) → Option LineRequest
group_line_of first words =
    if bytes_eq first (codes "group") then
    of_two (λ name parent. asks (command.Group name parent)) words
    else if bytes_eq first (codes "bare") then
    of_two (λ name scope. asks (command.Bare name scope)) words
    else if bytes_eq first (codes "limit") then limit_line words
    else if bytes_eq first (codes "go") then
    of_three (λ group job argument. asks (command.Go group job argument)) words
    else if bytes_eq first (codes "try") then
    of_three (λ group job argument. asks (command.TryGo group job argument)) words
    else if bytes_eq first (codes "wait") then of_one (λ group. asks (command.Wait group)) words
    else if bytes_eq first (codes "result") then of_one asked.Result words
    else task_line_of first words
