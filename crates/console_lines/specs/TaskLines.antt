-- The requests about tasks and the store: the forms of their lines, after the first word.
use Rattle.std.specs.Prelude.{ℕ, if◌then◌else◌, List, [], ◌∷◌, codes, Option, Some, None}
use Rattle.std.specs.Option.{option_map, option_and_then}
use Rattle.std.specs.Str.{bytes_eq}
use Rattle.run_model.specs.declared.commands.Command.TheVariants as command
use Rattle.run_model.specs.declared.commands.Step.TheVariants as step
use Rattle.run_model.specs.declared.refusals.Refusal.TheVariants as refusal
use Rattle.run_model.specs.declared.tasks.Outcome.{Outcome}
use Rattle.run_model.specs.declared.tasks.Outcome.TheVariants as outcome
use Rattle.run_model.specs.Records.{is_row_number}
use Rattle.console_lines.specs.Numbers.{number_of}
use Rattle.console_lines.specs.declared.line_requests.LineRequest.{LineRequest}
use Rattle.console_lines.specs.declared.line_requests.LineRequest.TheVariants as asked
use Rattle.console_lines.specs.Checked.{asks, checked}
use Rattle.console_lines.specs.Words.{rest_of, only_word}

-- The request about the task with this number. No task has a number of more than two bytes.
abbrev pub asks_task : (ℕ → LineRequest) → ℕ → LineRequest
asks_task asks number =
    if is_row_number number then asks number else asked.Refused refusal.NoSuchTask

-- The request to retry a task.
abbrev pub asks_retry : ℕ → LineRequest
asks_retry number = asks_task (λ n. asks (command.Retry n)) number

-- The request for the phase of a task.
abbrev pub asks_phase : ℕ → LineRequest
asks_phase number = asks_task asked.Task number

-- The texts of an outcome.
abbrev pub texts_in_outcome : Outcome → List (List ℕ)
texts_in_outcome outcome.Success = []
texts_in_outcome (outcome.Failure error) = error ∷ []

-- The request to finish a task. The error may be any bytes, and is checked before the number.
abbrev pub asks_finish : ℕ → Outcome → LineRequest
asks_finish number outcome =
    checked [] (texts_in_outcome outcome)
    (asks_task (λ n. asked.Step (step.Finish n outcome)) number)

-- The request of a line in which no other word may follow.
abbrev pub asks_alone : LineRequest → List (List ℕ) → Option LineRequest
asks_alone asks [] = Some asks
asks_alone asks _ = None

-- The request of a line with one number.
abbrev pub asks_number : (ℕ → LineRequest) → List (List ℕ) → Option LineRequest
asks_number asks words = option_map asks (option_and_then number_of (only_word words))

-- The outcome of the task with this number: `ok`, after which no word may follow, or `error TEXT`,
-- whose text may be any bytes.
abbrev pub outcome_line : ℕ → List (List ℕ) → Option LineRequest
outcome_line number (first ∷ words) =
    if bytes_eq first (codes "ok") then asks_alone (asks_finish number outcome.Success) words
    else if bytes_eq first (codes "error") then
    option_map (λ error. asks_finish number (outcome.Failure error)) (rest_of words)
    else None
outcome_line number [] = None

-- finish NUMBER ok, finish NUMBER error TEXT
abbrev pub finish_line : List (List ℕ) → Option LineRequest
finish_line (number ∷ words) = option_and_then (λ n. outcome_line n words) (number_of number)
finish_line _ = None

-- The request of a line about tasks or the store, by its first word. No other word begins a line.
abbrev pub task_line_of : List ℕ → List (List ℕ) → Option LineRequest
task_line_of first words =
    if bytes_eq first (codes "start") then asks_alone (asked.Step step.Start) words
    else if bytes_eq first (codes "finish") then finish_line words
    else if bytes_eq first (codes "retry") then asks_number asks_retry words
    else if bytes_eq first (codes "task") then asks_number asks_phase words
    else if bytes_eq first (codes "tally") then asks_alone asked.Tally words
    else if bytes_eq first (codes "flush") then asks_alone (asked.Step step.Flush) words
    else if bytes_eq first (codes "checkpoint") then asks_alone (asked.Step step.Checkpoint) words
    else None
