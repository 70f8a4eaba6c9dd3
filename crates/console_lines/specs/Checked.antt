-- Lines that are refused whatever the session is.
use Rattle.std.specs.Prelude.{ℕ, not, if◌then◌else◌, List, [], ◌∷◌, Option, None}
use Rattle.std.specs.List.{list_all}
use Rattle.std.specs.Option.{option_map, option_to_list}
use Rattle.run_model.specs.declared.commands.Wish.{Wish}
use Rattle.run_model.specs.declared.commands.Wish.TheVariants as wish
use Rattle.run_model.specs.declared.commands.Command.{Command}
use Rattle.run_model.specs.declared.commands.Step.TheVariants as step
use Rattle.run_model.specs.declared.refusals.Refusal.TheVariants as refusal
use Rattle.run_model.specs.Texts.{is_name, is_text}
use Rattle.console_lines.specs.declared.line_requests.LineRequest.{LineRequest}
use Rattle.console_lines.specs.declared.line_requests.LineRequest.TheVariants as asked
use Rattle.console_lines.specs.Words.{only_word}

-- The words of a wish that have to be names.
abbrev pub names_in_wish : Wish → List (List ℕ)
names_in_wish (wish.Value key text) = key ∷ []
names_in_wish _ = []

-- The words of a wish that have to be texts.
abbrev pub texts_in_wish : Wish → List (List ℕ)
texts_in_wish (wish.Deadline moment cause) = option_to_list cause
texts_in_wish (wish.Timeout seconds cause) = option_to_list cause
texts_in_wish (wish.Value key text) = text ∷ []
texts_in_wish _ = []

-- A word in the place of a name that isn't a name is refused first, and then a text that isn't a
-- text. All other refusals that don't depend on the state come after these.
abbrev pub checked : List (List ℕ) → List (List ℕ) → LineRequest → LineRequest
checked names texts asks =
    if not (list_all is_name names) then asked.Refused refusal.BadName
    else if not (list_all is_text texts) then asked.Refused refusal.BadText
    else asks

-- A request for a command.
abbrev pub asks : Command → LineRequest
asks call = asked.Step (step.Command call)

-- The request in a line with one name, which may be any bytes. A line of another form is a bad
-- line.
abbrev pub of_one : (List ℕ → LineRequest) → List (List ℕ) → Option LineRequest
of_one asks words = option_map (λ name. checked (name ∷ []) [] (asks name)) (only_word words)

-- The request in a line with two names.
abbrev pub of_two : (List ℕ → List ℕ → LineRequest) → List (List ℕ) → Option LineRequest
of_two asks (name ∷ words) =
    option_map (λ more. checked (name ∷ more ∷ []) [] (asks name more)) (only_word words)
of_two asks _ = None

-- The request in a line with three names.
abbrev pub of_three : (List ℕ → List ℕ → List ℕ → LineRequest) → List (List ℕ) → Option LineRequest
of_three asks (name ∷ more ∷ words) =
    option_map (λ last. checked (name ∷ more ∷ last ∷ []) [] (asks name more last))
    (only_word words)
of_three asks _ = None
