-- Where no task was started, nothing is reported.
use Rattle.std.proofs.Common.{◌≡◌, ◌<◌, ◌∙◌, ◌++◌, ◌∷◌, ℕ, ◌+◌, List, Option, None, length, drop}
use Rattle.std.proofs.Common.{get_or, ap, add-one, drop-cons}
use Rattle.std.specs.Option.{option_and_then, option_map}
use Rattle.run_model.specs.declared.answers.Reply.{Reply}
use Rattle.drive_steps.specs.declared.reported.Begun.{Begun}
use Rattle.drive_steps.specs.Reported.{begins_reported, first_started}

-- The element at this place, and those after it.
from_here : (xs : List ℕ) (i : ℕ) → i < length xs → drop i xs ≡ get_or xs i 0 ∷ drop (i + 1) xs
from_here xs i less = rw (add-one, drop-cons xs i 0)

pub nothing_reported : (chosen : List ℕ) (replies rest : List Reply) (all : List Begun) (i : ℕ)
    → i < length chosen → first_started rest ≡ None
    → begins_reported chosen replies
    ≡ option_map (λ more. all ++ more) (begins_reported (drop i chosen) rest)
    → begins_reported chosen replies ≡ None
nothing_reported chosen replies rest all i less none before =
    let later : Option (List Begun) = begins_reported (drop (i + 1) chosen) (drop 2 rest) in
    before
    ∙ ap (λ (xs : List ℕ). option_map (λ more. all ++ more) (begins_reported xs rest))
    (from_here chosen i less)
    ∙ ap (λ o. option_map (λ more. all ++ more) (option_and_then (λ n.
    option_map (λ more. record { command = get_or chosen i 0; task = n } ∷ more) later) o)) none
