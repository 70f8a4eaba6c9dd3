-- The effect of an opening on the facts about commands.
use Rattle.std.specs.Prelude.{◌≡◌, ℕ, List, Option}
use Rattle.run_model.specs.Event as event
use Rattle.run_model.specs.State.{State}
use Rattle.run_model.specs.Step.{step}
use Rattle.night_plan.specs.declared.facts.Known.{Known}
use Rattle.night_plan.specs.Sessions.{reopened}
use Rattle.night_drive.specs.Seen.{known_of}

-- A command that was running is interrupted. Nothing else changes about it.
abbrev pub interrupted : Known → Known
interrupted k = record k { phase = reopened k.phase }

-- An opening interrupts the commands that were running. The facts about all others stay the same.
abbrev pub InterruptsWhatRan : Type 0
InterruptsWhatRan =
    (p : State) (ended : ℕ → ℕ) (night : Option (List ℕ)) (group key : List ℕ)
    → known_of (step p event.Restart) ended night group key
    ≡ interrupted (known_of p ended night group key)
