-- The choice by what the rows of a store say.
use Rattle.std.proofs.Common.{◌≡◌, ◌<◌, ◌&&◌, ℕ, not, List, length, subst}
use Rattle.std.proofs.lemmas.List.Elements.{All-weaker}
use Rattle.std.proofs.lemmas.Option.{slice_get_within}
use Rattle.std.specs.List.{All}
use Rattle.night_plan.proofs.Rows.{at_there}
use Rattle.night_plan.specs.Choices.{GoesOn, HasCapacity, IsChosen, IsQuiet}
use Rattle.run_model.specs.State.{State}
use Rattle.night_plan.specs.declared.choices.Choice.{Choice}
use Rattle.night_plan.specs.declared.commands.Plan.{Plan}
use Rattle.night_plan.specs.declared.facts.Facts.{Facts}
use Rattle.night_plan.specs.Nights.{Night, is_busy, is_ok, night, IsReady}
use Rattle.night_drive.specs.declared.ends.Ends.{Ends}
use Rattle.night_drive.specs.declared.names.Names.{Names}
use Rattle.night_drive.specs.PlanTurns.{night_in}
use Rattle.night_drive.specs.Seen.{AreNames, IsSeen}
use Rattle.night_drive.proofs.Playing.{seen_is_shown}

-- What is chosen is a command of the plan.
pub chosen_within : (n : Night) (now : ℕ) (sizes chosen : List ℕ) → IsChosen n now sizes chosen
    → All (λ c. c < length n.commands) chosen
chosen_within n now sizes chosen is =
    All-weaker (IsReady n now) (λ c. c < length n.commands) there chosen is.ready
  where
    there : (c : ℕ) → IsReady n now c → c < length n.commands
    there c ready =
        let at = at_there n c (λ command fact. not (is_busy fact.phase) && not (is_ok fact.phase))
        ready.may.idle in
        slice_get_within n.commands c at.0 at.2

-- The night goes on.
abbrev pub Moves : Night → (clock : ℕ) → (sizes : List ℕ) → Choice → Type 0
Moves n clock sizes choice = HasCapacity n sizes → IsQuiet n → GoesOn n clock choice

-- What is so of a choice by the facts that were seen is so of it by the rows of the store.
pub by_rows : (P : Night → (clock : ℕ) → (sizes : List ℕ) → Choice → Type 0) (p : State)
    (ends : Ends) (plan : Plan) (names : Names) (facts : Facts) (now : ℕ) (own sizes : List ℕ)
    (choice : Choice) → AreNames plan names → IsSeen p ends plan names facts
    → now ≡ p.tree.clock → own ≡ sizes → P (night plan facts) now own choice
    → P (night_in p ends plan names) p.tree.clock sizes choice
by_rows P p ends plan names facts now own sizes choice are seen time sized is =
    subst (λ (x : Night). P x p.tree.clock sizes choice)
    (seen_is_shown p ends plan names facts are seen)
    (subst (λ (x : ℕ). P (night plan facts) x sizes choice) time
    (subst (λ (x : List ℕ). P (night plan facts) now x choice) sized is))
