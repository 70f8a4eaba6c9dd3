-- What begins when the deadline of a group has come.
use Rattle.std.specs.Prelude.{◌≡◌, ℕ, true, List, Contains}
use Rattle.run_model.specs.Rules.{IsConsistent}
use Rattle.run_model.specs.State.{State}
use Rattle.night_plan.specs.Choices.{IsChosen}
use Rattle.night_plan.specs.declared.commands.Command.{Command}
use Rattle.night_plan.specs.declared.commands.Plan.{Plan}
use Rattle.night_plan.specs.Nights.{is_cleanup}
use Rattle.night_drive.specs.declared.ends.Ends.{Ends}
use Rattle.night_drive.specs.declared.names.Names.{Names}
use Rattle.night_drive.specs.PlanTurns.{night_in}
use Rattle.night_drive.specs.Seen.{IsCalled}
use Rattle.night_drive.specs.Turns.{has_come, of_last}

-- A command that is chosen by the clock of the store is a cleanup, if the deadline of its group has
-- come by that clock.
abbrev pub NoneBeginsTooLate : Type 0
NoneBeginsTooLate =
    (p : State) (ends : Ends) (plan : Plan) (names : Names) (sizes chosen : List ℕ) (c : ℕ)
    (command : Command) (group key : List ℕ)
    → IsConsistent p → IsChosen (night_in p ends plan names) p.tree.clock sizes chosen
    → Contains chosen c → IsCalled names plan.commands.items c command group key
    → of_last p names.night group (has_come p p.tree.clock) ≡ true → is_cleanup command ≡ true
