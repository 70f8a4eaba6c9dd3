-- Commands get tasks in a book, and begin.
use Rattle.std.specs.Prelude.{◌≡◌, ℕ, List}
use Rattle.std.specs.Option.{option_map}
use Rattle.run_model.specs.declared.answers.Reply.{Reply}
use Rattle.run_model.specs.declared.commands.Step.{Step}
use Rattle.run_disk.specs.Disk.{DiskState}
use Rattle.book_model.specs.Books.{BookView}
use Rattle.book_model.specs.Steps.{StepsOn}
use Rattle.night_plan.specs.Choices.{IsChoice}
use Rattle.night_plan.specs.declared.commands.Plan.{Plan}
use Rattle.night_drive.specs.declared.ends.Ends.{Ends}
use Rattle.night_drive.specs.declared.names.Names.{Names}
use Rattle.night_drive.specs.PlanTurns.{night_in}
use Rattle.drive_steps.specs.Reported.{begins_reported}
use Rattle.drive_steps.specs.Starts.{row_of}
use Rattle.drive_runs.specs.declared.begins.Beginning.{Beginning}
use Rattle.drive_runs.specs.declared.bindings.Binding.{Binding}
use Rattle.drive_runs.specs.Faults.{first_fault}

-- These steps, in which the commands get tasks, were played over the book. The replies say which
-- task each of the commands has now.
pub record Binds {D : Type 0} (state : D → DiskState) (steps : List Step) (commands : List ℕ)
    (old : BookView D) (made : Binding) (new : BookView D) : Type 0 where
  pub replies : List Reply
  pub played : StepsOn state old steps replies new
  pub begun : option_map (λ begun. begun.items) made.begun ≡ begins_reported commands replies
  pub met : made.fault ≡ first_fault replies

-- The commands were chosen by the rows of the book and by its clock, and got tasks.
pub record Begins {D : Type 0} (state : D → DiskState) (ends : Ends) (plan : Plan) (names : Names)
    (sizes : List ℕ) (old : BookView D) (made : Beginning) (new : BookView D) : Type 0 where
  pub chosen : IsChoice (night_in old.session.state ends plan names) old.session.state.tree.clock
      sizes made.choice
  pub bound : Binds state
      (row_of old.session.state names plan.commands.items made.choice.commands.items)
      made.choice.commands.items old made.binding new
