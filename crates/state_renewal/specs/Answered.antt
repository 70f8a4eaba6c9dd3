-- Commands that refer to what goes on, and the answers to them, by the new numbers.
use Rattle.std.specs.Prelude.{ℕ, Bool, true, false, List, Result, Ok, Err}
use Rattle.std.specs.Option.{option_map, option_map_or}
use Rattle.run_model.specs.declared.answers.Answer.{Answer}
use Rattle.run_model.specs.declared.answers.Answer.TheVariants as answer
use Rattle.run_model.specs.declared.answers.Started.{Started}
use Rattle.run_model.specs.declared.commands.Command.{Command}
use Rattle.run_model.specs.declared.commands.Command.TheVariants as command
use Rattle.run_model.specs.declared.refusals.Refusal.{Refusal}
use Rattle.run_model.specs.State.{State, group_named, scope_named}
use Rattle.state_renewal.specs.Renewed.{new_number, Part}

-- There is a scope with this name, and it goes on.
abbrev pub has_scope_on : Part → State → List ℕ → Bool
has_scope_on part p name = option_map_or part.scopes (scope_named p.tree name) false

-- There is a group with this name, and it goes on.
abbrev pub has_group_on : Part → State → List ℕ → Bool
has_group_on part p name = option_map_or part.groups (group_named p.work name) false

-- The scope, the group or the task to which the command refers goes on.
abbrev pub calls_part : Part → State → Command → Bool
calls_part part p (command.Derive name parent wish) = has_scope_on part p parent
calls_part part p (command.Cancel scope cause) = has_scope_on part p scope
calls_part part p (command.Advance moment) = true
calls_part part p (command.Group name parent) = has_scope_on part p parent
calls_part part p (command.Bare name scope) = has_scope_on part p scope
calls_part part p (command.SetLimit group limit) = has_group_on part p group
calls_part part p (command.Go group job argument) = has_group_on part p group
calls_part part p (command.TryGo group job argument) = has_group_on part p group
calls_part part p (command.Retry n) = part.tasks n
calls_part part p (command.Wait group) = has_group_on part p group

-- The same command, by the new numbers. Only a task is referred to by its number.
abbrev pub command_renumbered : Part → Command → Command
command_renumbered part (command.Retry n) = command.Retry (new_number part.tasks n)
command_renumbered part call = call

-- The same answer, by the new numbers.
abbrev pub answer_renumbered : Part → Answer → Answer
answer_renumbered part (answer.Scope s) = answer.Scope (new_number part.scopes s)
answer_renumbered part (answer.Group g own) =
    answer.Group (new_number part.groups g) (option_map (new_number part.scopes) own)
answer_renumbered part answer.Done = answer.Done
answer_renumbered part (answer.Task n phase) = answer.Task (new_number part.tasks n) phase
answer_renumbered part (answer.Waited error) = answer.Waited error

-- The same start, by the new number of the task.
abbrev pub started_renumbered : Part → Started → Started
started_renumbered part started = record started {
  info = record started.info { task = new_number part.tasks started.info.task };
}

-- The same reply: an answer by the new numbers, or the same refusal.
abbrev pub reply_renumbered : {X : Type 0} → (X → X) → Result X Refusal → Result X Refusal
reply_renumbered renumber (Ok x) = Ok (renumber x)
reply_renumbered renumber (Err refusal) = Err refusal
