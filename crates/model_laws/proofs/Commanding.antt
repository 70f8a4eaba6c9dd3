-- The events that a command can't make.
use Rattle.run_model.proofs.Common.{◌≡◌, false, refl, Event, event_of, State}
use Rattle.run_model.specs.declared.commands.Command.{Command}
use Rattle.run_model.specs.declared.commands.Command.TheVariants as command
use Rattle.model_laws.specs.Kinds.{is_finish, is_restart, is_start}

-- The event is one that a command can make.
pub record IsAsked (e : Event) : Type 0 where
  pub start : is_start e ≡ false
  pub finish : is_finish e ≡ false
  pub restart : is_restart e ≡ false

pub command_event : (p : State) (call : Command) → IsAsked (event_of p call)
command_event p (command.Derive name parent wish) =
    record { start = refl; finish = refl; restart = refl }
command_event p (command.Cancel scope cause) =
    record { start = refl; finish = refl; restart = refl }
command_event p (command.Advance moment) = record { start = refl; finish = refl; restart = refl }
command_event p (command.Group name parent) =
    record { start = refl; finish = refl; restart = refl }
command_event p (command.Bare name scope) = record { start = refl; finish = refl; restart = refl }
command_event p (command.SetLimit group limit) =
    record { start = refl; finish = refl; restart = refl }
command_event p (command.Go group job argument) =
    record { start = refl; finish = refl; restart = refl }
command_event p (command.TryGo group job argument) =
    record { start = refl; finish = refl; restart = refl }
command_event p (command.Retry n) = record { start = refl; finish = refl; restart = refl }
command_event p (command.Wait group) = record { start = refl; finish = refl; restart = refl }
