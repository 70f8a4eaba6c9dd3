-- What is decided is allowed.
use Rattle.run_model.proofs.Common.{◌≡◌, ℕ, true, Some, Ok, refl, sym, ap, ◌∙◌, and_from, Event}
use Rattle.run_model.proofs.Common.{State, allowed, refusals, decide, event_of, kind_made, is_root}
use Rattle.run_model.proofs.Common.{is_group_kind, not, ◌&&◌, list_all}
use Rattle.run_model.specs.declared.commands.Command.{Command}
use Rattle.run_model.specs.declared.commands.Command.TheVariants as command
use Rattle.run_model.specs.declared.commands.Wish.{Wish}
use Rattle.run_model.specs.declared.commands.Wish.TheVariants as wish
use Rattle.model_laws.proofs.Passing.{Leads, command_leads}

made_derivable : (clock : ℕ) (wish : Wish)
    → (not (is_root (kind_made clock wish)) && not (is_group_kind (kind_made clock wish))) ≡ true
made_derivable clock wish.Cancel = refl
made_derivable clock wish.Cause = refl
made_derivable clock (wish.Deadline moment cause) = refl
made_derivable clock (wish.Timeout seconds cause) = refl
made_derivable clock (wish.Value key text) = refl
made_derivable clock wish.Detached = refl

pub unrefused_allowed : (p : State) (call : Command)
    → list_all (λ t. not t.0) (refusals p (event_of p call)) ≡ true
    → allowed p (event_of p call) ≡ true
unrefused_allowed p (command.Derive name parent wish) may =
    and_from _ _ (made_derivable p.tree.clock wish) may
unrefused_allowed p (command.Cancel scope cause) may = may
unrefused_allowed p (command.Advance moment) may = may
unrefused_allowed p (command.Group name parent) may = may
unrefused_allowed p (command.Bare name scope) may = may
unrefused_allowed p (command.SetLimit group limit) may = may
unrefused_allowed p (command.Go group job argument) may = may
unrefused_allowed p (command.TryGo group job argument) may = may
unrefused_allowed p (command.Retry n) may = may
unrefused_allowed p (command.Wait group) may = may

pub decided_allowed : (p : State) (log : ℕ) (call : Command) (event : Event)
    → decide p log call ≡ Ok (Some event) → allowed p event ≡ true
decided_allowed p log call event e =
    let leads : Leads p log (event_of p call) event = command_leads p log call event e in
    sym (ap (allowed p) leads.asks) ∙ unrefused_allowed p call leads.may
