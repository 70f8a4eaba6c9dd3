-- Commands that refer only to what goes on ask both stores for the same event.
use Rattle.run_model.proofs.Common.{◌≡◌, ℕ, Bool, true, false, List, length, refl, sym, subst, ap}
use Rattle.run_model.proofs.Common.{◌∙◌, option_map, option_map_or, position, unwrap_or, bytes_eq}
use Rattle.run_model.proofs.Common.{event_of, group_of, kind_made, scope_of, IsConsistent, State}
use Rattle.run_model.specs.declared.commands.Command.{Command}
use Rattle.run_model.specs.declared.commands.Command.TheVariants as command
use Rattle.run_model.specs.Event as event
use Rattle.model_laws.proofs.Names.{AreDistinct, named_row, place_of_name}
use Rattle.model_laws.proofs.Tests.{passing}
use Rattle.state_renewal.specs.Renewed.{
  Part,
  group_renumbered,
  new_number,
  rows_renumbered,
  scope_renumbered,
}
use Rattle.state_renewal.specs.Renewed.{state_renumbered}
use Rattle.state_renewal.specs.PartEvents.{event_renumbered, names_part}
use Rattle.state_renewal.proofs.RowsRenumbered.{renumbered_get}
use Rattle.state_renewal.specs.Answered.{calls_part, command_renumbered, has_group_on, has_scope_on}

-- The number of the row that has this name, or the one after the last.
abbrev number_of : {X : Type 0} → (X → List ℕ) → List X → List ℕ → ℕ
number_of name rows wanted =
    unwrap_or (position (λ r. bytes_eq wanted (name r)) rows) (length rows)

-- A row that goes on is found by its name in both stores.
named_renumbered : {X : Type 0} (name : X → List ℕ) (goes : ℕ → Bool) (renumber : X → X)
    (rows : List X)
    (wanted : List ℕ) → ((x : X) → name (renumber x) ≡ name x)
    → AreDistinct name (rows_renumbered goes renumber rows)
    → option_map_or goes (position (λ r. bytes_eq wanted (name r)) rows) false ≡ true
    → (goes (number_of name rows wanted) ≡ true)
    × (number_of name (rows_renumbered goes renumber rows) wanted
    ≡ new_number goes (number_of name rows wanted))
named_renumbered name goes renumber rows wanted same distinct is =
    let s = passing goes (position (λ r. bytes_eq wanted (name r)) rows) is in
    let row = named_row name rows wanted s.0 s.1 in
    let new = rows_renumbered goes renumber rows in
    let at =
    place_of_name name new (new_number goes s.0) (renumber row.0) distinct
    (renumbered_get goes renumber rows s.0 s.2 ∙ ap (option_map renumber) row.1) in
    let old : number_of name rows wanted ≡ s.0 = ap (λ o. unwrap_or o (length rows)) s.1 in (
      ap goes old ∙ s.2,
      subst (λ n. number_of name new n ≡ new_number goes s.0) (same row.0 ∙ row.2)
          (ap (λ o. unwrap_or o (length new)) at)
          ∙ ap (new_number goes) (sym old),
    )

scope_on : (part : Part) (p : State) (name : List ℕ) → IsConsistent (state_renumbered part p)
    → has_scope_on part p name ≡ true
    → (part.scopes (scope_of p name) ≡ true)
    × (scope_of (state_renumbered part p) name ≡ new_number part.scopes (scope_of p name))
scope_on part p name renumbered is =
    named_renumbered (λ r. r.name) part.scopes (scope_renumbered part) p.tree.scopes name
    (λ r. refl)
    renumbered.numbered.scope_names is

pub group_on : (part : Part) (p : State) (name : List ℕ) → IsConsistent (state_renumbered part p)
    → has_group_on part p name ≡ true
    → (part.groups (group_of p name) ≡ true)
    × (group_of (state_renumbered part p) name ≡ new_number part.groups (group_of p name))
group_on part p name renumbered is =
    named_renumbered (λ r. r.name) part.groups (group_renumbered part) p.work.groups name
    (λ r. refl)
    renumbered.numbered.group_names is

-- The event of the command refers only to what goes on, and the other store is asked for it by the
-- new numbers.
pub record IsAskedRenumbered (part : Part) (p : State) (call : Command) : Type 0 where
  pub names : names_part part (event_of p call) ≡ true
  pub restated : event_of (state_renumbered part p) (command_renumbered part call)
      ≡ event_renumbered part (event_of p call)

pub asked_renumbered : (part : Part) (p : State) (call : Command)
    → IsConsistent (state_renumbered part p)
    → calls_part part p call ≡ true → IsAskedRenumbered part p call
asked_renumbered part p (command.Derive name parent wish) renumbered is =
    let on = scope_on part p parent renumbered is in
    record {
      names = on.0;
      restated = ap (λ s. event.Derive name s (kind_made p.tree.clock wish)) on.1;
    }
asked_renumbered part p (command.Cancel scope cause) renumbered is =
    let on = scope_on part p scope renumbered is in
    record { names = on.0; restated = ap (λ s. event.Cancel s cause) on.1 }
asked_renumbered part p (command.Advance moment) renumbered is = record
    { names = refl; restated = refl }
asked_renumbered part p (command.Group name parent) renumbered is =
    let on = scope_on part p parent renumbered is in
    record { names = on.0; restated = ap (event.Group name) on.1 }
asked_renumbered part p (command.Bare name scope) renumbered is =
    let on = scope_on part p scope renumbered is in
    record { names = on.0; restated = ap (event.Bare name) on.1 }
asked_renumbered part p (command.SetLimit group limit) renumbered is =
    let on = group_on part p group renumbered is in
    record { names = on.0; restated = ap (λ g. event.SetLimit g limit) on.1 }
asked_renumbered part p (command.Go group job argument) renumbered is =
    let on = group_on part p group renumbered is in
    record { names = on.0; restated = ap (λ g. event.Go g job argument) on.1 }
asked_renumbered part p (command.TryGo group job argument) renumbered is =
    let on = group_on part p group renumbered is in
    record { names = on.0; restated = ap (λ g. event.TryGo g job argument) on.1 }
asked_renumbered part p (command.Retry n) renumbered is = record { names = is; restated = refl }
asked_renumbered part p (command.Wait group) renumbered is =
    let on = group_on part p group renumbered is in
    record { names = on.0; restated = ap event.Wait on.1 }
