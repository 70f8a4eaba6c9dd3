-- If a command is decided as an event that has a record, the command can be given.
use Rattle.run_model.proofs.Common.{◌≡◌, ◌<◌, ◌≤◌, ◌+◌, ◌^◌, ℕ, Bool, true, not, ◌&&◌, nat_lt}
use Rattle.run_model.proofs.Common.{List, Some, Ok, refl, sym, ap, ◌∙◌, arith, leb-true, lt-ltb}
use Rattle.run_model.proofs.Common.{and_parts, and_from, Event, State, is_name, is_recorded}
use Rattle.run_model.proofs.Common.{is_recorded_kind, is_row_number, is_moment, refusals, has_row}
use Rattle.run_model.proofs.Common.{decide, event_of, kind_made, scope_of, group_of, is_first}
use Rattle.run_model.proofs.Common.{list_all}
use Rattle.std.proofs.Common.{lit<}
use Rattle.run_model.specs.declared.bounds.TheConstants.{GREATEST_MOMENT}
use Rattle.run_model.specs.declared.commands.Command.{Command}
use Rattle.run_model.specs.declared.commands.Command.TheVariants as command
use Rattle.run_model.specs.declared.commands.Wish.{Wish}
use Rattle.run_model.specs.declared.commands.Wish.TheVariants as wish
use Rattle.model_laws.specs.Decided.{is_wish, is_command, AreNamed}
use Rattle.model_laws.proofs.Passing.{command_leads}
use Rattle.model_laws.proofs.Names.{named_scope, named_group}

-- A name that is found is the name of a row.
found_scope_name : (p : State) (name : List ℕ) (rest : Bool) → AreNamed p
    → (not (not (has_row p.tree.scopes (scope_of p name))) && rest) ≡ true → is_name name ≡ true
found_scope_name p name rest named may =
    let row = named_scope p name (is_first _ rest may) in
    ap is_name (sym row.2) ∙ named.scopes (scope_of p name) row.0 row.1

found_group_name : (p : State) (name : List ℕ) (rest : Bool) → AreNamed p
    → (not (not (has_row p.work.groups (group_of p name))) && rest) ≡ true → is_name name ≡ true
found_group_name p name rest named may =
    let row = named_group p name (is_first _ rest may) in
    ap is_name (sym row.2) ∙ named.groups (group_of p name) row.0 row.1

-- Seconds that lead to a moment are few.
few_seconds : (clock seconds : ℕ) → is_moment (clock + seconds) ≡ true
    → nat_lt seconds (2 ^ 64) ≡ true
few_seconds clock seconds e =
    let within : clock + seconds ≤ GREATEST_MOMENT = leb-true (clock + seconds) GREATEST_MOMENT e in
    let short : GREATEST_MOMENT < 2 ^ 64 = lit< tt in
    lt-ltb seconds (2 ^ 64) (below seconds clock GREATEST_MOMENT (2 ^ 64) within short)
  where
    below : (seconds clock most bound : ℕ) → clock + seconds ≤ most → most < bound
        → seconds < bound
    below seconds clock most bound a b = omega (arith, a, b)

made_wish : (clock : ℕ) (w : Wish) → is_recorded_kind (kind_made clock w) ≡ true
    → is_wish w ≡ true
made_wish clock wish.Cancel e = refl
made_wish clock wish.Cause e = refl
made_wish clock (wish.Deadline moment cause) e = e
made_wish clock (wish.Timeout seconds cause) e =
    let parts = and_parts _ _ e in
    and_from _ _ (few_seconds clock seconds parts.0) parts.1
made_wish clock (wish.Value key text) e = e
made_wish clock wish.Detached e = refl

submission_given : (g : ℕ) (group job argument : List ℕ) → is_name group ≡ true
    → (is_row_number g && is_name job && is_name argument) ≡ true
    → (is_name group && is_name job && is_name argument) ≡ true
submission_given g group job argument named e =
    let all = and_parts _ _ e in
    let prefix = and_parts _ _ all.0 in
    and_from _ _ (and_from _ _ named prefix.1) all.1

unrefused_given : (p : State) (call : Command) → AreNamed p
    → list_all (λ t. not t.0) (refusals p (event_of p call)) ≡ true
    → is_recorded (event_of p call) ≡ true → is_command call ≡ true
unrefused_given p (command.Derive name parent w) named may e =
    let all = and_parts _ _ e in
    let prefix = and_parts _ _ all.0 in
    and_from _ _ (and_from _ _ prefix.0 (found_scope_name p parent _ named may))
    (made_wish p.tree.clock w all.1)
unrefused_given p (command.Cancel scope cause) named may e =
    let all = and_parts _ _ e in
    and_from _ _ (found_scope_name p scope _ named may) all.1
unrefused_given p (command.Advance moment) named may e = e
unrefused_given p (command.Group name parent) named may e =
    let all = and_parts _ _ e in
    and_from _ _ all.0 (found_scope_name p parent _ named may)
unrefused_given p (command.Bare name scope) named may e =
    let all = and_parts _ _ e in
    and_from _ _ all.0 (found_scope_name p scope _ named may)
unrefused_given p (command.SetLimit group limit) named may e =
    let all = and_parts _ _ e in
    and_from _ _ (found_group_name p group _ named may) all.1
unrefused_given p (command.Go group job argument) named may e =
    submission_given (group_of p group) group job argument (found_group_name p group _ named may) e
unrefused_given p (command.TryGo group job argument) named may e =
    submission_given (group_of p group) group job argument (found_group_name p group _ named may) e
unrefused_given p (command.Retry n) named may e = e
unrefused_given p (command.Wait group) named may e = found_group_name p group _ named may

pub decided_given : (p : State) (log : ℕ) (call : Command) (event : Event) → AreNamed p
    → is_recorded event ≡ true → decide p log call ≡ Ok (Some event) → is_command call ≡ true
decided_given p log call event named recorded e =
    let leads = command_leads p log call event e in
    unrefused_given p call named leads.may (ap is_recorded leads.asks ∙ recorded)
