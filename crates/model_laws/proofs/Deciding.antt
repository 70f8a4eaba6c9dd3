-- An allowed event is decided, if names are distinct and its record fits into the log.
use Rattle.run_model.proofs.Common.{◌&&◌, ◌≡◌, ℕ, true, false, not, Option, Some, None, slice_get}
use Rattle.run_model.proofs.Common.{refl, ap, ◌∙◌, le_trans, option_map_or, and_parts, not-false}
use Rattle.run_model.proofs.Common.{Event, State, WorkState, AreNumbered, is_recorded, allowed}
use Rattle.run_model.proofs.Common.{is_open, refusals, decided, event_of, is_full, is_repeated}
use Rattle.run_model.proofs.Common.{kind_made, most_tasks_most, each_fails, is_root, is_group_kind}
use Rattle.run_model.proofs.Common.{list_all}
use Rattle.std.proofs.lemmas.Bool.{not-true}
use Rattle.run_model.specs.declared.groups.Group.{Group}
use Rattle.run_model.specs.declared.scopes.Kind.{Kind}
use Rattle.run_model.specs.declared.scopes.Kind.TheVariants as kind
use Rattle.run_model.specs.declared.commands.Command.{Command}
use Rattle.run_model.specs.declared.commands.Command.TheVariants as command
use Rattle.run_model.specs.declared.commands.Wish.{Wish}
use Rattle.run_model.specs.declared.commands.Wish.TheVariants as wish
use Rattle.run_model.specs.Event as event
use Rattle.run_model.specs.Replies.{has_waited}
use Rattle.run_model.proofs.RefusalLemmas.{unless_none}
use Rattle.model_laws.specs.Decided.{IsDecided, by_command, by_start, by_finish}
use Rattle.model_laws.proofs.Allowing.{decided_allowed}
use Rattle.model_laws.proofs.Names.{name_of_group, name_of_scope}
use Rattle.model_laws.proofs.Passing.{fits_decided, new_decide}
use Rattle.model_laws.proofs.Rooms.{empty_log_has_room}
use Rattle.model_laws.proofs.StartingReplies.{allowed_start, finish_allowed, start_allowed}

-- A command that asks for the event leads to it.
decided_by : (p : State) (call : Command) (made : Event)
    → list_all (λ t. not t.0) (refusals p made) ≡ true
    → is_full p 0 made ≡ false → event_of p call ≡ made → is_repeated p call ≡ false
    → IsDecided p made
decided_by p call made may fits asks new =
    by_command call
    (new_decide p 0 call new ∙ ap (decided p 0) asks ∙ fits_decided p 0 made may fits)

-- A kind that a caller derives is that of a wish.
wish_of : (clock : ℕ) (k : Kind) → (not (is_root k) && not (is_group_kind k)) ≡ true
    → (w : Wish) × (kind_made clock w ≡ k)
wish_of clock kind.Root e = cc
wish_of clock kind.Cancel e = (wish.Cancel, refl)
wish_of clock kind.Cause e = (wish.Cause, refl)
wish_of clock (kind.Deadline moment cause) e = (wish.Deadline moment cause, refl)
wish_of clock (kind.Value key text) e = (wish.Value key text, refl)
wish_of clock kind.Detached e = (wish.Detached, refl)
wish_of clock kind.Group e = cc

-- An open group was not waited for.
open_new : (w : WorkState) (g : ℕ) → is_open w g ≡ true → has_waited w g ≡ false
open_new w g is = go (slice_get w.groups g) is
  where
    go : (o : Option Group) → option_map_or (λ group. not group.waited) o false ≡ true
        → option_map_or (λ group. group.waited) o false ≡ false
    go None is = refl
    go (Some group) is = not-true group.waited is

allowed_fits : (p : State) (made : Event) → AreNumbered p → is_recorded made ≡ true
    → is_full p 0 made ≡ false → allowed p made ≡ true → IsDecided p made
allowed_fits p (event.Derive name s k) numbered e fits may =
    let parts = and_parts _ _ may in
    let wished = wish_of p.tree.clock k parts.0 in
    let named = name_of_scope p s _ numbered parts.1 in
    let at = ap (λ (t : ℕ). event.Derive name t (kind_made p.tree.clock wished.0)) named.1 in
    let asks = at ∙ ap (event.Derive name s) wished.1 in
    decided_by p (command.Derive name named.0 wished.0) _ parts.1 fits asks refl
allowed_fits p (event.Cancel s cause) numbered e fits may =
    let named = name_of_scope p s _ numbered may in
    decided_by p (command.Cancel named.0 cause) _ may fits
    (ap (λ (t : ℕ). event.Cancel t cause) named.1) refl
allowed_fits p (event.Advance moment) numbered e fits may =
    decided_by p (command.Advance moment) _ may fits refl refl
allowed_fits p (event.Group name s) numbered e fits may =
    let named = name_of_scope p s _ numbered may in
    decided_by p (command.Group name named.0) _ may fits (ap (event.Group name) named.1) refl
allowed_fits p (event.Bare name s) numbered e fits may =
    let named = name_of_scope p s _ numbered may in
    decided_by p (command.Bare name named.0) _ may fits (ap (event.Bare name) named.1) refl
allowed_fits p (event.SetLimit g limit) numbered e fits may =
    let named = name_of_group p g _ numbered may in
    decided_by p (command.SetLimit named.0 limit) _ may fits
    (ap (λ (h : ℕ). event.SetLimit h limit) named.1) refl
allowed_fits p (event.Go g job argument) numbered e fits may =
    let named = name_of_group p g _ numbered may in
    decided_by p (command.Go named.0 job argument) _ may fits
    (ap (λ (h : ℕ). event.Go h job argument) named.1) refl
allowed_fits p (event.TryGo g job argument) numbered e fits may =
    let named = name_of_group p g _ numbered may in
    decided_by p (command.TryGo named.0 job argument) _ may fits
    (ap (λ (h : ℕ). event.TryGo h job argument) named.1) refl
allowed_fits p (event.Retry n) numbered e fits may =
    decided_by p (command.Retry n) _ may fits refl refl
allowed_fits p (event.Start n) numbered e fits may = by_start (allowed_start p 0 n may fits)
allowed_fits p (event.Finish n o) numbered e fits may =
    by_finish n o (unless_none (refusals p (event.Finish n o)) _ may)
allowed_fits p (event.Wait g) numbered e fits may =
    let parts = each_fails (refusals p (event.Wait g)) may in
    let named = name_of_group p g _ numbered may in
    let new = open_new p.work g (not-false _ parts.1.1.0) in
    decided_by p (command.Wait named.0) _ may fits (ap event.Wait named.1)
    (ap (has_waited p.work) named.1 ∙ new)
allowed_fits p event.Restart numbered e fits may = cc

pub allowed_decided : (p : State) (made : Event) → AreNumbered p → is_recorded made ≡ true
    → allowed p made ≡ true → IsDecided p made
allowed_decided p made numbered e may =
    allowed_fits p made numbered e
    (empty_log_has_room p made e
    (le_trans numbered.few_tasks (most_tasks_most p.work.layout))) may

pub decision_allowed : (p : State) (made : Event) → IsDecided p made → allowed p made ≡ true
decision_allowed p made (by_command call e) = decided_allowed p 0 call made e
decision_allowed p made (by_start e) = start_allowed p 0 made e
decision_allowed p made (by_finish n o e) = finish_allowed p n o made e
