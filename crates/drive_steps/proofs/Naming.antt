-- How a command of the plan is called, and in which group of the store it gets its next task.
use Rattle.std.proofs.Common.{◌≡◌, ◌<◌, ◌∙◌, ℕ, zero, suc, Bool, true, List, [], ◌∷◌, Option}
use Rattle.std.proofs.Common.{Some, None, IsSome, length, slice_get, get_or}
use Rattle.std.proofs.Common.{ap, sym, subst, arith}
use Rattle.std.proofs.lemmas.Option.{none-some, same_Some}
use Rattle.std.specs.List.{Contains, list_all}
use Rattle.std.specs.Option.{option_map_or}
use Rattle.std.specs.Prelude.{is_some, unwrap_or}
use Rattle.run_model.proofs.Common.{and_parts, false≢true}
use Rattle.run_model.specs.declared.commands.Command.{Command as Call}
use Rattle.run_model.specs.State.{State}
use Rattle.night_plan.proofs.Rows.{read}
use Rattle.night_plan.specs.declared.commands.Command.{Command}
use Rattle.night_plan.specs.declared.commands.Plan.{Plan}
use Rattle.night_drive.specs.declared.names.Names.{Names}
use Rattle.night_drive.specs.Searches.{last_below}
use Rattle.night_drive.specs.Seen.{AreNames, is_try}
use Rattle.drive_steps.specs.Rooms.{are_housed, last_group}
use Rattle.drive_steps.specs.Starts.{group_of, key_of, last_of, next_task, next_try}

-- What all elements pass, each one passes.
each_passes : {X : Type 0} (test : X → Bool) (xs : List X) → list_all test xs ≡ true
    → (i : ℕ) (x : X) → slice_get xs i ≡ Some x → test x ≡ true
each_passes test [] all i x at = absurd (none-some x at)
each_passes test (y ∷ xs) all zero x at =
    ap test (sym (same_Some y x at)) ∙ (and_parts (test y) (list_all test xs) all).0
each_passes test (y ∷ xs) all (suc i) x at =
    each_passes test xs (and_parts (test y) (list_all test xs) all).1 i x at

-- A group of the plan has a group of the store.
pub housed_at : (p : State) (names : Names) (g : ℕ) (group : List ℕ) → are_housed p names ≡ true
    → slice_get names.groups.items g ≡ Some group → IsSome (last_group p names.night group)
housed_at p names g group all at =
    each_passes (λ (name : List ℕ). is_some (last_group p names.night name)) names.groups.items all
    g group at

-- A command was read from the plan, with the name of its group.
pub record IsRead (plan : Plan) (names : Names) (c : ℕ) (command : Command) (group : List ℕ)
    : Type 0 where
  pub named : AreNames plan names
  pub less : c < length plan.commands.items
  pub command_is : command ≡ get_or plan.commands.items c command
  pub group_is : group ≡ get_or names.groups.items command.group group

there : (plan : Plan) (names : Names) (c : ℕ) (command : Command) (group : List ℕ)
    → IsRead plan names c command group → slice_get plan.commands.items c ≡ Some command
there plan names c command group it = read plan.commands.items c command it.less it.command_is

group_within : (plan : Plan) (names : Names) (c : ℕ) (command : Command) (group : List ℕ)
    → IsRead plan names c command group → command.group < length names.groups.items
group_within plan names c command group it =
    let own : command.group < length plan.groups.items =
    plan.sound.own c command (there plan names c command group it) in
    omega (arith, own, it.named.groups)

-- The name is one of those of groups.
pub group_listed : (plan : Plan) (names : Names) (c : ℕ) (command : Command) (group : List ℕ)
    → IsRead plan names c command group → Contains names.groups.items group
group_listed plan names c command group it =
    (command.group, group_within plan names c command group it, sym it.group_is)

-- So it is that of the command's group.
pub group_called : (plan : Plan) (names : Names) (c : ℕ) (command : Command) (group : List ℕ)
    → IsRead plan names c command group → group ≡ group_of names plan.commands.items c
group_called plan names c command group it =
    sym (ap (λ (o : Option Command). option_map_or (λ (x : Command).
    unwrap_or (slice_get names.groups.items x.group) []) o [])
    (there plan names c command group it)
    ∙ ap (λ (o : Option (List ℕ)). unwrap_or o [])
    (read names.groups.items command.group group (group_within plan names c command group it)
    it.group_is))

-- The key was read.
pub key_called : (plan : Plan) (names : Names) (c : ℕ) (key : List ℕ) → AreNames plan names
    → c < length plan.commands.items → key ≡ get_or names.keys.items c key → key ≡ key_of names c
key_called plan names c key are less is =
    sym (ap (λ (o : Option (List ℕ)). unwrap_or o [])
    (read names.keys.items c key (omega (arith, less, are.keys)) is))

-- So this is the command's last try.
pub last_is : (p : State) (names : Names) (commands : List Command) (c : ℕ) (group key : List ℕ)
    (last : Option ℕ) → group ≡ group_of names commands c → key ≡ key_of names c
    → last ≡ last_below (is_try p names.night group key) (length p.work.tasks)
    → last ≡ last_of p names commands c
last_is p names commands c group key last grouped keyed is =
    is ∙ ap (λ (x : List ℕ). last_below (is_try p names.night x key) (length p.work.tasks)) grouped
    ∙ ap (λ (x : List ℕ). last_below (is_try p names.night (group_of names commands c) x)
    (length p.work.tasks)) keyed

-- A group of the plan has a group of the store.
pub has_room : (p : State) (names : Names) (group : List ℕ) → Contains names.groups.items group
    → are_housed p names ≡ true → last_group p names.night group ≡ None → ⊥
has_room p names group (g, less, is) housed none =
    let some : IsSome (last_group p names.night group) =
    housed_at p names g group housed (read names.groups.items g group less (sym is)) in
    let off : IsSome {T = ℕ} None = subst (λ (o : Option ℕ). IsSome o) none some in
    false≢true off

-- So this is the step that submits the command's next task.
pub next_is : (p : State) (names : Names) (commands : List Command) (c : ℕ) (group key : List ℕ)
    (g : ℕ) (last : Option ℕ) (next : Call) → group ≡ group_of names commands c
    → key ≡ key_of names c → last_group p names.night group ≡ Some g
    → last ≡ last_of p names commands c → next ≡ next_task p g key last
    → next ≡ next_try p names commands c
next_is p names commands c group key g last next grouped keyed room tried is =
    is ∙ ap (next_task p g key) tried
    ∙ ap (λ (x : List ℕ). next_task p g x (last_of p names commands c)) keyed
    ∙ ap (λ (o : Option ℕ). next_task p (unwrap_or o 0) (key_of names c)
    (last_of p names commands c)) (sym room ∙ ap (last_group p names.night) grouped)
