-- The effect of an event on the facts about a plan. It is the effect of a turn of `night_plan`.
use Rattle.std.specs.Prelude.{◌≡◌, ◌≢◌, ◌<◌, ◌==◌, ℕ, ◌&&◌, ◌||◌, nat_le, Bool, true, false}
use Rattle.std.specs.Prelude.{if◌then◌else◌, List, codes, length, Option, Some, None, is_some}
use Rattle.std.specs.Prelude.{slice_get}
use Rattle.std.specs.Option.{option_map_or}
use Rattle.std.specs.Str.{bytes_eq}
use Rattle.run_model.specs.Allowed.{takes_cause}
use Rattle.run_model.specs.declared.scopes.Kind.{Kind}
use Rattle.run_model.specs.declared.tasks.Outcome.{Outcome}
use Rattle.run_model.specs.declared.tasks.Outcome.TheVariants as outcome
use Rattle.run_model.specs.Event.{Event}
use Rattle.run_model.specs.Event as event
use Rattle.run_model.specs.Rules.{AreNumbered}
use Rattle.run_model.specs.Scopes.{chain, deadline_of, is_done}
use Rattle.run_model.specs.State.{State}
use Rattle.run_model.specs.Step.{own_scope, step}
use Rattle.run_model.specs.Tasks.{has_stage, is_fresh, is_running}
use Rattle.run_model.specs.WorkChanges.{error_of, group_of_task, stage_of}
use Rattle.model_laws.specs.Hits.{is_on}
use Rattle.model_laws.specs.Kinds.{is_finish, is_restart, is_start}
use Rattle.night_plan.specs.Turns.{Turn, Begin, Cut, EndOk, Fail, is_among, turned}
use Rattle.night_drive.specs.Names.{belongs, is_same, night_of}
use Rattle.night_drive.specs.Searches.{last_below}
use Rattle.night_drive.specs.Seen.{is_over, is_owned, is_scope, is_try, known_of}
use Rattle.night_drive.specs.Tries.{counts, is_cancel}

-- Task n is the command's: its argument is the key, and it is in a group of this name and in this
-- night. It needn't have been started.
abbrev pub is_task : State → (night : Option (List ℕ)) → (group key : List ℕ) → ℕ → Bool
is_task p night group key n =
    option_map_or (λ task. bytes_eq task.argument key && is_owned p night group task.group)
    (slice_get p.work.tasks n) false

-- If task n is the command's, no later task is a try of it.
abbrev pub IsLast : State → (night : Option (List ℕ)) → (group key : List ℕ) → ℕ → Type 0
IsLast p night group key n =
    is_task p night group key n ≡ true → (m : ℕ) → n < m → is_try p night group key m ≡ false

-- ---- a start

-- A start begins the command of its task: the facts about each command are those after a turn that
-- begins this command and no other one. The task wasn't started before, and no later task is a try
-- of its command.
abbrev pub StartsBegin : Type 0
StartsBegin =
    (p : State) (ended : ℕ → ℕ) (night : Option (List ℕ)) (group key : List ℕ) (n c now : ℕ)
    (sizes chosen : List ℕ)
    → has_stage is_fresh p.work n ≡ true → IsLast p night group key n
    → is_among c chosen ≡ is_task p night group key n
    → known_of (step p (event.Start n)) ended night group key
    ≡ turned (Begin now sizes chosen) c (known_of p ended night group key)

-- ---- an end

-- The turn in which command d ends with this outcome, at this moment.
abbrev pub end_of : (d moment : ℕ) → Outcome → Turn
end_of d moment outcome.Success = EndOk d
end_of d moment (outcome.Failure error) = if is_cancel error then Cut d else Fail d moment

-- A finish ends the command of its task: the facts about each command are those after the turn of
-- that end. The task was running and isn't withdrawn, and no later task is a try of its command.
-- The moment of its end becomes known, and those of other tasks stay the same.
abbrev pub FinishesEnd : Type 0
FinishesEnd =
    (p : State) (before after : ℕ → ℕ) (night : Option (List ℕ)) (group key : List ℕ) (n c d : ℕ)
    (outcome : Outcome)
    → has_stage is_running p.work n ≡ true → IsLast p night group key n
    → counts (stage_of outcome) ≡ true → ((m : ℕ) → m ≢ n → after m ≡ before m)
    → (d == c) ≡ is_task p night group key n
    → known_of (step p (event.Finish n outcome)) after night group key
    ≡ turned (end_of d (after n) outcome) c (known_of p before night group key)

-- A task that is started and then withdrawn changes no fact about any command.
abbrev pub WithdrawalsLeaveCommands : Type 0
WithdrawalsLeaveCommands =
    (p : State) (ended : ℕ → ℕ) (night : Option (List ℕ)) (group key : List ℕ) (n : ℕ)
    → has_stage is_fresh p.work n ≡ true
    → known_of (step (step p (event.Start n))
    (event.Finish n (outcome.Failure (codes "withdrawn")))) ended night group key
    ≡ known_of p ended night group key

-- ---- all other events

-- An event that is no start, no finish and no restart changes no fact about any command.
abbrev pub OthersLeaveCommands : Type 0
OthersLeaveCommands =
    (p : State) (e : Event) (ended : ℕ → ℕ) (night : Option (List ℕ)) (group key : List ℕ)
    → AreNumbered p → is_start e ≡ false → is_finish e ≡ false → is_restart e ≡ false
    → known_of (step p e) ended night group key ≡ known_of p ended night group key

-- ---- groups

-- What is asked of the last scope of a group, if it has one.
abbrev pub of_last : State → (night : Option (List ℕ)) → (group : List ℕ) → (ℕ → Bool) → Bool
of_last p night group test =
    option_map_or test (last_below (is_scope p night group) (length p.tree.scopes)) false

-- After a cancel the groups are done whose last scope has the canceled scope on its chain. All
-- other groups are done if they were before.
abbrev pub CancelsStop : Type 0
CancelsStop =
    (p : State) (s : ℕ) (cause : Option (List ℕ)) (night : Option (List ℕ)) (group : List ℕ)
    → is_over (step p (event.Cancel s cause)) night group
    ≡ (is_over p night group
    || of_last p night group (λ last. is_on s (chain p.tree.scopes last)))

-- The deadline of scope s has come at this moment.
abbrev pub has_come : State → ℕ → ℕ → Bool
has_come p moment s =
    option_map_or (λ deadline. nat_le deadline moment) (deadline_of p.tree.scopes s) false

-- Once the clock has moved, the groups are done whose last scope has a deadline that has come. All
-- other groups are done if they were before.
abbrev pub AdvancesStop : Type 0
AdvancesStop =
    (p : State) (moment : ℕ) (night : Option (List ℕ)) (group : List ℕ)
    → is_over (step p (event.Advance moment)) night group
    ≡ (is_over p night group || of_last p night group (has_come p moment))

-- An event that doesn't change the tree changes no fact about a group.
abbrev pub OthersLeaveGroups : Type 0
OthersLeaveGroups =
    (p : State) (e : Event) (night : Option (List ℕ)) (group : List ℕ)
    → (step p e).tree ≡ p.tree → is_over (step p e) night group ≡ is_over p night group

-- A finish doesn't change the tree if the group of the task is bare.
abbrev pub BareFinishesLeaveScopes : Type 0
BareFinishesLeaveScopes =
    (p : State) (n : ℕ) (outcome : Outcome) → own_scope p.work (group_of_task p.work n) ≡ None
    → (step p (event.Finish n outcome)).tree ≡ p.tree

-- A new scope to which a command may give a cause becomes the last one of each group to which it
-- belongs, and these are done if its parent is. All other groups are done if they were before.
abbrev pub DerivesStandLast : Type 0
DerivesStandLast =
    (p : State) (name : List ℕ) (parent : ℕ) (kind : Kind) (night : Option (List ℕ))
    (group : List ℕ) → AreNumbered p → parent < length p.tree.scopes
    → is_over (step p (event.Derive name parent kind)) night group
    ≡ (if takes_cause kind && (belongs group name && is_same (night_of p parent) night)
    then is_done p.tree.scopes parent else is_over p night group)

-- A new group of the store, with a scope of its own, changes no fact about a group of the plan.
abbrev pub GroupsLeaveGroups : Type 0
GroupsLeaveGroups =
    (p : State) (name : List ℕ) (parent : ℕ) (night : Option (List ℕ)) (group : List ℕ)
    → AreNumbered p → is_over (step p (event.Group name parent)) night group ≡ is_over p night group

-- If the group of a task has a scope of its own, then after a failure the groups are done whose
-- last scope has this scope on its chain. All other groups are done if they were before, and after
-- a success all are.
abbrev pub FinishesStop : Type 0
FinishesStop =
    (p : State) (n s : ℕ) (outcome : Outcome) (night : Option (List ℕ)) (group : List ℕ)
    → own_scope p.work (group_of_task p.work n) ≡ Some s
    → is_over (step p (event.Finish n outcome)) night group
    ≡ (is_over p night group || (is_some (error_of outcome)
    && of_last p night group (λ last. is_on s (chain p.tree.scopes last))))

-- After a wait for a group with a scope of its own, the groups are done whose last scope has this
-- scope on its chain. All other groups are done if they were before.
abbrev pub WaitsStop : Type 0
WaitsStop =
    (p : State) (g s : ℕ) (night : Option (List ℕ)) (group : List ℕ)
    → own_scope p.work g ≡ Some s
    → is_over (step p (event.Wait g)) night group
    ≡ (is_over p night group || of_last p night group (λ last. is_on s (chain p.tree.scopes last)))
