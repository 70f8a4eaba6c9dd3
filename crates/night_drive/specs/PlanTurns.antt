-- The effect of an event on the night that a store shows. It is the effect of turns of
-- `night_plan`.
use Rattle.std.specs.Prelude.{◌≡◌, ◌≢◌, ◌<◌, ◌==◌, ◌&&◌, ℕ, Bool, true, false, List, [], ◌∷◌, ◌++◌}
use Rattle.std.specs.Prelude.{Option}
use Rattle.std.specs.Prelude.{Some, None, codes, fold, length, map, slice_get, unwrap_or}
use Rattle.std.specs.List.{filter_map}
use Rattle.run_model.specs.Allowed.{takes_cause}
use Rattle.run_model.specs.declared.scopes.Kind.{Kind}
use Rattle.run_model.specs.declared.tasks.Outcome.{Outcome}
use Rattle.run_model.specs.declared.tasks.Outcome.TheVariants as outcome
use Rattle.run_model.specs.Event.{Event}
use Rattle.run_model.specs.Event as event
use Rattle.run_model.specs.Rules.{AreNumbered}
use Rattle.run_model.specs.Scopes.{chain, is_done}
use Rattle.run_model.specs.State.{State, WorkState}
use Rattle.run_model.specs.Step.{own_scope, step}
use Rattle.run_model.specs.Tasks.{has_stage, is_fresh, is_running}
use Rattle.run_model.specs.WorkChanges.{group_of_task, stage_of}
use Rattle.model_laws.specs.Hits.{is_on}
use Rattle.model_laws.specs.Kinds.{is_finish, is_restart, is_start}
use Rattle.night_plan.specs.declared.commands.Command.{Command}
use Rattle.night_plan.specs.declared.commands.Plan.{Plan}
use Rattle.night_plan.specs.declared.facts.Facts.{Facts}
use Rattle.night_plan.specs.declared.facts.Known.{Known}
use Rattle.night_plan.specs.Nights.{Night, night}
use Rattle.night_plan.specs.Sessions.{after_all, restarted}
use Rattle.night_plan.specs.Turns.{after as after_turn, Begin, Stop, is_among}
use Rattle.night_drive.specs.declared.ends.Ends.{Ends}
use Rattle.night_drive.specs.declared.names.Names.{Names}
use Rattle.night_drive.specs.Distinct.{AreDistinct}
use Rattle.night_drive.specs.Names.{belongs, is_same, night_of}
use Rattle.night_drive.specs.Seen.{AreNames, IsCalled, IsSeen, is_over, known_of, moment_of}
use Rattle.night_drive.specs.Tries.{counts}
use Rattle.night_drive.specs.Turns.{IsLast, end_of, has_come, is_task, of_last}

-- ---- the night that a store shows

-- The facts about these commands, which have these keys.
abbrev pub known_in : State → Ends → Names → List Command → (keys : List (List ℕ)) → List Known
known_in p ends names (command ∷ commands) (key ∷ keys) =
    known_of p (moment_of ends) names.night
    (unwrap_or (slice_get names.groups.items command.group) []) key
    ∷ known_in p ends names commands keys
known_in p ends names _ _ = []

-- The night of the plan whose facts are those that the rows of the state give.
abbrev pub night_in : State → Ends → Plan → Names → Night
night_in p ends plan names = record {
  first = plan.first;
  groups = plan.groups.items;
  commands = plan.commands.items;
  known = known_in p ends names plan.commands.items names.keys.items;
  done = map (is_over p names.night) names.groups.items;
}

-- The facts that are read from a state make up this night.
abbrev pub SeenIsShown : Type 0
SeenIsShown =
    (p : State) (ends : Ends) (plan : Plan) (names : Names) (facts : Facts)
    → AreNames plan names → IsSeen p ends plan names facts
    → night plan facts ≡ night_in p ends plan names

-- ---- one event

-- Task n belongs to command c of the plan and to no other command, and no later task is a try of
-- this command.
pub record IsOfCommand (p : State) (names : Names) (commands : List Command) (n c : ℕ)
    : Type 0 where
  pub only : (d : ℕ) (command : Command) (group key : List ℕ)
      → IsCalled names commands d command group key → is_task p names.night group key n ≡ (c == d)
  pub last : (d : ℕ) (command : Command) (group key : List ℕ)
      → IsCalled names commands d command group key → IsLast p names.night group key n

-- A start is the turn in which the command of the task begins.
abbrev pub StartsAreTurns : Type 0
StartsAreTurns =
    (p : State) (ends : Ends) (plan : Plan) (names : Names) (n c now : ℕ) (sizes : List ℕ)
    → AreNames plan names → has_stage is_fresh p.work n ≡ true
    → IsOfCommand p names plan.commands.items n c
    → night_in (step p (event.Start n)) ends plan names
    ≡ after_turn (night_in p ends plan names) (Begin now sizes (c ∷ []))

-- What begins in two turns at one moment may as well begin in one.
abbrev pub BeginsJoin : Type 0
BeginsJoin =
    (n : Night) (now : ℕ) (sizes first second : List ℕ)
    → after_turn (after_turn n (Begin now sizes first)) (Begin now sizes second)
    ≡ after_turn n (Begin now sizes (first ++ second))

-- This event begins command c: it is the start of a task of the command.
pub record IsBegin (p : State) (names : Names) (commands : List Command) (e : Event) (c : ℕ)
    : Type 0 where
  pub task : ℕ
  pub starts : e ≡ event.Start task
  pub fresh : has_stage is_fresh p.work task ≡ true
  pub of : IsOfCommand p names commands task c

-- This event is no turn: it leaves the tree as it is, and isn't the start or the end of a task.
pub record IsNoTurn (p : State) (e : Event) : Type 0 where
  pub numbered : AreNumbered p
  pub same : (step p e).tree ≡ p.tree
  pub no_start : is_start e ≡ false
  pub no_finish : is_finish e ≡ false
  pub no_restart : is_restart e ≡ false

-- Each event of the row begins the command that is paired with it. It is no turn if none does.
abbrev pub AreBegins : State → Names → List Command → List (Event × Option ℕ) → Type 0
AreBegins p names commands [] = Unit {0}
AreBegins p names commands ((e, Some c) ∷ row) =
    IsBegin p names commands e c × AreBegins (step p e) names commands row
AreBegins p names commands ((e, None) ∷ row) =
    IsNoTurn p e × AreBegins (step p e) names commands row

-- A row of such events is the one turn in which all these commands begin.
abbrev pub RowsAreOneTurn : Type 0
RowsAreOneTurn =
    (p : State) (ends : Ends) (plan : Plan) (names : Names) (row : List (Event × Option ℕ))
    (now : ℕ) (sizes : List ℕ)
    → AreNames plan names → AreBegins p names plan.commands.items row
    → night_in (fold step p (map (λ part. part.0) row)) ends plan names
    ≡ after_turn (night_in p ends plan names)
    (Begin now sizes (filter_map (λ part. part.1) row))

-- A finish is the turn in which the command of the task ends, if the task's group is bare. The
-- moment of the end becomes known.
abbrev pub FinishesAreTurns : Type 0
FinishesAreTurns =
    (p : State) (old new : Ends) (plan : Plan) (names : Names) (n c : ℕ) (outcome : Outcome)
    → AreNames plan names → has_stage is_running p.work n ≡ true → counts (stage_of outcome) ≡ true
    → own_scope p.work (group_of_task p.work n) ≡ None
    → ((m : ℕ) → m ≢ n → moment_of new m ≡ moment_of old m)
    → IsOfCommand p names plan.commands.items n c
    → night_in (step p (event.Finish n outcome)) new plan names
    ≡ after_turn (night_in p old plan names) (end_of c (moment_of new n) outcome)

-- A task that is started and then withdrawn is no turn, if the task's group is bare.
abbrev pub WithdrawalsAreNoTurns : Type 0
WithdrawalsAreNoTurns =
    (p : State) (ends : Ends) (plan : Plan) (names : Names) (n : ℕ)
    → AreNames plan names → has_stage is_fresh p.work n ≡ true
    → own_scope p.work (group_of_task p.work n) ≡ None
    → night_in (step (step p (event.Start n))
    (event.Finish n (outcome.Failure (codes "withdrawn")))) ends plan names
    ≡ night_in p ends plan names

-- These groups of the plan, and no others, pass the test with their last scopes.
abbrev pub AreThose : State → Names → (ℕ → Bool) → List ℕ → Type 0
AreThose p names test stopped =
    (g : ℕ) (group : List ℕ) → slice_get names.groups.items g ≡ Some group
    → of_last p names.night group test ≡ is_among g stopped

-- A cancel is a turn for each group that it stops.
abbrev pub CancelsAreTurns : Type 0
CancelsAreTurns =
    (p : State) (ends : Ends) (plan : Plan) (names : Names) (s : ℕ) (cause : Option (List ℕ))
    (stopped : List ℕ)
    → AreNames plan names → AreNumbered p
    → AreThose p names (λ last. is_on s (chain p.tree.scopes last)) stopped
    → night_in (step p (event.Cancel s cause)) ends plan names
    ≡ after_all (night_in p ends plan names) (map Stop stopped)

-- A clock that moves is a turn for each group whose deadline has come.
abbrev pub AdvancesAreTurns : Type 0
AdvancesAreTurns =
    (p : State) (ends : Ends) (plan : Plan) (names : Names) (moment : ℕ) (stopped : List ℕ)
    → AreNames plan names → AreNumbered p → AreThose p names (has_come p moment) stopped
    → night_in (step p (event.Advance moment)) ends plan names
    ≡ after_all (night_in p ends plan names) (map Stop stopped)

-- A failure in a group with a scope of its own is the turn in which the command of the task ends,
-- and then a turn for each group that it stops.
abbrev pub FailuresAreTurns : Type 0
FailuresAreTurns =
    (p : State) (old new : Ends) (plan : Plan) (names : Names) (n c s : ℕ) (error : List ℕ)
    (stopped : List ℕ)
    → AreNames plan names → has_stage is_running p.work n ≡ true
    → counts (stage_of (outcome.Failure error)) ≡ true
    → own_scope p.work (group_of_task p.work n) ≡ Some s
    → ((m : ℕ) → m ≢ n → moment_of new m ≡ moment_of old m)
    → IsOfCommand p names plan.commands.items n c
    → AreThose p names (λ last. is_on s (chain p.tree.scopes last)) stopped
    → night_in (step p (event.Finish n (outcome.Failure error))) new plan names
    ≡ after_all (after_turn (night_in p old plan names)
    (end_of c (moment_of new n) (outcome.Failure error))) (map Stop stopped)

-- A new scope is no turn, if the groups of the plan whose last one it becomes were as its parent
-- is: done, or not done.
abbrev pub DerivesAreNoTurns : Type 0
DerivesAreNoTurns =
    (p : State) (ends : Ends) (plan : Plan) (names : Names) (name : List ℕ) (parent : ℕ)
    (kind : Kind) → AreNames plan names → AreNumbered p → parent < length p.tree.scopes
    → ((g : ℕ) (group : List ℕ) → slice_get names.groups.items g ≡ Some group
    → (takes_cause kind && (belongs group name && is_same (night_of p parent) names.night)) ≡ true
    → is_over p names.night group ≡ is_done p.tree.scopes parent)
    → night_in (step p (event.Derive name parent kind)) ends plan names ≡ night_in p ends plan names

-- Each other event that doesn't change the tree is no turn. A restart isn't such an event.
abbrev pub OthersAreNoTurns : Type 0
OthersAreNoTurns =
    (p : State) (e : Event) (ends : Ends) (plan : Plan) (names : Names)
    → AreNames plan names → AreNumbered p → (step p e).tree ≡ p.tree
    → is_start e ≡ false → is_finish e ≡ false → is_restart e ≡ false
    → night_in (step p e) ends plan names ≡ night_in p ends plan names

-- No group has a scope of its own.
abbrev pub AreBare : WorkState → Type 0
AreBare w = (g : ℕ) → own_scope w g ≡ None

-- What an opening finds is what `night_plan` lets a session begin with, if all groups are bare.
abbrev pub OpeningsReopen : Type 0
OpeningsReopen =
    (p : State) (ends : Ends) (plan : Plan) (names : Names)
    → AreNames plan names → AreBare p.work
    → night_in (step p event.Restart) ends plan names ≡ restarted (night_in p ends plan names)

-- A task of a command of the plan belongs to no other command, if the names are distinct.
abbrev pub TasksAreOfOneCommand : Type 0
TasksAreOfOneCommand =
    (p : State) (plan : Plan) (names : Names) (n c : ℕ) (command : Command) (group key : List ℕ)
    → AreDistinct plan names → IsCalled names plan.commands.items c command group key
    → is_task p names.night group key n ≡ true
    → (d : ℕ) (other : Command) (in_group of_key : List ℕ)
    → IsCalled names plan.commands.items d other in_group of_key
    → is_task p names.night in_group of_key n ≡ (c == d)
