-- The facts about commands, counted one task after another. (For private functions: no public
-- contract cites them.)
use Rattle.std.specs.Prelude.{◌≡◌, ℕ, ◌+◌, min, Bool, true, false, if◌then◌else◌, List}
use Rattle.std.specs.Prelude.{set, slice_get, slice_index_or, Some}
use Rattle.std.specs.List.{list_any}
use Rattle.run_model.specs.declared.tasks.Stage.{Stage}
use Rattle.run_model.specs.declared.tasks.Task.{Task}
use Rattle.run_model.specs.State.{State}
use Rattle.night_plan.specs.declared.commands.Command.{Command}
use Rattle.night_plan.specs.declared.facts.Known.{Known}
use Rattle.night_drive.specs.declared.ends.Ends.{Ends}
use Rattle.night_drive.specs.declared.guessed.Owner.{Owner}
use Rattle.night_drive.specs.declared.guessed.Owner.TheVariants as owner
use Rattle.night_drive.specs.declared.names.Names.{Names}
use Rattle.night_drive.specs.Seen.{IsCalled, is_try, moment_of}
use Rattle.night_drive.specs.Tallies.{MOST, known_by, tally_of}
use Rattle.night_drive.specs.Tries.{has_failed, phase_by}

-- Task n is a try of command c of the plan.
pub record IsTryOf (p : State) (names : Names) (commands : List Command) (n c : ℕ) : Type 0 where
  pub command : Command
  pub group : List ℕ
  pub key : List ℕ
  pub called : IsCalled names commands c command group key
  pub tried : is_try p names.night group key n ≡ true

-- Task n is a try of no command of the plan.
abbrev pub IsNoTry : State → Names → List Command → (n : ℕ) → Type 0
IsNoTry p names commands n =
    (c : ℕ) (command : Command) (group key : List ℕ)
    → IsCalled names commands c command group key → is_try p names.night group key n ≡ false

-- What was found out about the command of task n is so.
abbrev pub IsOwner : State → Names → List Command → (n : ℕ) → Owner → Type 0
IsOwner p names commands n (owner.Command c) = IsTryOf p names commands n c
IsOwner p names commands n owner.Nobody = IsNoTry p names commands n
IsOwner p names commands n owner.Unknown = Unit {0}

-- A task with this key belongs to command c, if the marked groups own it.
pub record IsOf (names : Names) (commands : List Command) (owners : List Bool) (key : List ℕ)
    (c : ℕ) : Type 0 where
  pub command : Command
  pub is : slice_get commands c ≡ Some command
  pub owned : slice_index_or owners command.group false ≡ true
  pub key_is : slice_get names.keys.items c ≡ Some key

-- What was found out about the command of such a task is so.
abbrev pub IsOwnerIn : Names → List Command → (owners : List Bool) → (key : List ℕ) → Owner → Type 0
IsOwnerIn names commands owners key (owner.Command c) = IsOf names commands owners key c
IsOwnerIn names commands owners key owner.Nobody = list_any (λ owns. owns) owners ≡ false
IsOwnerIn names commands owners key owner.Unknown = Unit {0}

-- The facts with one more try, which has come to this stage and ended at this moment.
abbrev pub tried : (moment : ℕ) → Stage → Known → Known
tried moment stage fact = record {
  phase = phase_by moment stage;
  failures = if has_failed stage then min (fact.failures + 1) MOST else fact.failures;
  canceled = fact.canceled;
}

-- Task n was counted as a try of command c.
abbrev pub Tries : State → Ends → (c n : ℕ) → (old new : List Known) → Type 0
Tries p ends c n old new =
    (task : Task) (fact : Known) → slice_get p.work.tasks n ≡ Some task
    → slice_get old c ≡ Some fact → new ≡ set old c (tried (moment_of ends n) task.stage fact)

-- These are the facts about each command by the first n tasks.
abbrev pub AreCounted : (n : ℕ) → State → Ends → Names → List Command → List Known → Type 0
AreCounted n p ends names commands known =
    (c : ℕ) (command : Command) (group key : List ℕ)
    → IsCalled names commands c command group key
    → slice_get known c
    ≡ Some (known_by p (moment_of ends) (tally_of p names.night group key n))
