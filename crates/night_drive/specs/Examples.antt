-- A store with the rows of two nights.
use Rattle.std.specs.Prelude.{◌≡◌, ℕ, ◌+◌, false, true, List, [], ◌∷◌, Option, Some, None, codes}
use Rattle.std.specs.Prelude.{fold, map}
use Rattle.run_model.specs.declared.groups.Group.{Group}
use Rattle.run_model.specs.declared.layouts.Layout.TheVariants.{Small}
use Rattle.run_model.specs.declared.scopes.Hit.{Hit}
use Rattle.run_model.specs.declared.scopes.Kind.TheVariants as kind
use Rattle.run_model.specs.declared.scopes.Reason.TheVariants.{Canceled}
use Rattle.run_model.specs.declared.scopes.Scope.{Scope}
use Rattle.run_model.specs.declared.tasks.Outcome.TheVariants as outcome
use Rattle.run_model.specs.declared.tasks.Stage.{Stage}
use Rattle.run_model.specs.declared.tasks.Stage.TheVariants as stage
use Rattle.run_model.specs.declared.tasks.Task.{Task}
use Rattle.run_model.specs.Event.{Event}
use Rattle.run_model.specs.Event as event
use Rattle.run_model.specs.Rows.{new_group, new_scope, root}
use Rattle.run_model.specs.State.{State}
use Rattle.run_model.specs.Step.{step}
use Rattle.night_plan.specs.declared.commands.Command.{Command}
use Rattle.night_plan.specs.declared.commands.Plan.{Plan}
use Rattle.night_plan.specs.declared.facts.Known.{Known}
use Rattle.night_plan.specs.declared.facts.Phase.{Phase}
use Rattle.night_drive.specs.declared.names.Names.{Names}
use Rattle.night_drive.specs.Seen.{AreNames, known_of}

-- The scope of the tapes was canceled in the second night.
abbrev pub canceled_tapes : Hit
canceled_tapes =
    record { event = 20; moment = 2000; reason = Canceled; cause = codes "no tapes" }

-- In the first night there is a scope of all groups, and one of the disks. The second night has a
-- scope with its number, and below that one of the disks and one of the tapes. The disks also have
-- a scope with a deadline.
abbrev pub scopes : List Scope
scopes =
    root
    ∷ new_scope (codes "night") 0 kind.Cause
    ∷ new_scope (codes "disks") 1 kind.Cause
    ∷ new_scope (codes "night--2") 0 kind.Cause
    ∷ new_scope (codes "night--2--round") 3 (kind.Value (codes "night") (codes "2"))
    ∷ new_scope (codes "disks--2--until") 4 (kind.Deadline 9000 None)
    ∷ new_scope (codes "disks--2") 5 kind.Cause
    ∷ record {
      name = codes "tapes--2";
      parent = 4;
      kind = kind.Cause;
      hit = Some canceled_tapes;
    }
    ∷ []

-- The disks of the first night, the disks of the second one, its tapes, and a second group of its
-- disks.
abbrev pub groups : List Group
groups =
    new_group (codes "disks") 2 true
    ∷ new_group (codes "disks--2") 6 true
    ∷ new_group (codes "tapes--2") 7 true
    ∷ new_group (codes "disks--2-2") 6 true
    ∷ []

-- A task of a group with this key.
abbrev pub task_of : (group : ℕ) → (key : List ℕ) → Stage → Task
task_of group key stage = record {
  group = group;
  job = codes "sh";
  argument = key;
  stage = stage;
  retry_of = None;
}

-- In the first night `a` succeeded, and `b` failed. In the second one `a` failed twice. `b` was
-- interrupted, and a later task of it was withdrawn. The tapes' `a` was canceled. `c` is running,
-- in the second group of the disks. A task of `d` was submitted, and not started.
abbrev pub tasks : List Task
tasks =
    task_of 0 (codes "a") stage.Success
    ∷ task_of 0 (codes "b") (stage.Failure (codes "exit 1"))
    ∷ task_of 1 (codes "a") (stage.Failure (codes "exit 3"))
    ∷ task_of 1 (codes "b") stage.Interrupted
    ∷ task_of 1 (codes "a") (stage.Failure (codes "exit 4"))
    ∷ task_of 1 (codes "b") (stage.Failure (codes "withdrawn"))
    ∷ task_of 2 (codes "a") (stage.Failure (codes "canceled: no tapes"))
    ∷ task_of 3 (codes "c") stage.Running
    ∷ task_of 3 (codes "d") stage.Fresh
    ∷ []

abbrev pub two_nights : State
two_nights = record {
  count = 30;
  tree = record { layout = Small; clock = 2000; scopes = scopes };
  work = record { layout = Small; groups = groups; tasks = tasks };
}

-- The first night of a store has no number, and the second one has the number 2.
abbrev pub first : Option (List ℕ)
first = None

abbrev pub second : Option (List ℕ)
second = Some (codes "2")

-- Task n ended, or will have ended, at 1000 + n.
abbrev pub moments : ℕ → ℕ
moments n = 1000 + n

-- The facts about a command.
abbrev pub known_in : (night : Option (List ℕ)) → (group key : List ℕ) → Known
known_in night group key = known_of two_nights moments night group key

-- The facts about it in the second night, after an event.
abbrev pub known_after : Event → (group key : List ℕ) → Known
known_after e group key = known_of (step two_nights e) moments second group key

-- The state after these events.
abbrev pub after_all : List Event → State
after_all events = fold step two_nights events

-- There is a group with a scope of its own, and a new scope of the disks stands below that. A task
-- of this group, task 9, is running.
abbrev pub own_group : State
own_group =
    after_all (event.Group (codes "all") 4 ∷ event.Derive (codes "disks--2-3") 8 kind.Cause
    ∷ event.Go 4 (codes "sh") (codes "x") ∷ event.Start 8 ∷ event.Start 9 ∷ [])

-- Task n is withdrawn.
abbrev pub withdrawal : ℕ → Event
withdrawal n = event.Finish n (outcome.Failure (codes "withdrawn"))

-- A command that is in this phase, and has failed this many times.
abbrev pub row : Phase → (failures : ℕ) → Known
row phase failures = record { phase = phase; failures = failures; canceled = false }

-- A plan of four commands, and their names in the second night: a, d and e of the disks, and d of
-- the tapes.
pub record AreFour (plan : Plan) (names : Names) : Type 0 where
  pub named : AreNames plan names
  pub groups_of : map (λ (command : Command). command.group) plan.commands.items
      ≡ 0 ∷ 0 ∷ 0 ∷ 1 ∷ []
  pub groups : names.groups.items ≡ codes "disks" ∷ codes "tapes" ∷ []
  pub keys : names.keys.items ≡ codes "a" ∷ codes "d" ∷ codes "e" ∷ codes "d" ∷ []
  pub night : names.night ≡ second

-- A task of e is submitted, and then the tasks of d and of e are started.
abbrev pub row_of_two : List (Event × Option ℕ)
row_of_two =
    (event.Go 3 (codes "sh") (codes "e"), None)
    ∷ (event.Start 8, Some 1) ∷ (event.Start 9, Some 2) ∷ []
