-- The examples: states before their renewal, and the rows that are left after it.
use Prim.Native.String.{String}
use Rattle.std.specs.Prelude.{ℕ, true, false, List, [], ◌∷◌, Option, Some, None, codes}
use Rattle.run_model.specs.declared.layouts.Layout.TheVariants.{Small}
use Rattle.run_model.specs.declared.scopes.Kind.{Kind}
use Rattle.run_model.specs.declared.scopes.Kind.TheVariants as kind
use Rattle.run_model.specs.declared.scopes.Reason.TheVariants.{Canceled}
use Rattle.run_model.specs.declared.scopes.Scope.{Scope}
use Rattle.run_model.specs.declared.groups.Group.{Group}
use Rattle.run_model.specs.declared.tasks.Stage.{Stage}
use Rattle.run_model.specs.declared.tasks.Stage.TheVariants as stage
use Rattle.run_model.specs.declared.tasks.Task.{Task}
use Rattle.run_model.specs.Rows.{root}
use Rattle.run_model.specs.State.{State}

-- ---- rows, written briefly

-- A small store after nine events, with its clock at 7.
abbrev pub state : List Scope → List Group → List Task → State
state scopes groups tasks = record {
  count = 9;
  tree = record { layout = Small; clock = 7; scopes = scopes };
  work = record { layout = Small; groups = groups; tasks = tasks };
}

-- A scope without a hit.
abbrev pub live : String → ℕ → Kind → Scope
live name parent kind = record { name = codes name; parent = parent; kind = kind; hit = None }

-- A scope that was canceled by event 5 at moment 6, with this cause.
abbrev pub ended : String → ℕ → Kind → String → Scope
ended name parent kind cause = record (live name parent kind) {
  hit = Some (record { event = 5; moment = 6; reason = Canceled; cause = codes cause });
}

-- A group with a limit of 2, in its own scope, that wasn't waited for.
abbrev pub unwaited : String → ℕ → Option String → Group
unwaited name scope None = record {
  name = codes name;
  scope = scope;
  bare = false;
  limit = Some 2;
  waited = false;
  error = None;
}
unwaited name scope (Some error) = record {
  name = codes name;
  scope = scope;
  bare = false;
  limit = Some 2;
  waited = false;
  error = Some (codes error);
}

-- A group that was waited for.
abbrev pub waited : String → ℕ → Group
waited name scope = record (unwaited name scope None) { waited = true }

-- The same group, but bare.
abbrev pub bare : Group → Group
bare group = record group { bare = true }

-- A task of this group, at this stage.
abbrev pub task : ℕ → String → Stage → Option ℕ → Task
task group argument stage retry_of = record {
  group = group;
  job = codes "copy";
  argument = codes argument;
  stage = stage;
  retry_of = retry_of;
}

-- ---- a finished run

abbrev pub finished_night : State
finished_night =
    state (root ∷ ended "g" 0 kind.Group "context canceled" ∷ [])
    (waited "g" 1 ∷ [])
    (task 0 "a" stage.Success None ∷ task 0 "b" stage.Success None ∷ [])

-- ---- a live scope below a detached one, in a scope that is done

abbrev pub detached_part : State
detached_part =
    state (root ∷ live "z" 0 kind.Cancel ∷ ended "y" 0 kind.Cancel "no"
    ∷ ended "a" 0 kind.Cause "stop" ∷ live "b" 3 kind.Cancel
    ∷ live "d" 3 kind.Detached ∷ live "c" 5 kind.Cancel ∷ []) [] []

-- Scope y is dropped, and so is b, which is done because a is. Scope a stays, since it is above d.
abbrev pub detached_part_left : State
detached_part_left =
    state (root ∷ live "z" 0 kind.Cancel ∷ ended "a" 0 kind.Cause "stop" ∷ live "d" 2 kind.Detached
    ∷ live "c" 3 kind.Cancel ∷ []) [] []

-- ---- a retry next to a group that is dropped

abbrev pub retried : State
retried =
    state (root ∷ ended "h" 0 kind.Group "context canceled"
    ∷ ended "g" 0 kind.Group "interrupted" ∷ [])
    (waited "h" 1 ∷ unwaited "g" 2 (Some "interrupted") ∷ [])
    (task 0 "a" stage.Success None ∷ task 1 "b" stage.Interrupted None
    ∷ task 0 "c" stage.Success None ∷ task 1 "b" stage.Interrupted (Some 1)
    ∷ task 1 "b" stage.Fresh (Some 3) ∷ [])

-- Group h is dropped with tasks 0 and 2. The other tasks get the numbers 0, 1 and 2, and so do the
-- links to them.
abbrev pub retried_left : State
retried_left =
    state (root ∷ ended "g" 0 kind.Group "interrupted" ∷ [])
    (unwaited "g" 1 (Some "interrupted") ∷ [])
    (task 0 "b" stage.Interrupted None ∷ task 0 "b" stage.Interrupted (Some 0)
    ∷ task 0 "b" stage.Fresh (Some 1) ∷ [])

-- ---- a group whose scope was canceled, and that wasn't waited for

abbrev pub cancelled_group : State
cancelled_group =
    state (root ∷ ended "a" 0 kind.Cause "stop" ∷ live "g" 1 kind.Group
    ∷ live "v" 2 kind.Cancel ∷ [])
    (unwaited "g" 2 None ∷ [])
    (task 0 "a" stage.Success None ∷ task 0 "b" stage.Fresh None ∷ [])

-- Scope v, which is done because a is, is dropped. Everything else stays as it was.
abbrev pub cancelled_group_left : State
cancelled_group_left =
    state (root ∷ ended "a" 0 kind.Cause "stop" ∷ live "g" 1 kind.Group ∷ [])
    (unwaited "g" 2 None ∷ [])
    (task 0 "a" stage.Success None ∷ task 0 "b" stage.Fresh None ∷ [])

-- ---- a group that was waited for, with a live scope below its own

abbrev pub waited_above : State
waited_above =
    state (root ∷ ended "f" 0 kind.Group "context canceled"
    ∷ ended "g" 0 kind.Group "context canceled"
    ∷ live "d" 2 kind.Detached ∷ [])
    (waited "f" 1 ∷ waited "g" 2 ∷ [])
    (task 1 "a" stage.Success None ∷ task 0 "b" stage.Success None ∷ [])

-- Group f is dropped. Group g stays with its scope and its task, since scope d below its scope is
-- live.
abbrev pub waited_above_left : State
waited_above_left =
    state (root ∷ ended "g" 0 kind.Group "context canceled" ∷ live "d" 1 kind.Detached ∷ [])
    (waited "g" 1 ∷ [])
    (task 0 "a" stage.Success None ∷ [])

-- ---- bare groups

abbrev pub bare_groups : State
bare_groups =
    state (root ∷ live "a" 0 kind.Cancel ∷ ended "b" 0 kind.Cancel "stop"
    ∷ ended "c" 0 kind.Cancel "x" ∷ [])
    (bare (waited "f" 1) ∷ bare (unwaited "g" 3 None) ∷ [])
    (task 0 "a" stage.Success None ∷ task 1 "b" stage.Success None ∷ [])

-- Group f is dropped, and its live scope stays. Scope b is dropped. Scope c is done, but stays,
-- since it is the scope of group g.
abbrev pub bare_groups_left : State
bare_groups_left =
    state (root ∷ live "a" 0 kind.Cancel ∷ ended "c" 0 kind.Cancel "x" ∷ [])
    (bare (unwaited "g" 2 None) ∷ [])
    (task 0 "b" stage.Success None ∷ [])
