-- The examples: what happens to a store after its renewal, and what is left of it then.
use Rattle.std.specs.Prelude.{List, [], ◌∷◌, Some, None, codes}
use Rattle.run_model.specs.declared.layouts.Layout.TheVariants.{Small}
use Rattle.run_model.specs.declared.scopes.Kind.TheVariants as kind
use Rattle.run_model.specs.declared.scopes.Reason.TheVariants.{DeadlineExceeded}
use Rattle.run_model.specs.declared.tasks.Outcome.TheVariants as outcome
use Rattle.run_model.specs.declared.tasks.Stage.TheVariants as stage
use Rattle.run_model.specs.Event.{Event}
use Rattle.run_model.specs.Event as event
use Rattle.run_model.specs.Rows.{root}
use Rattle.run_model.specs.State.{State}
use Rattle.state_renewal.specs.Examples.{ended, task, unwaited}

-- ---- a day after a renewal, on which group 1 and task 4 go on

-- Task 4 is started, and a restart interrupts it. It is retried, and another task is submitted
-- after it. A deadline is set, and passes.
abbrev pub day : List Event
day =
    event.Start 4 ∷ event.Derive (codes "t") 2 (kind.Deadline 9 None) ∷ event.Restart
    ∷ event.Retry 4 ∷ event.Advance 9 ∷ event.Go 1 (codes "copy") (codes "d") ∷ []

-- The same events by the new numbers: group 0 was dropped, with its scope 1 and its tasks 0 and 2.
abbrev pub day_renumbered : List Event
day_renumbered =
    event.Start 2 ∷ event.Derive (codes "t") 1 (kind.Deadline 9 None) ∷ event.Restart
    ∷ event.Retry 2 ∷ event.Advance 9 ∷ event.Go 0 (codes "copy") (codes "d") ∷ []

-- The deadline is that of scope 2, and passed at event 14. The new tasks are 3 and 4.
abbrev pub day_left : State
day_left = record {
  count = 15;
  tree = record {
    layout = Small;
    clock = 9;
    scopes =
        root ∷ ended "g" 0 kind.Group "interrupted"
        ∷ record {
          name = codes "t";
          parent = 1;
          kind = kind.Deadline 9 None;
          hit = Some (record {
            event = 14;
            moment = 9;
            reason = DeadlineExceeded;
            cause = codes "context deadline exceeded";
          });
        }
        ∷ [];
  };
  work = record {
    layout = Small;
    groups = unwaited "g" 1 (Some "interrupted") ∷ [];
    tasks =
        task 0 "b" stage.Interrupted None ∷ task 0 "b" stage.Interrupted (Some 0)
        ∷ task 0 "b" stage.Interrupted (Some 1) ∷ task 0 "b" stage.Fresh (Some 2)
        ∷ task 0 "d" stage.Fresh None ∷ [];
  };
}

-- ---- a first session, and a day after it

-- Group 0 is waited for after its only task. A task of group 1 is interrupted, and retried.
abbrev pub first_night : List Event
first_night =
    event.Group (codes "h") 0 ∷ event.Group (codes "g") 0
    ∷ event.Go 0 (codes "copy") (codes "a") ∷ event.Go 1 (codes "copy") (codes "b")
    ∷ event.Start 0 ∷ event.Finish 0 outcome.Success ∷ event.Start 1 ∷ event.Restart
    ∷ event.Wait 0 ∷ event.Retry 1 ∷ []

-- The retry is started, and fails. A group is made below the scope of the other one, and gets a
-- task.
abbrev pub second_day : List Event
second_day =
    event.Start 2 ∷ event.Finish 2 (outcome.Failure (codes "no room")) ∷ event.Wait 1
    ∷ event.Group (codes "k") 2 ∷ event.Go 2 (codes "copy") (codes "c") ∷ event.Start 3 ∷ []
