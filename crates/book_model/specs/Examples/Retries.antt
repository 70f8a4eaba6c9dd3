-- Interrupted tasks that are retried.
use Rattle.std.specs.Prelude.{ℕ, Bool, true, [], ◌∷◌, Option, None, codes, replicate}
use Rattle.run_model.specs.declared.layouts.Layout.TheVariants.{Small}
use Rattle.run_model.specs.declared.refusals.Refusal.TheVariants as refusal
use Rattle.run_model.specs.declared.tasks.Phase.TheVariants as phase
use Rattle.run_model.specs.declared.tasks.Stage.{Stage}
use Rattle.run_model.specs.Event.{Restart}
use Rattle.run_model.specs.Rows.{new_group, new_task}
use Rattle.run_model.specs.State.{new_tree}
use Rattle.run_model.specs.Step.{step}
use Rattle.run_model.specs.Session.{Session, begun_at, session_after}
use Rattle.book_model.specs.Examples.Calls.{retry, start, finish, submitted, started_late, finished}
use Rattle.book_model.specs.Examples.Calls.{refused}
use Rattle.book_model.specs.Examples.Nights.{Night, steps_of, crashed_night, state_of}

-- The session after an opening of what this session left.
abbrev pub opened_again : Session → Session
opened_again s = begun_at (step s.state Restart)

-- The session after these steps, beginning with this one.
abbrev pub after_night : Session → Night → Session
after_night s night = session_after s (steps_of night)

-- A store in whose group, which has a limit of 1, the first task was interrupted and the second one
-- is ready.
abbrev pub one_interrupted : Session
one_interrupted = begun_at (step (state_of crashed_night) Restart)

-- The interrupted task is retried once. Of two other tasks one wasn't interrupted, and one doesn't
-- exist.
abbrev pub retried_once : Night
retried_once =
    (retry 0, submitted 2 phase.Held)
    ∷ (retry 0, refused refusal.AlreadyRetried)
    ∷ (retry 1, refused refusal.NotInterrupted)
    ∷ (retry 2, refused refusal.NotInterrupted)
    ∷ (retry 3, refused refusal.NoSuchTask)
    ∷ []

-- The store after its first task was retried.
abbrev pub retried_store : Session
retried_store = after_night one_interrupted retried_once

-- The retry is started after the task before it.
abbrev pub retry_started : Night
retry_started =
    (start, started_late 9 1 "copy" "b")
    ∷ (finish 1, finished 10)
    ∷ (start, started_late 11 2 "copy" "a")
    ∷ []

-- The retry was interrupted itself, and is retried.
abbrev pub retried_again : Night
retried_again =
    (retry 0, refused refusal.AlreadyRetried)
    ∷ (retry 2, submitted 3 phase.Ready)
    ∷ (retry 2, refused refusal.AlreadyRetried)
    ∷ []

-- A group with two tasks and `more` others, and a log of this many bytes. The first task is at this
-- stage, and the second one has this link. No store can keep some of these states, but the
-- definitions cover them all.
abbrev pub two_tasks : (waited : Bool) → Stage → (link : Option ℕ) → (more log : ℕ) → Session
two_tasks waited stage link more log = record (begun_at (record {
  count = 1;
  tree = new_tree Small;
  work = record {
    layout = Small;
    groups = record (new_group (codes "g") 0 true) { waited = waited } ∷ [];
    tasks = record (new_task 0 (codes "copy") (codes "a") None) { stage = stage }
        ∷ new_task 0 (codes "copy") (codes "a") link
        ∷ replicate more (new_task 0 (codes "spin") (codes "1") None);
  };
})) { log = log }
