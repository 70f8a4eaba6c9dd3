-- A task whose first turn was cut off by a crash, and its retry.
use Rattle.std.specs.Prelude.{◌∷◌, [], ℕ, Bool, true, List, Ok, codes}
use Rattle.run_model.specs.declared.answers.Reply.TheVariants as reply
use Rattle.run_model.specs.declared.answers.Started.{Started}
use Rattle.run_model.specs.declared.answers.TaskInfo.{TaskInfo}
use Rattle.run_model.specs.declared.layouts.Layout.TheVariants.{Small}
use Rattle.run_model.specs.declared.tasks.Phase.TheVariants.{Ready}
use Rattle.run_model.specs.Session.{opened, session_after}
use Rattle.run_model.specs.State.{State}
use Rattle.book_model.specs.Examples.Calls.{acked, flush, go, group, retry, start}
use Rattle.book_model.specs.Examples.Calls.{submitted}
use Rattle.book_model.specs.Machines.{Running, opened_at, took}
use Rattle.book_model.specs.ManyNights.{Night, Spent}
use Rattle.book_model.specs.Nights.{opened_from}
use Rattle.run_crew.specs.declared.jobs.Turn.TheVariants.{Finished}
use Rattle.run_crew.specs.Courses.{Gate, Handles, Make, Save, Scope, Start}
use Rattle.crew_laws.specs.Nights.{Deed, Did, Flushed}

-- A store with one group and one ready task, `copy a`.
abbrev pub loaded : State
loaded = (session_after (opened Small) (group "disks" "root" ∷ go "disks" "copy" "a" ∷ [])).state

-- The task with this number, which does the same job.
abbrev pub info_of : ℕ → TaskInfo
info_of task = record { task = task; job = codes "copy"; argument = codes "a" }

-- Its start, by the event with this number.
abbrev pub start_of : ℕ → ℕ → Bool → Started
start_of event task done = record { event = event; info = info_of task; done = done }

-- A night, up to the first turn of a task: worker 0 starts it, the start is flushed, the first of
-- the worker's jobs handles it, the gate lets the turn pass, and the turn ends the task. Then the
-- power fails, before the worker could finish the task.
abbrev pub up_to_turn : ℕ → ℕ → Bool → List Deed
up_to_turn event task done =
    Did 0 (Start (Ok (start_of event task done)))
    ∷ Flushed (acked event)
    ∷ Did 0 (Save event (Ok event))
    ∷ Did 0 (Handles 0 (codes "copy") true)
    ∷ Did 0 (Gate task 0 true)
    ∷ Did 0 (Scope task done)
    ∷ Did 0 (Make 0 (info_of task) 0 done Finished)
    ∷ []

-- What the first night leaves: the task is running.
abbrev pub left : State
left = (session_after (opened_from loaded) (start ∷ [])).state

-- A session in which the interrupted task is retried.
abbrev pub retry_session : Night
retry_session = Spent ((retry 0, submitted 1 Ready) ∷ (flush, acked 7) ∷ []) []

-- What it leaves.
abbrev pub retried : State
retried = (session_after (opened_from left) (retry 0 ∷ [])).state

-- The machine after the start and the flush of a night over a store with this state.
abbrev pub after_start : State → ℕ → ℕ → Bool → Running
after_start p event task done =
    took (took (opened_at p) start (reply.Started (start_of event task done))) flush (acked event)
