-- Sessions whose log is nearly full, and lists of steps with saves among them.
use Rattle.std.specs.Prelude.{ℕ, List, [], ◌∷◌}
use Rattle.run_model.specs.declared.commands.Wish.TheVariants.{Cause}
use Rattle.run_model.specs.declared.commands.Step.{Step}
use Rattle.run_model.specs.declared.answers.Reply.{Reply}
use Rattle.run_model.specs.declared.faults.Fault.TheVariants.{DiskFailed, NumbersSpent}
use Rattle.run_model.specs.declared.refusals.Refusal.TheVariants.{Broken}
use Rattle.run_model.specs.Session.{Session, session_after}
use Rattle.book_model.specs.Examples.Nights.{new_store}
use Rattle.book_model.specs.Examples.Calls.{group, go, wait, start, finish, derive, cancel, advance}
use Rattle.book_model.specs.Examples.Calls.{flush, checkpoint, scope_made, done, refused, acked}
use Rattle.book_model.specs.Examples.Calls.{faulty}

-- The session after these steps, if its log had this many bytes.
abbrev pub with_log : ℕ → List Step → Session
with_log log steps = record (session_after new_store steps) { log = log }

-- One task is ready, and none is running.
abbrev pub one_ready : List Step
one_ready = group "g" "root" ∷ go "g" "copy" "a" ∷ []

-- One task is ready, and one is running.
abbrev pub one_running : List Step
one_running = group "g" "root" ∷ go "g" "copy" "a" ∷ go "g" "copy" "b" ∷ start ∷ []

-- A group was waited for.
abbrev pub one_waited : List Step
one_waited = group "g" "root" ∷ wait "g" ∷ []

abbrev pub start_alone : List Step
start_alone = start ∷ []

abbrev pub start_and_finish : List Step
start_and_finish = start ∷ finish 0 ∷ []

-- The wait is a repeated one.
abbrev pub wait_and_advance : List Step
wait_and_advance = wait "g" ∷ advance 1 ∷ []

-- Two flushes, with a checkpoint between them.
abbrev pub three_saves : List Step
three_saves =
    derive "a" "root" Cause
    ∷ flush
    ∷ cancel "a" "x"
    ∷ checkpoint
    ∷ advance 7
    ∷ flush
    ∷ advance 8
    ∷ []

-- No save meets a fault.
abbrev pub all_saved : List Reply
all_saved = scope_made 1 ∷ acked 2 ∷ done ∷ acked 3 ∷ done ∷ acked 4 ∷ done ∷ []

-- The checkpoint finds the store's numbers used up, which changes nothing.
abbrev pub checkpoint_refused : List Reply
checkpoint_refused =
    scope_made 1 ∷ acked 2 ∷ done ∷ faulty NumbersSpent ∷ done ∷ acked 4 ∷ done ∷ []

-- The device fails in the checkpoint, and the book is broken.
abbrev pub device_failed : List Reply
device_failed =
    scope_made 1
    ∷ acked 2
    ∷ done
    ∷ faulty DiskFailed
    ∷ refused Broken
    ∷ refused Broken
    ∷ refused Broken
    ∷ []
