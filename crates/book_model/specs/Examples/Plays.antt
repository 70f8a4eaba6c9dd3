-- Steps that are played, and their replies.
use Rattle.std.specs.Prelude.{ℕ, List, [], ◌∷◌, ◌++◌, Some, codes, replicate}
use Rattle.run_model.specs.declared.answers.Reply.{Reply}
use Rattle.run_model.specs.declared.commands.Step.{Step}
use Rattle.run_model.specs.declared.commands.Wish.TheVariants.{Cancel, Cause}
use Rattle.run_model.specs.declared.faults.Fault.TheVariants.{DiskFailed, NumbersSpent}
use Rattle.run_model.specs.declared.refusals.Refusal.TheVariants.{Broken}
use Rattle.run_model.specs.declared.scopes.Kind.TheVariants as kind
use Rattle.run_model.specs.declared.tasks.Phase.TheVariants.{Ready}
use Rattle.run_model.specs.Event.{Event}
use Rattle.run_model.specs.Event as event
use Rattle.run_model.specs.Session.{Session, session_after}
use Rattle.book_model.specs.Examples.Calls.{acked, cancel, checkpoint, derive, done, faulty, flush}
use Rattle.book_model.specs.Examples.Calls.{go, group, group_made, refused, scope_made, start}
use Rattle.book_model.specs.Examples.Calls.{started, submitted}
use Rattle.book_model.specs.Examples.Nights.{new_store}

-- A scope, its child, and a cancel of the scope.
abbrev pub first_three : List Step
first_three = derive "a" "root" Cause ∷ derive "b" "a" Cancel ∷ cancel "a" "disk" ∷ []

-- Their replies.
abbrev pub three_replies : List Reply
three_replies = scope_made 1 ∷ scope_made 2 ∷ done ∷ []

-- Their events.
abbrev pub first_events : List Event
first_events =
    event.Derive (codes "a") 0 kind.Cause
    ∷ event.Derive (codes "b") 1 kind.Cancel
    ∷ event.Cancel 1 (Some (codes "disk"))
    ∷ []

-- The steps after the first flush: two scopes and a flush, a group with a task and a checkpoint,
-- the start of the task and a flush.
abbrev pub the_others : List Step
the_others =
    derive "c" "root" Cancel ∷ derive "d" "root" Cancel ∷ flush
    ∷ group "g" "root" ∷ go "g" "copy" "a" ∷ checkpoint ∷ start ∷ flush ∷ []

-- All twelve steps.
abbrev pub played : List Step
played = first_three ++ flush ∷ the_others

-- Their replies when no device call fails. The opening was event 1.
abbrev pub all_played : List Reply
all_played =
    three_replies
    ++ acked 4
    ∷ scope_made 3
    ∷ scope_made 4
    ∷ acked 6
    ∷ group_made 0 5
    ∷ submitted 0 Ready
    ∷ acked 8
    ∷ started 9 0 "copy" "a"
    ∷ acked 9
    ∷ []

-- This many steps, each refused as Broken.
abbrev pub none_after : ℕ → List Reply
none_after n = replicate n (refused Broken)

-- Their replies when the device fails in the first flush.
abbrev pub stopped_at_the_flush : List Reply
stopped_at_the_flush = three_replies ++ faulty DiskFailed ∷ none_after 8

-- Their replies when the book is broken.
abbrev pub refused_all : List Reply
refused_all = none_after 12

-- The session after the first three steps, and after all twelve.
abbrev pub after_three : Session
after_three = session_after new_store first_three

abbrev pub after_all : Session
after_all = session_after new_store played

-- The first three steps, a checkpoint and a flush.
abbrev pub two_saves : List Step
two_saves = first_three ++ checkpoint ∷ flush ∷ []

-- Their replies when no generation is left.
abbrev pub numbers_spent : List Reply
numbers_spent = three_replies ++ faulty NumbersSpent ∷ acked 4 ∷ []
