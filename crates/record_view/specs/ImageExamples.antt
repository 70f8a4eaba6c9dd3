-- The image of a short session, byte by byte.
use Rattle.std.specs.Prelude.{ℕ, List, [], ◌∷◌, ◌++◌, Some, codes}
use Rattle.run_model.specs.declared.scopes.Kind.TheVariants as kind
use Rattle.run_model.specs.Event.{Event}
use Rattle.run_model.specs.Event as event

-- A restart, a scope, its child, and a cancel of the scope.
abbrev pub one_cancelled : List Event
one_cancelled =
    event.Restart
    ∷ event.Derive (codes "a") 0 kind.Cause
    ∷ event.Derive (codes "b") 1 kind.Cancel
    ∷ event.Cancel 1 (Some (codes "disk"))
    ∷ []

-- The head after its version: clock 0, four events, two scopes, no group and no task.
abbrev pub head_part : List ℕ
head_part =
    0 ∷ 0 ∷ 0 ∷ 0 ∷ 0 ∷ 0 ∷ 0 ∷ 0 ∷ 0 ∷ 0 ∷ 0 ∷ 0 ∷ 0 ∷ 0 ∷ 0 ∷ 4 ∷ 0 ∷ 2 ∷ 0 ∷ 0 ∷ 0 ∷ 0 ∷ []

-- Scope a, which was canceled by event 4.
abbrev pub a_part : List ℕ
a_part =
    1 ∷ 97 ∷ 0 ∷ 0 ∷ 2 ∷ 1 ∷ 0 ∷ 0 ∷ 0 ∷ 0 ∷ 0 ∷ 0 ∷ 0 ∷ 4 ∷ 0 ∷ 0 ∷ 0 ∷ 0 ∷ 0 ∷ 0 ∷ 0 ∷ 0 ∷ 1
    ∷ 4 ∷ 100 ∷ 105 ∷ 115 ∷ 107 ∷ []

-- Scope b, which is below a, and has no hit of its own.
abbrev pub b_part : List ℕ
b_part = 1 ∷ 98 ∷ 0 ∷ 1 ∷ 1 ∷ 0 ∷ []

-- The image without its version.
abbrev pub one_cancelled_part : List ℕ
one_cancelled_part = head_part ++ a_part ++ b_part

-- A session with a retry: a group, a task that is running when the program crashes, and its retry.
abbrev pub one_retried : List Event
one_retried =
    event.Restart
    ∷ event.Bare (codes "g") 0
    ∷ event.Go 0 (codes "copy") (codes "a")
    ∷ event.Start 0
    ∷ event.Restart
    ∷ event.Retry 0
    ∷ []

-- Its head: six events, no scope except root, a group and two tasks.
abbrev pub retried_head : List ℕ
retried_head =
    2 ∷ 0 ∷ 0 ∷ 0 ∷ 0 ∷ 0 ∷ 0 ∷ 0 ∷ 0 ∷ 0 ∷ 0 ∷ 0 ∷ 0 ∷ 0 ∷ 0 ∷ 0 ∷ 6 ∷ 0 ∷ 0 ∷ 0 ∷ 1 ∷ 0 ∷ 2 ∷ []

-- The group: it is bare, in root, has no limit, wasn't waited for, and its error is `interrupted`.
abbrev pub retried_group : List ℕ
retried_group = 1 ∷ 103 ∷ 0 ∷ 0 ∷ 1 ∷ 255 ∷ 0 ∷ 11 ∷ codes "interrupted"

-- Both tasks: the first one was interrupted, and the second one is its retry.
abbrev pub retried_tasks : List ℕ
retried_tasks =
    0 ∷ 0 ∷ 4 ∷ 99 ∷ 111 ∷ 112 ∷ 121 ∷ 1 ∷ 97 ∷ 4 ∷ 255 ∷ 255
    ∷ 0 ∷ 0 ∷ 4 ∷ 99 ∷ 111 ∷ 112 ∷ 121 ∷ 1 ∷ 97 ∷ 0 ∷ 0 ∷ 0 ∷ []
