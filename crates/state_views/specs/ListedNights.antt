-- An example of a list of tasks: the lines that a user types into a newly opened store, and the
-- tasks that are listed afterwards.
use Prim.Native.String.{String}
use Rattle.std.specs.Prelude.{◌≡◌, ℕ, List, [], ◌∷◌, codes, Option}
use Rattle.state_views.specs.Listed.{listed}
use Rattle.console_lines.specs.Nights.{Night, session_of}

-- In a group with a limit of 1, one task is running and one is held. In a bare group, a task has
-- failed.
abbrev pub three_tasks : Night
three_tasks =
    ("group g root", "group 0 scope 1")
    ∷ ("limit g 1", "ok")
    ∷ ("bare h root", "group 1")
    ∷ ("go g copy a", "task 0 ready")
    ∷ ("go g copy b", "task 1 held")
    ∷ ("go h mail c", "task 2 ready")
    ∷ ("start", "start 0 copy a")
    ∷ ("start", "start 2 mail c")
    ∷ ("finish 2 error no room", "ok")
    ∷ []

-- After these lines, these tasks are listed.
abbrev pub IsListed : (phase group : Option (List ℕ)) → String → Type 0
IsListed phase group text = listed phase group (session_of three_tasks).state ≡ codes text
