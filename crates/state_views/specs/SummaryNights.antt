-- Examples of a summary: the lines that a user types into a newly opened store, and the summary
-- that is printed afterwards.
use Prim.Native.String.{String}
use Rattle.std.specs.Prelude.{◌≡◌, List, [], ◌∷◌, ◌++◌, codes}
use Rattle.std.specs.List.{flat_map}
use Rattle.console_lines.specs.Nights.{Night, session_of}
use Rattle.state_views.specs.Summaries.{summary_text}

-- After these lines the summary has these lines, each given in parts. The line of the store comes
-- first.
abbrev pub IsSummed : Night → List (List String) → Type 0
IsSummed night lines =
    summary_text (session_of night).state
    ≡ flat_map (λ parts. flat_map codes parts ++ 10 ∷ []) lines

-- The session of three tasks: each group has its tasks by phase. No scope is listed, because none
-- is done.
abbrev pub tasks_summed : List (List String)
tasks_summed =
    ("events 10; clock 0; scopes 2 of 1024; groups 2 of 128; tasks 3 of 2048" ∷ [])
    ∷ ("group 0 g unfinished 2; limit 1; waited no; error none"
    ∷ "; tasks held 1, ready 0, running 1, success 0, error 0, interrupted 0"
    ∷ "; scope 1 live; deadline none" ∷ [])
    ∷ ("group 1 h unfinished 0; limit none; waited no; error no room"
    ∷ "; tasks held 0, ready 0, running 0, success 0, error 1, interrupted 0"
    ∷ "; scope 0 live; deadline none" ∷ [])
    ∷ []

-- The canceled backup: two scopes that are done are listed. The scope of the group isn't.
abbrev pub backup_summed : List (List String)
backup_summed =
    ("events 13; clock 3600; scopes 7 of 1024; groups 1 of 128; tasks 1 of 2048" ∷ [])
    ∷ ("group 0 disks unfinished 0; limit none; waited yes; error no room"
    ∷ "; tasks held 0, ready 0, running 0, success 0, error 1, interrupted 0"
    ∷ "; scope 6 done; deadline none; err context canceled; cause no room" ∷ [])
    ∷ ("scope 2 backup cause; done; deadline none; err context canceled; cause disk full" ∷ [])
    ∷ ("scope 3 copy deadline; done; deadline 3600"
    ∷ "; err context deadline exceeded; cause too slow" ∷ [])
    ∷ []

-- A group below a deadline on a leap day.
abbrev pub leap_day : Night
leap_day =
    ("derive night root deadline 2024-02-29T12:00:00Z", "scope 1")
    ∷ ("group copies night", "group 0 scope 2")
    ∷ ("go copies copy a", "task 0 ready")
    ∷ []

abbrev pub leap_day_summed : List (List String)
leap_day_summed =
    ("events 4; clock 0; scopes 3 of 1024; groups 1 of 128; tasks 1 of 2048" ∷ [])
    ∷ ("group 0 copies unfinished 1; limit none; waited no; error none"
    ∷ "; tasks held 0, ready 1, running 0, success 0, error 0, interrupted 0"
    ∷ "; scope 2 live; deadline 1709208000 2024-02-29T12:00:00Z" ∷ [])
    ∷ []
