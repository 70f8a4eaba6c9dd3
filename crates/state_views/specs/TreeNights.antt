-- Examples of a state as a tree: the lines that a user types into a newly opened store, and the
-- tree that is drawn afterwards.
use Prim.Native.String.{String}
use Rattle.std.specs.Prelude.{◌≡◌, ℕ, zero, suc, Bool, List, [], ◌∷◌, ◌++◌, codes}
use Rattle.state_views.specs.Branches.{tree_text}
use Rattle.console_lines.specs.Nights.{Night, session_of}

-- In UTF-8: `│ `, `├─` and `└─`.
abbrev pub b : List ℕ
b = 226 ∷ 148 ∷ 130 ∷ 32 ∷ []

abbrev pub t : List ℕ
t = 226 ∷ 148 ∷ 156 ∷ 226 ∷ 148 ∷ 128 ∷ []

abbrev pub l : List ℕ
l = 226 ∷ 148 ∷ 148 ∷ 226 ∷ 148 ∷ 128 ∷ []

-- Two blanks for each level.
abbrev pub s : ℕ → List ℕ
s zero = []
s (suc levels) = 32 ∷ 32 ∷ s levels

-- Lines, one below another. Each consists of its beginning and a text.
abbrev pub below : List (List ℕ × String) → List ℕ
below [] = []
below (line ∷ lines) = line.0 ++ (codes line.1 ++ 10 ∷ below lines)

-- After these lines the tree has these lines, with or without the tasks. The line of the store
-- comes first.
abbrev pub IsDrawn : (no_tasks : Bool) → Night → List (List ℕ × String) → Type 0
IsDrawn no_tasks night lines = tree_text no_tasks (session_of night).state ≡ below lines

-- The tree of a scope of each kind, below root.
abbrev pub kinds_drawn : List (List ℕ × String)
kinds_drawn =
    ([], "events 8; clock 0; scopes 7 of 1024; groups 1 of 128; tasks 0 of 2048")
    ∷ ([], "scope 0 root root; live; deadline none")
    ∷ (l, "scope 1 v value k a\"b\\c; live; deadline none")
    ∷ (s 1 ++ l, "scope 2 x cause; done; deadline none; err context canceled; cause disk")
    ∷ (s 2 ++ l, "scope 3 d detached; live; deadline none")
    ∷ (s 3 ++ l, "scope 4 y deadline; live; deadline 100")
    ∷ (s 4 ++ l, "scope 5 z cancel; live; deadline 100")
    ∷ (s 5 ++ l, "scope 6 g group; live; deadline 100")
    ∷ (s 6 ++ l, "group 0 g unfinished 0; limit none; waited no; error none")
    ∷ []

-- The tree of the session of three tasks. A bare group is drawn below root, after the scopes there.
abbrev pub tasks_drawn : List (List ℕ × String)
tasks_drawn =
    ([], "events 10; clock 0; scopes 2 of 1024; groups 2 of 128; tasks 3 of 2048")
    ∷ ([], "scope 0 root root; live; deadline none")
    ∷ (t, "scope 1 g group; live; deadline none")
    ∷ (b ++ l, "group 0 g unfinished 2; limit 1; waited no; error none")
    ∷ (b ++ s 1 ++ t, "task 0 g copy a running")
    ∷ (b ++ s 1 ++ l, "task 1 g copy b held")
    ∷ (l, "group 1 h unfinished 0; limit none; waited no; error no room")
    ∷ (s 1 ++ l, "task 2 h mail c error no room")
    ∷ []

-- The same tree without the tasks: nothing is drawn below a group.
abbrev pub branches_drawn : List (List ℕ × String)
branches_drawn =
    ([], "events 10; clock 0; scopes 2 of 1024; groups 2 of 128; tasks 3 of 2048")
    ∷ ([], "scope 0 root root; live; deadline none")
    ∷ (t, "scope 1 g group; live; deadline none")
    ∷ (
      b ++ (l ++ codes "group 0 g unfinished 2; limit 1; waited no; error none"),
      "; tasks held 1, ready 0, running 1, success 0, error 0, interrupted 0",
    )
    ∷ (
      l ++ codes "group 1 h unfinished 0; limit none; waited no; error no room",
      "; tasks held 0, ready 0, running 0, success 0, error 1, interrupted 0",
    )
    ∷ []

-- A copy was too slow, and then the backup above it was canceled. The report goes on.
abbrev pub cancelled_backup : Night
cancelled_backup =
    ("derive night root value region eu", "scope 1")
    ∷ ("derive backup night cause", "scope 2")
    ∷ ("derive copy backup deadline 3600 too slow", "scope 3")
    ∷ ("derive report backup detached", "scope 4")
    ∷ ("derive mail report cancel", "scope 5")
    ∷ ("advance 3600", "ok")
    ∷ ("cancel backup disk full", "ok")
    ∷ ("group disks report", "group 0 scope 6")
    ∷ ("go disks copy a", "task 0 ready")
    ∷ ("start", "start 0 copy a")
    ∷ ("finish 0 error no room", "ok")
    ∷ ("wait disks", "wait error no room")
    ∷ []

-- Its tree.
abbrev pub backup_drawn : List (List ℕ × String)
backup_drawn =
    ([], "events 13; clock 3600; scopes 7 of 1024; groups 1 of 128; tasks 1 of 2048")
    ∷ ([], "scope 0 root root; live; deadline none")
    ∷ (l, "scope 1 night value region eu; live; deadline none")
    ∷ (
      s 1 ++ l,
      "scope 2 backup cause; done; deadline none; err context canceled; cause disk full",
    )
    ∷ (
      s 2 ++ t,
      "scope 3 copy deadline; done; deadline 3600; err context deadline exceeded; cause too slow",
    )
    ∷ (s 2 ++ l, "scope 4 report detached; live; deadline none")
    ∷ (s 3 ++ t, "scope 5 mail cancel; live; deadline none")
    ∷ (s 3 ++ l, "scope 6 disks group; done; deadline none; err context canceled; cause no room")
    ∷ (s 4 ++ l, "group 0 disks unfinished 0; limit none; waited yes; error no room")
    ∷ (s 5 ++ l, "task 0 disks copy a error no room")
    ∷ []
