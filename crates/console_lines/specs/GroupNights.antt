-- The examples with groups and tasks: the lines that a user types into a newly opened store, each
-- with what is printed for it.
use Rattle.std.specs.Prelude.{ℕ, List, [], ◌∷◌, ◌++◌, codes}
use Rattle.console_lines.specs.Nights.{Night, shown}

-- In a group with a limit of 2, two tasks are ready, and the third is held until one of them has
-- finished. A try is refused if its task would be held.
abbrev pub limit_of_two : Night
limit_of_two =
    ("group g root", "group 0 scope 1")
    ∷ ("limit g 2", "ok")
    ∷ ("go g copy a", "task 0 ready")
    ∷ ("go g copy b", "task 1 ready")
    ∷ ("go g copy c", "task 2 held")
    ∷ ("try g copy d", "refused 14 AtLimit")
    ∷ ("start", "start 0 copy a")
    ∷ ("finish 0 ok", "ok")
    ∷ ("task 2", "task 2 ready")
    ∷ ("wait g", "refused 16 Unfinished 2")
    ∷ ("limit g 3", "refused 13 LimitWhileActive")
    ∷ []

-- A limit of 0 admits no task.
abbrev pub limit_of_none : Night
limit_of_none =
    ("group g root", "group 0 scope 1")
    ∷ ("limit g 0", "ok")
    ∷ ("go g copy a", "task 0 held")
    ∷ ("start", "refused 19 NothingReady")
    ∷ ("try g copy b", "refused 14 AtLimit")
    ∷ ("wait g", "refused 16 Unfinished 1")
    ∷ []

-- The first error is that of the group, and the cause of its scope. Each wait returns it.
abbrev pub two_errors : Night
two_errors =
    ("group g root", "group 0 scope 1")
    ∷ ("go g copy a", "task 0 ready")
    ∷ ("go g copy b", "task 1 ready")
    ∷ ("start", "start 0 copy a")
    ∷ ("start", "start 1 copy b")
    ∷ ("finish 1 error x", "ok")
    ∷ ("finish 0 error y", "ok")
    ∷ ("wait g", "wait error x")
    ∷ ("wait g", "wait error x")
    ∷ ("scope g", "done; deadline none; err context canceled; cause x")
    ∷ ("go g copy c", "refused 15 Waited")
    ∷ ("result g", "unfinished 0; limit none; waited yes; error x")
    ∷ []

-- A wait cancels the scope of its group, and a bare group has none of its own.
abbrev pub two_waits : Night
two_waits =
    ("group g root", "group 0 scope 1")
    ∷ ("bare h root", "group 1")
    ∷ ("wait g", "wait ok")
    ∷ ("wait h", "wait ok")
    ∷ ("scope g", "done; deadline none; err context canceled; cause context canceled")
    ∷ ("scope root", "live; deadline none")
    ∷ []

-- Refusals by the state about groups and tasks, and a limit of another form.
abbrev pub refused_groups : Night
refused_groups =
    ("group g root", "group 0 scope 1")
    ∷ ("bare g root", "refused 4 NameTaken")
    ∷ ("group h no", "refused 1 NoSuchScope")
    ∷ ("go x copy a", "refused 2 NoSuchGroup")
    ∷ ("limit g 65", "bad line")
    ∷ ("limit g 64", "ok")
    ∷ ("finish 0 ok", "refused 3 NoSuchTask")
    ∷ ("start", "refused 19 NothingReady")
    ∷ []

-- There are three tasks of two jobs, and two of them have finished.
abbrev pub two_jobs : Night
two_jobs =
    ("group g root", "group 0 scope 1")
    ∷ ("go g spin 1", "task 0 ready")
    ∷ ("go g copy a", "task 1 ready")
    ∷ ("go g spin 2", "task 2 ready")
    ∷ ("start", "start 0 spin 1")
    ∷ ("start", "start 1 copy a")
    ∷ ("finish 0 error x", "ok")
    ∷ ("finish 1 ok", "ok")
    ∷ []

-- The tally of these tasks: a line for each job, in the order of their first tasks.
abbrev pub two_tallies : List ℕ
two_tallies =
    shown (codes "tally spin total 2; success 0; failure 1; interrupted 0")
    ++ shown (codes "tally copy total 1; success 1; failure 0; interrupted 0")

-- If there is no task, a tally prints nothing.
abbrev pub no_jobs : Night
no_jobs = ("tally", "") ∷ ("group g root", "group 0 scope 1") ∷ ("tally", "") ∷ []

-- A task that wasn't interrupted can't be retried, and only a running one can be finished.
abbrev pub refused_tasks : Night
refused_tasks =
    ("bare g root", "group 0")
    ∷ ("retry 0", "refused 3 NoSuchTask")
    ∷ ("go g copy a", "task 0 ready")
    ∷ ("retry 0", "refused 24 NotInterrupted")
    ∷ ("finish 0 ok", "refused 20 NotRunning")
    ∷ ("start", "start 0 copy a")
    ∷ ("retry 0", "refused 24 NotInterrupted")
    ∷ ("task 0", "task 0 running")
    ∷ ("finish 0 error late  again ", "ok")
    ∷ ("retry 0", "refused 24 NotInterrupted")
    ∷ ("task 0", "task 0 error late  again ")
    ∷ ("finish 0 ok", "refused 20 NotRunning")
    ∷ ("task 1", "refused 3 NoSuchTask")
    ∷ ("result h", "refused 2 NoSuchGroup")
    ∷ []

-- Lines about groups and tasks that have another form.
abbrev pub bad_group_lines : Night
bad_group_lines =
    ("group g", "bad line")
    ∷ ("group g root x", "bad line")
    ∷ ("bare g", "bad line")
    ∷ ("limit g", "bad line")
    ∷ ("limit g 2 ", "bad line")
    ∷ ("limit g NONE", "bad line")
    ∷ ("limit g 0000000000064", "bad line")
    ∷ ("go g copy", "bad line")
    ∷ ("try g copy a b", "bad line")
    ∷ ("wait", "bad line")
    ∷ ("result g ", "bad line")
    ∷ ("start ", "bad line")
    ∷ ("finish 0", "bad line")
    ∷ ("finish 0 done", "bad line")
    ∷ ("finish 0 ok ", "bad line")
    ∷ ("finish 0 error", "bad line")
    ∷ ("finish x ok", "bad line")
    ∷ ("retry -1", "bad line")
    ∷ ("task", "bad line")
    ∷ ("tally all", "bad line")
    ∷ []

-- Words that aren't names are refused first, then errors that aren't texts, and then numbers that
-- no task has. A number may have leading zeros.
abbrev pub bad_group_words : Night
bad_group_words =
    ("group  root", "refused 5 BadName")
    ∷ ("bare h ROOT", "refused 5 BadName")
    ∷ ("limit G 65", "bad line")
    ∷ ("limit G 64", "refused 5 BadName")
    ∷ ("go g copy ", "refused 5 BadName")
    ∷ ("try g  a", "refused 5 BadName")
    ∷ ("wait ", "refused 5 BadName")
    ∷ ("result G", "refused 5 BadName")
    ∷ ("finish 70000 error ", "refused 6 BadText")
    ∷ ("finish 70000 error x", "refused 3 NoSuchTask")
    ∷ ("finish 65536 ok", "refused 3 NoSuchTask")
    ∷ ("retry 999999999999", "refused 3 NoSuchTask")
    ∷ ("task 65535", "refused 3 NoSuchTask")
    ∷ ("bare none root", "group 0")
    ∷ ("limit none none", "ok")
    ∷ ("limit none 064", "ok")
    ∷ ("go none ok error", "task 0 ready")
    ∷ ("task 000", "task 0 ready")
    ∷ ("result none", "unfinished 1; limit 64; waited no; error none")
    ∷ []
