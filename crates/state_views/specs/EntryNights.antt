-- Examples of a state as JSON: the lines that a user types into a newly opened store, and the
-- object that is printed afterwards.
use Prim.Native.String.{String}
use Rattle.std.specs.Prelude.{◌≡◌, ℕ, List, [], ◌∷◌, ◌++◌, codes, Option}
use Rattle.state_views.specs.Entries.{json_text}
use Rattle.state_views.specs.ListedNights.{three_tasks}
use Rattle.console_lines.specs.Nights.{Night, session_of}

-- These texts, one after another.
abbrev pub joined : List String → List ℕ
joined [] = []
joined (text ∷ texts) = codes text ++ joined texts

-- After these lines, the state as JSON consists of these texts, one after another, with the tasks
-- in this phase and of this group.
abbrev pub IsShown : (phase group : Option (List ℕ)) → Night → List String → Type 0
IsShown phase group night texts =
    json_text phase group (session_of night).state ≡ joined texts

-- A scope of each kind, below root. One is canceled. One is detached, so the scopes below it stay
-- live.
abbrev pub all_kinds : Night
all_kinds =
    ("derive v root value k a\"b\\c", "scope 1")
    ∷ ("derive x v cause", "scope 2")
    ∷ ("derive d x detached", "scope 3")
    ∷ ("derive y d deadline 100 late", "scope 4")
    ∷ ("derive z y cancel", "scope 5")
    ∷ ("group g z", "group 0 scope 6")
    ∷ ("cancel x disk", "ok")
    ∷ []

-- The object that is printed for it.
abbrev pub kinds_shown : List String
kinds_shown =
    "{\"version\":1,\"count\":8,\"clock\":0,\"layout\":\"small\","
    ∷ "\"room\":{\"scopes\":1024,\"groups\":128,"
    ∷ "\"tasks\":2048},\n\"scopes\":[\n"
    ∷ "{\"number\":0,\"name\":\"root\",\"parent\":null,\"kind\":\"root\",\"key\":null,"
    ∷ "\"value\":null,\"deadline\":null,\"done\":false,\"reason\":null,\"cause\":null},\n"
    ∷ "{\"number\":1,\"name\":\"v\",\"parent\":0,\"kind\":\"value\",\"key\":\"k\","
    ∷ "\"value\":\"a\\\"b\\\\c\",\"deadline\":null,\"done\":false,\"reason\":null,"
    ∷ "\"cause\":null},\n"
    ∷ "{\"number\":2,\"name\":\"x\",\"parent\":1,\"kind\":\"cause\",\"key\":null,"
    ∷ "\"value\":null,\"deadline\":null,\"done\":true,\"reason\":\"context canceled\","
    ∷ "\"cause\":\"disk\"},\n"
    ∷ "{\"number\":3,\"name\":\"d\",\"parent\":2,\"kind\":\"detached\",\"key\":null,"
    ∷ "\"value\":null,\"deadline\":null,\"done\":false,\"reason\":null,\"cause\":null},\n"
    ∷ "{\"number\":4,\"name\":\"y\",\"parent\":3,\"kind\":\"deadline\",\"key\":null,"
    ∷ "\"value\":null,\"deadline\":100,\"done\":false,\"reason\":null,\"cause\":null},\n"
    ∷ "{\"number\":5,\"name\":\"z\",\"parent\":4,\"kind\":\"cancel\",\"key\":null,"
    ∷ "\"value\":null,\"deadline\":100,\"done\":false,\"reason\":null,\"cause\":null},\n"
    ∷ "{\"number\":6,\"name\":\"g\",\"parent\":5,\"kind\":\"group\",\"key\":null,"
    ∷ "\"value\":null,\"deadline\":100,\"done\":false,\"reason\":null,\"cause\":null}],\n"
    ∷ "\"groups\":[\n"
    ∷ "{\"number\":0,\"name\":\"g\",\"scope\":6,\"limit\":null,\"waited\":false,"
    ∷ "\"unfinished\":0,\"error\":null}],\n"
    ∷ "\"tasks\":[]}\n"
    ∷ []

-- The beginning of the object for the session of three tasks, up to its list of tasks.
abbrev pub tasks_head : List String
tasks_head =
    "{\"version\":1,\"count\":10,\"clock\":0,\"layout\":\"small\","
    ∷ "\"room\":{\"scopes\":1024,\"groups\":128,\"tasks\":2048},\n\"scopes\":[\n"
    ∷ "{\"number\":0,\"name\":\"root\",\"parent\":null,\"kind\":\"root\",\"key\":null,"
    ∷ "\"value\":null,\"deadline\":null,\"done\":false,\"reason\":null,\"cause\":null},\n"
    ∷ "{\"number\":1,\"name\":\"g\",\"parent\":0,\"kind\":\"group\",\"key\":null,"
    ∷ "\"value\":null,\"deadline\":null,\"done\":false,\"reason\":null,\"cause\":null}],\n"
    ∷ "\"groups\":[\n"
    ∷ "{\"number\":0,\"name\":\"g\",\"scope\":1,\"limit\":1,\"waited\":false,"
    ∷ "\"unfinished\":2,\"error\":null},\n"
    ∷ "{\"number\":1,\"name\":\"h\",\"scope\":0,\"limit\":null,\"waited\":false,"
    ∷ "\"unfinished\":0,\"error\":\"no room\"}],\n"
    ∷ "\"tasks\":["
    ∷ []

-- Its tasks: one is running, one is held, and one has failed.
abbrev pub running_one : List String
running_one =
    "{\"number\":0,\"group\":0,\"group_name\":\"g\",\"job\":\"copy\",\"argument\":\"a\","
    ∷ "\"phase\":\"running\",\"error\":null,\"retry_of\":null}"
    ∷ []

abbrev pub held_one : List String
held_one =
    "{\"number\":1,\"group\":0,\"group_name\":\"g\",\"job\":\"copy\",\"argument\":\"b\","
    ∷ "\"phase\":\"held\",\"error\":null,\"retry_of\":null}"
    ∷ []

abbrev pub failed_one : List String
failed_one =
    "{\"number\":2,\"group\":1,\"group_name\":\"h\",\"job\":\"mail\",\"argument\":\"c\","
    ∷ "\"phase\":\"error\",\"error\":\"no room\",\"retry_of\":null}"
    ∷ []

-- For that session, these texts are printed after the beginning.
abbrev pub IsShownOf : (phase group : Option (List ℕ)) → List String → Type 0
IsShownOf phase group texts = IsShown phase group three_tasks (tasks_head ++ texts)

-- All of its tasks.
abbrev pub tasks_shown : List String
tasks_shown =
    "\n" ∷ (running_one ++ (",\n" ∷ (held_one ++ (",\n" ∷ (failed_one ++ "]}\n" ∷ [])))))
