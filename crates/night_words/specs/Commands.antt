-- Which words the command line takes.
use Rattle.std.specs.Prelude.{◌≡◌, ◌≢◌, ◌⊎◌, ◌∷◌, [], ℕ, List, Option, Some, None}
use Rattle.std.specs.Prelude.{Result, Ok, Err, ◌&&◌, ◌||◌, ◌-◌, codes, if◌then◌else◌, is_some}
use Rattle.std.specs.Prelude.{nat_le, not}
use Rattle.std.specs.Prelude.{option_and_then, option_map, Bool, false, true, unwrap_or}
use Rattle.std.specs.Borrow.{Bor}
use Rattle.std.specs.List.{list_any}
use Rattle.std.specs.Option.{option_map_or}
use Rattle.std.specs.Str.{bytes_eq}
use Rattle.clap.specs.Words.{App, IsAmong, Kinds, Row, Rule, Shape, Text, fault_of, first_of}
use Rattle.clap.specs.Words.{new_app, new_rule, subcommand_of, subcommand_rows_of, with_rule}
use Rattle.clap.specs.Words.{with_subcommand}
use Rattle.clap.specs.declared.builder.action.ArgAction.TheVariants.{Set, SetTrue}
use Rattle.clap.specs.declared.error.kind.ErrorKind.{ErrorKind}
use Rattle.clap.specs.declared.error.kind.ErrorKind.TheVariants.{DisplayHelp, DisplayVersion}
use Rattle.clap.specs.declared.error.kind.ErrorKind.TheVariants.{OutOfMemory}
use Rattle.clap.specs.declared.parser.matches.ArgMatches.{ArgMatches}
use Rattle.night_words.specs.declared.requests.Request.{Request}
use Rattle.night_words.specs.declared.requests.Request.TheVariants.{Crew, Demo, Drive, Format}
use Rattle.night_words.specs.declared.requests.Request.TheVariants.{Help, Inspect, Migrate, Plan}
use Rattle.night_words.specs.declared.requests.Request.TheVariants.{Renew, RenewInPlace, Script}
use Rattle.state_views.specs.declared.views.View.{View}
use Rattle.state_views.specs.declared.views.View.TheVariants.{Whole, Tasks, Json, Tree}
use Rattle.state_views.specs.declared.views.View.TheVariants.{Summary}
use Rattle.night_words.specs.declared.faults.WordsFault.{WordsFault}
use Rattle.night_words.specs.declared.faults.WordsFault.TheVariants.{Mistake, NotText, Memory}
use Rattle.night_words.specs.declared.faults.WordsFault.TheVariants.{NoTree, Phase, Place}
use Rattle.night_words.specs.declared.faults.WordsFault.TheVariants.{SameStores}
use Rattle.night_words.specs.declared.faults.WordsFault.TheVariants.{Views, Workers}

-- ---- the command line

-- `night` without a subcommand. It needs one, prints its help if there are no arguments, and has a
-- version.
abbrev pub night_alone : Shape
night_alone = record (new_app (codes "night")).top {
  has_version = true;
  arg_required_else_help = true;
  subcommand_required = true;
}

-- A flag, which takes no value.
abbrev pub flag : Text → Rule
flag id = record (new_rule id) { long = Some id; action = Some SetTrue }

-- A subcommand that takes one flag, and nothing else.
abbrev pub demo_line : App
demo_line = with_rule (new_app (codes "demo")) (flag (codes "strict"))

-- A required argument that names a store. The help has one name for it.
abbrev pub wanted : Text → Rule
wanted id = record (new_rule id) { action = Some Set; required = true; value_names = 1 }

-- A subcommand that takes the name of a store.
abbrev pub store_line : Text → App
store_line name = with_rule (new_app name) (wanted (codes "STORE"))

-- Two such subcommands that also take flags: `format` takes one, and `script` two.
abbrev pub format_line : App
format_line = with_rule (store_line (codes "format")) (flag (codes "new"))

abbrev pub script_line : App
script_line = with_rule
    (with_rule (store_line (codes "script")) (flag (codes "strict")))
    (flag (codes "now"))

-- An option with one value. The help has one name for it.
abbrev pub value_option : Text → Rule
value_option id = record (new_rule id) { long = Some id; action = Some Set; value_names = 1 }

-- `inspect` takes a store, five flags, and two options: a phase and a group.
abbrev pub inspect_line : App
inspect_line =
    with_rule
    (with_rule
    (with_rule
    (with_rule
    (with_rule
    (with_rule
    (with_rule (store_line (codes "inspect")) (flag (codes "tasks")))
    (value_option (codes "phase")))
    (value_option (codes "group")))
    (flag (codes "json")))
    (flag (codes "tree")))
    (flag (codes "no-tasks")))
    (flag (codes "summary"))

-- `migrate` takes the names of two stores, the old one first, and a flag.
abbrev pub migrate_line : App
migrate_line = with_rule
    (with_rule (store_line (codes "migrate")) (wanted (codes "NEW")))
    (flag (codes "new"))

-- An argument that names a store, and may be left out. The help has one name for it.
abbrev pub free : Text → Rule
free id = record (new_rule id) { action = Some Set; value_names = 1 }

-- `renew` takes the name of a store, perhaps that of a new one, and two flags.
abbrev pub renew_line : App
renew_line =
    with_rule
    (with_rule
    (with_rule (store_line (codes "renew")) (free (codes "NEW")))
    (flag (codes "new")))
    (flag (codes "in-place"))

-- `crew` takes the name of a store, a flag, and an option: the number of workers.
abbrev pub crew_line : App
crew_line = with_rule
    (with_rule (store_line (codes "crew")) (value_option (codes "workers")))
    (flag (codes "known"))

-- `plan` takes nothing.
abbrev pub plan_line : App
plan_line = new_app (codes "plan")

-- `drive` takes the name of a store, and nothing else.
abbrev pub drive_line : App
drive_line = store_line (codes "drive")

-- The command line of `night`: it has these nine subcommands, and no others.
abbrev pub night : App
night =
    with_subcommand
    (with_subcommand
    (with_subcommand
    (with_subcommand
    (with_subcommand
    (with_subcommand
    (with_subcommand
    (with_subcommand
    (with_subcommand (record { top = night_alone; subs = [] }) demo_line.top)
    format_line.top)
    script_line.top)
    inspect_line.top)
    migrate_line.top)
    crew_line.top)
    renew_line.top)
    plan_line.top)
    drive_line.top

-- What the parser reports about these words, the first of which is the program's name. It reports
-- nothing if they ask for a subcommand. A request for help or for the version is reported in the
-- same way as a mistake.
abbrev pub faults_of : List Text → Kinds
faults_of words = fault_of night words

-- ---- the subcommands

-- The words are the program's name and this subcommand. The mark `--` may stand at the end.
abbrev pub AsksAlone : Text → List Text → Type 0
AsksAlone command words = (name : Text) × ((words ≡ name ∷ command ∷ [])
    ⊎ (words ≡ name ∷ command ∷ codes "--" ∷ []))

-- The words are the program's name, this subcommand and this store. The mark `--` may stand before
-- or after the store.
abbrev pub AsksOver : Text → Text → List Text → Type 0
AsksOver command store words = (name : Text) × ((words ≡ name ∷ command ∷ store ∷ [])
    ⊎ ((words ≡ name ∷ command ∷ codes "--" ∷ store ∷ [])
    ⊎ (words ≡ name ∷ command ∷ store ∷ codes "--" ∷ [])))

-- The words are the program's name, this subcommand, the old store and the new one. The mark `--`
-- may stand before, between or after the stores.
abbrev pub AsksForTwo : (command old new : Text) → List Text → Type 0
AsksForTwo command old new words = (name : Text)
    × ((words ≡ name ∷ command ∷ old ∷ new ∷ [])
    ⊎ ((words ≡ name ∷ command ∷ codes "--" ∷ old ∷ new ∷ [])
    ⊎ ((words ≡ name ∷ command ∷ old ∷ codes "--" ∷ new ∷ [])
    ⊎ (words ≡ name ∷ command ∷ old ∷ new ∷ codes "--" ∷ []))))

-- The subcommand that the parser has found.
abbrev pub command_in : Option (Text × List Row) → Option Text
command_in entered = option_map (λ s. s.0) entered

-- The word that the parser has found for an argument of this name.
abbrev pub word_in : Text → Option (Text × List Row) → Option Text
word_in id entered = option_and_then (λ s. first_of id s.1) entered

-- A flag is set if the parser has found the word `true` for it. It finds `false` if the flag isn't
-- given.
abbrev pub is_true : Option Text → Bool
is_true word = option_map_or (λ text. bytes_eq text (codes "true")) word false

abbrev pub has_flag : Text → Option (Text × List Row) → Bool
has_flag id entered = is_true (word_in id entered)

-- The number of workers: one digit from 1 to 8, or 4 if the option isn't given.
abbrev pub workers_of : Option Text → Option ℕ
workers_of None = Some 4
workers_of (Some (digit ∷ [])) =
    if nat_le 49 digit && nat_le digit 56 then Some (digit - 48) else None
workers_of (Some text) = None

-- The parser has found `demo`, and whether it is strict.
abbrev pub NamesDemo : Bool → Option (Text × List Row) → Type 0
NamesDemo strict entered = (command_in entered ≡ Some (codes "demo"))
    × (has_flag (codes "strict") entered ≡ strict)

-- The parser has found `plan`.
abbrev pub NamesPlan : Option (Text × List Row) → Type 0
NamesPlan entered = command_in entered ≡ Some (codes "plan")

-- The parser has found `drive` with this store.
abbrev pub NamesDrive : Text → Option (Text × List Row) → Type 0
NamesDrive store entered = (command_in entered ≡ Some (codes "drive"))
    × (word_in (codes "STORE") entered ≡ Some store)

-- The parser has found `format` with this store, and whether the file has to be new.
abbrev pub NamesFormat : Text → Bool → Option (Text × List Row) → Type 0
NamesFormat store is_new entered = (command_in entered ≡ Some (codes "format"))
    × (word_in (codes "STORE") entered ≡ Some store) × (has_flag (codes "new") entered ≡ is_new)

-- The parser has found `script` with this store, whether it is strict, and whether it asks for the
-- machine's time.
abbrev pub NamesScript : Text → Bool → Bool → Option (Text × List Row) → Type 0
NamesScript store strict is_timed entered = (command_in entered ≡ Some (codes "script"))
    × (word_in (codes "STORE") entered ≡ Some store)
    × (has_flag (codes "strict") entered ≡ strict) × (has_flag (codes "now") entered ≡ is_timed)

-- The names of the phases of a task.
abbrev pub phases : List Text
phases = codes "held" ∷ codes "ready" ∷ codes "running" ∷ codes "success" ∷ codes "error"
    ∷ codes "interrupted" ∷ []

-- The word is the name of a phase, or there is no word.
abbrev pub names_phase : Option Text → Bool
names_phase word = option_map_or (λ text. list_any (bytes_eq text) phases) word true

-- One of the options `--phase` and `--group` is given. Here and below, `word` is the word that was
-- found for an argument.
abbrev pub asks_some : (word : Text → Option Text) → Bool
asks_some word = is_some (word (codes "phase")) || is_some (word (codes "group"))

-- The lines of tasks are asked for: `--tasks` is given, or one of those options without `--json`.
abbrev pub asks_tasks : (word : Text → Option Text) → Bool
asks_tasks word = is_true (word (codes "tasks"))
    || (asks_some word && not (is_true (word (codes "json"))))

-- Exactly these of the four views are asked for (tasks, JSON, tree, summary), and `--no-tasks` is
-- given or isn't.
abbrev pub AsksViews :
    (tasks json tree summary no_tasks : Bool) (word : Text → Option Text) → Type 0
AsksViews tasks json tree summary no_tasks word = (asks_tasks word ≡ tasks)
    × (is_true (word (codes "json")) ≡ json) × (is_true (word (codes "tree")) ≡ tree)
    × (is_true (word (codes "summary")) ≡ summary)
    × (is_true (word (codes "no-tasks")) ≡ no_tasks)

-- `--no-tasks` is given, but `--tree` isn't.
abbrev pub lacks_tree : (word : Text → Option Text) → Bool
lacks_tree word = is_true (word (codes "no-tasks")) && not (is_true (word (codes "tree")))

-- These are the values of `--phase` and `--group`, and that of `--phase` is the name of a phase.
abbrev pub AsksSome :
    (phase group : Option (Bor Text)) (word : Text → Option Text) → Type 0
AsksSome phase group word = (word (codes "phase") ≡ option_map (λ text. text.now) phase)
    × (word (codes "group") ≡ option_map (λ text. text.now) group)
    × (names_phase (word (codes "phase")) ≡ true)

-- At least two of the four are true.
abbrev pub are_two : (a b c d : Bool) → Bool
are_two a b c d = (a && b) || ((c && d) || ((a || b) && (c || d)))

-- If one view is asked for, it is shown, and if none is, everything is shown as lines. The options
-- `--phase` and `--group` go with the view of tasks and with JSON. The first mistake of these is
-- reported: `--no-tasks` without `--tree`, two or more views, a word that is the name of no phase.
abbrev pub IsView : (word : Text → Option Text) → Result View WordsFault → Type 0
IsView word (Ok Whole) = AsksViews false false false false false word
IsView word (Ok (Tasks phase group)) =
    AsksViews true false false false false word × AsksSome phase group word
IsView word (Ok (Json phase group)) =
    AsksViews false true false false false word × AsksSome phase group word
IsView word (Ok (Tree no_tasks)) = AsksViews false false true false no_tasks word
IsView word (Ok Summary) = AsksViews false false false true false word
IsView word (Err NoTree) = lacks_tree word ≡ true
IsView word (Err Views) = (lacks_tree word ≡ false)
    × (are_two (asks_tasks word) (is_true (word (codes "json")))
    (is_true (word (codes "tree"))) (is_true (word (codes "summary"))) ≡ true)
IsView word (Err Phase) =
    (AsksViews true false false false false word ⊎ AsksViews false true false false false word)
    × (names_phase (word (codes "phase")) ≡ false)
IsView word (Err why) = ⊥

-- The parser has found `inspect` with this store, and these words ask for this view or make this
-- mistake.
abbrev pub NamesInspect : Text → Result View WordsFault → Option (Text × List Row) → Type 0
NamesInspect store view entered = (command_in entered ≡ Some (codes "inspect"))
    × (word_in (codes "STORE") entered ≡ Some store) × IsView (λ id. word_in id entered) view

-- The parser has found `migrate` with these two stores, and whether the second file has to be new.
abbrev pub NamesMigration : (old new : Text) → Bool → Option (Text × List Row) → Type 0
NamesMigration old new is_new entered = (command_in entered ≡ Some (codes "migrate"))
    × (word_in (codes "STORE") entered ≡ Some old) × (word_in (codes "NEW") entered ≡ Some new)
    × (has_flag (codes "new") entered ≡ is_new)

-- The parser has found `renew` with this store, perhaps with a new one, whether that file has to be
-- new, and whether the renewal is in place.
abbrev pub NamesRenewal : Text → Option Text → (is_new in_place : Bool)
    → Option (Text × List Row) → Type 0
NamesRenewal old new is_new in_place entered = (command_in entered ≡ Some (codes "renew"))
    × (word_in (codes "STORE") entered ≡ Some old) × (word_in (codes "NEW") entered ≡ new)
    × (has_flag (codes "new") entered ≡ is_new) × (has_flag (codes "in-place") entered ≡ in_place)

-- A renewal is misplaced in two cases: it is in place, and NEW or `--new` is given; or it isn't in
-- place, and NEW isn't given.
abbrev pub is_misplaced : Option Text → (is_new in_place : Bool) → Bool
is_misplaced new is_new true = is_some new || is_new
is_misplaced new is_new false = not (is_some new)

-- The parser has found `crew` with this store and this number of workers, and whether all jobs have
-- to be known.
abbrev pub NamesCrew : Text → Option ℕ → Bool → Option (Text × List Row) → Type 0
NamesCrew store workers known entered = (command_in entered ≡ Some (codes "crew"))
    × (unwrap_or (word_in (codes "STORE") entered) [] ≡ store)
    × (workers_of (word_in (codes "workers") entered) ≡ workers)
    × (has_flag (codes "known") entered ≡ known)

-- The parser finds `demo` in the words: `demo` stands after the program's name, and `--strict` may
-- stand after it.
abbrev pub AsksForDemo : Bool → List Text → Type 0
AsksForDemo strict words = NamesDemo strict (subcommand_of night words)

-- The parser finds `plan` in the words: it stands after the program's name.
abbrev pub AsksForPlan : List Text → Type 0
AsksForPlan words = NamesPlan (subcommand_of night words)

-- The parser finds `drive` in the words: after it stands the store.
abbrev pub AsksForDrive : Text → List Text → Type 0
AsksForDrive store words = NamesDrive store (subcommand_of night words)

-- The parser finds `format` in the words: after it stands the store, and `--new` may stand before
-- or after the store.
abbrev pub AsksForFormat : Text → Bool → List Text → Type 0
AsksForFormat store is_new words = NamesFormat store is_new (subcommand_of night words)

-- The parser finds `script` in the words: after it stands the store, and `--strict` and `--now` may
-- stand before or after the store.
abbrev pub AsksForScript : Text → Bool → Bool → List Text → Type 0
AsksForScript store strict is_timed words =
    NamesScript store strict is_timed (subcommand_of night words)

-- The parser finds `inspect` in the words, and they ask for this view: after `inspect` stands the
-- store. The flag of the view, or its options, such as `--phase held` or `--phase=held`, may stand
-- before or after the store.
abbrev pub AsksForInspect : Text → View → List Text → Type 0
AsksForInspect store view words =
    NamesInspect store (Ok view) (subcommand_of night words)

-- The words ask for a migration between these stores: after the program's name and `migrate` stand
-- the two stores, with nothing else but perhaps the mark `--`. If the file has to be new, the
-- parser finds that in the words: `--new` stands before, between or after the stores.
abbrev pub AsksForMigration : (old new : Text) → (is_new : Bool) → List Text → Type 0
AsksForMigration old new false words = AsksForTwo (codes "migrate") old new words
AsksForMigration old new true words = NamesMigration old new true (subcommand_of night words)

-- The same for a renewal that isn't in place.
abbrev pub AsksForRenewal : (old new : Text) → (is_new : Bool) → List Text → Type 0
AsksForRenewal old new false words = AsksForTwo (codes "renew") old new words
AsksForRenewal old new true words =
    NamesRenewal old (Some new) true false (subcommand_of night words)

-- The parser finds a renewal in place in the words: after `renew` stands one store, and
-- `--in-place` stands before or after it.
abbrev pub AsksForRenewalInPlace : Text → List Text → Type 0
AsksForRenewalInPlace store words = NamesRenewal store None false true (subcommand_of night words)

-- The parser finds `crew` in the words, with this number of workers: after `crew` stands the store.
-- `--workers N` or `--workers=N`, and `--known`, may stand before or after the store.
abbrev pub AsksForCrew : Text → ℕ → Bool → List Text → Type 0
AsksForCrew store workers known words =
    NamesCrew store (Some workers) known (subcommand_of night words)

-- The words ask for this. About the text of a help, nothing is said here.
abbrev pub AsksFor : Request → List Text → Type 0
AsksFor (Demo strict) words = AsksForDemo strict words
AsksFor (Format store is_new) words = AsksForFormat store.now is_new words
AsksFor (Script store strict is_timed) words = AsksForScript store.now strict is_timed words
AsksFor (Inspect store view) words = AsksForInspect store.now view words
AsksFor (Crew store workers known) words = AsksForCrew store.now workers known words
AsksFor (Migrate old new is_new) words =
    AsksForMigration old.now new.now is_new words × (old.now ≢ new.now)
AsksFor (Renew old new is_new) words =
    AsksForRenewal old.now new.now is_new words × (old.now ≢ new.now)
AsksFor (RenewInPlace store) words = AsksForRenewalInPlace store.now words
AsksFor Plan words = AsksForPlan words
AsksFor (Drive store) words = AsksForDrive store.now words
AsksFor (Help text) words = Unit {0}

-- The words make this mistake: - SameStores: a migration or a renewal goes from a store to itself.
-- - Workers: the number of workers isn't a number from 1 to 8. - Views: two or more views are asked
-- for. - NoTree: `--no-tasks` is given without `--tree`. - Phase: the value of `--phase` is the
-- name of no phase. - Place: a renewal has neither NEW nor `--in-place`, or has both, or has
-- `--in-place` and `--new`. `IsAnswer` defines the other faults.
abbrev pub IsCausedBy : WordsFault → List Text → Type 0
IsCausedBy SameStores words = (store : Text) × ((is_new : Bool)
    × (AsksForMigration store store is_new words ⊎ AsksForRenewal store store is_new words))
IsCausedBy Workers words = (store : Text) × ((known : Bool)
    × NamesCrew store None known (subcommand_of night words))
IsCausedBy Views words = (store : Text)
    × NamesInspect store (Err Views) (subcommand_of night words)
IsCausedBy NoTree words = (store : Text)
    × NamesInspect store (Err NoTree) (subcommand_of night words)
IsCausedBy Phase words = (store : Text)
    × NamesInspect store (Err Phase) (subcommand_of night words)
IsCausedBy Place words = (store : Text) × ((new : Option Text) × ((is_new : Bool)
    × ((in_place : Bool) × (is_misplaced new is_new in_place ≡ true)
    × NamesRenewal store new is_new in_place (subcommand_of night words))))
IsCausedBy why words = Unit {0}

-- ---- what is returned

-- The parser reports that help or the version is asked for.
abbrev pub IsHelp : ErrorKind → Type 0
IsHelp kind = (kind ≡ DisplayHelp) ⊎ (kind ≡ DisplayVersion)

-- The parser reports a mistake in the words.
abbrev pub IsMistake : ErrorKind → Type 0
IsMistake kind = (kind ≢ DisplayHelp) × (kind ≢ DisplayVersion) × (kind ≢ OutOfMemory)

-- What is returned when these are all that the parser may report. If it reports nothing, that is a
-- request, or one of the six mistakes that the parser can't know. Otherwise it is a text for one of
-- its reports. Memory may be refused in any case.
abbrev pub IsAnswer : Kinds → Result Request WordsFault → Type 0
IsAnswer kinds (Ok (Help text)) = (kind : ErrorKind) × IsAmong kind kinds × IsHelp kind
IsAnswer kinds (Ok command) = kinds ≡ []
IsAnswer kinds (Err (Mistake text)) = (kind : ErrorKind) × IsAmong kind kinds × IsMistake kind
IsAnswer kinds (Err SameStores) = kinds ≡ []
IsAnswer kinds (Err Workers) = kinds ≡ []
IsAnswer kinds (Err Views) = kinds ≡ []
IsAnswer kinds (Err NoTree) = kinds ≡ []
IsAnswer kinds (Err Phase) = kinds ≡ []
IsAnswer kinds (Err Place) = kinds ≡ []
IsAnswer kinds (Err NotText) = ⊥
IsAnswer kinds (Err Memory) = Unit {0}

-- The fault isn't a mistake in what the words ask for: a word is no text in UTF-8, or memory was
-- refused.
abbrev pub IsOfSystem : WordsFault → Type 0
IsOfSystem (Mistake text) = ⊥
IsOfSystem SameStores = ⊥
IsOfSystem Workers = ⊥
IsOfSystem Views = ⊥
IsOfSystem NoTree = ⊥
IsOfSystem Phase = ⊥
IsOfSystem Place = ⊥
IsOfSystem NotText = Unit {0}
IsOfSystem Memory = Unit {0}

-- ---- for private functions; no public contract cites the rest

-- What is returned when the parser has reported this.
abbrev pub IsShown : ErrorKind → Result Request WordsFault → Type 0
IsShown kind (Ok (Help text)) = IsHelp kind
IsShown kind (Ok command) = ⊥
IsShown kind (Err (Mistake text)) = IsMistake kind
IsShown kind (Err SameStores) = ⊥
IsShown kind (Err Workers) = ⊥
IsShown kind (Err Views) = ⊥
IsShown kind (Err NoTree) = ⊥
IsShown kind (Err Phase) = ⊥
IsShown kind (Err Place) = ⊥
IsShown kind (Err NotText) = ⊥
IsShown kind (Err Memory) = Unit {0}

-- The name of a subcommand, and its store if it has one.
abbrev pub Named : Type 0
Named = Option (Text × Option Text)

abbrev pub named_in : Option (Text × List Row) → Named
named_in entered = option_map (λ s. (s.0, first_of (codes "STORE") s.1)) entered

-- The subcommand and the store in the parser's matches.
abbrev pub named_by : ArgMatches → Named
named_by matches = named_in (subcommand_rows_of matches)

-- The new store of a migration or a renewal.
abbrev pub new_in : Option (Text × List Row) → Option Text
new_in entered = word_in (codes "NEW") entered

abbrev pub new_by : ArgMatches → Option Text
new_by matches = new_in (subcommand_rows_of matches)

-- This subcommand is named, with these two stores.
abbrev pub NamesTwo : (command old given : Text) → Named → Option Text → Type 0
NamesTwo command old given named new =
    (named ≡ Some (command, Some old)) × (new ≡ Some given)

-- The parser has found this request, or one of the six mistakes that it can't know.
abbrev pub Asks : Option (Text × List Row) → Result Request WordsFault → Type 0
Asks entered (Ok (Demo strict)) = NamesDemo strict entered
Asks entered (Ok (Format store is_new)) = NamesFormat store.now is_new entered
Asks entered (Ok (Script store strict is_timed)) =
    NamesScript store.now strict is_timed entered
Asks entered (Ok (Inspect store view)) =
    NamesInspect store.now (Ok view) entered
Asks entered (Ok (Crew store workers known)) =
    NamesCrew store.now (Some workers) known entered
Asks entered (Ok (Migrate old given is_new)) =
    NamesMigration old.now given.now is_new entered × (old.now ≢ given.now)
Asks entered (Ok (Renew old given is_new)) =
    NamesRenewal old.now (Some given.now) is_new false entered × (old.now ≢ given.now)
Asks entered (Ok (RenewInPlace store)) = NamesRenewal store.now None false true entered
Asks entered (Ok Plan) = NamesPlan entered
Asks entered (Ok (Drive store)) = NamesDrive store.now entered
Asks entered (Ok (Help text)) = ⊥
Asks entered (Err SameStores) = (store : Text) × ((is_new : Bool)
    × (NamesMigration store store is_new entered
    ⊎ NamesRenewal store (Some store) is_new false entered))
Asks entered (Err Workers) = (store : Text) × ((known : Bool)
    × NamesCrew store None known entered)
Asks entered (Err Views) = (store : Text) × NamesInspect store (Err Views) entered
Asks entered (Err NoTree) = (store : Text) × NamesInspect store (Err NoTree) entered
Asks entered (Err Phase) = (store : Text) × NamesInspect store (Err Phase) entered
Asks entered (Err Place) = (store : Text) × ((new_one : Option Text)
    × ((is_new : Bool) × ((in_place : Bool) × (is_misplaced new_one is_new in_place ≡ true)
    × NamesRenewal store new_one is_new in_place entered)))
Asks entered (Err why) = ⊥

-- A subcommand is named, with the stores that it needs.
abbrev pub IsNamed : Named → Option Text → Type 0
IsNamed named new = ((first : Option Text) × (named ≡ Some (codes "demo", first)))
    ⊎ (((first : Option Text) × (named ≡ Some (codes "plan", first)))
    ⊎ (((first : Option Text) × (named ≡ Some (codes "crew", first)))
    ⊎ ((store : Text) × ((named ≡ Some (codes "format", Some store))
    ⊎ ((named ≡ Some (codes "script", Some store))
    ⊎ ((named ≡ Some (codes "inspect", Some store))
    ⊎ ((named ≡ Some (codes "drive", Some store))
    ⊎ ((named ≡ Some (codes "renew", Some store))
    ⊎ ((given : Text) × NamesTwo (codes "migrate") store given named new)))))))))

-- A crew over this store, with the number of workers that this word says, and with only known jobs
-- or with any; or the mistake of a wrong number.
abbrev pub IsCrew : Text → Option Text → Bool → Result Request WordsFault → Type 0
IsCrew store workers known (Ok (Crew s n k)) =
    (s.now ≡ store) × (workers_of workers ≡ Some n) × (k ≡ known)
IsCrew store workers known (Ok asked) = ⊥
IsCrew store workers known (Err Workers) = workers_of workers ≡ None
IsCrew store workers known (Err why) = ⊥

-- A view of this store; or the mistake of several views, of no tree or of a wrong phase.
abbrev pub IsInspect : Text → (word : Text → Option Text) → Result Request WordsFault → Type 0
IsInspect store word (Ok (Inspect s v)) = (s.now ≡ store) × IsView word (Ok v)
IsInspect store word (Ok asked) = ⊥
IsInspect store word (Err why) = IsView word (Err why)

-- The tasks in this phase and of this group, as JSON or as lines; or the mistake of a wrong phase.
abbrev pub IsTasks : (phase group : Option Text) → (json : Bool) → Result View WordsFault → Type 0
IsTasks phase group json (Ok (Tasks p g)) = (phase ≡ option_map (λ text. text.now) p)
    × (group ≡ option_map (λ text. text.now) g) × (names_phase phase ≡ true) × (json ≡ false)
IsTasks phase group json (Ok (Json p g)) = (phase ≡ option_map (λ text. text.now) p)
    × (group ≡ option_map (λ text. text.now) g) × (names_phase phase ≡ true) × (json ≡ true)
IsTasks phase group json (Ok view) = ⊥
IsTasks phase group json (Err Phase) = names_phase phase ≡ false
IsTasks phase group json (Err why) = ⊥

-- A renewal or a migration between two different names, to a new file or to any; or the mistake of
-- equal names.
abbrev pub IsForTwo : (renews is_new : Bool) (old new : Text) → Result Request WordsFault → Type 0
IsForTwo renews is_new old new (Ok (Migrate o n b)) =
    (renews ≡ false) × (b ≡ is_new) × (o.now ≡ old) × (n.now ≡ new) × (old ≢ new)
IsForTwo renews is_new old new (Ok (Renew o n b)) =
    (renews ≡ true) × (b ≡ is_new) × (o.now ≡ old) × (n.now ≡ new) × (old ≢ new)
IsForTwo renews is_new old new (Ok asked) = ⊥
IsForTwo renews is_new old new (Err SameStores) = old ≡ new
IsForTwo renews is_new old new (Err why) = ⊥

-- A renewal of this store, into this new one or in place; or the mistake of a wrong place, or that
-- of equal names.
abbrev pub IsRenewal : (old : Text) (new : Option Text) (is_new in_place : Bool)
    → Result Request WordsFault → Type 0
IsRenewal old new is_new in_place (Ok (Renew o n b)) =
    (o.now ≡ old) × (new ≡ Some n.now) × (b ≡ is_new) × (in_place ≡ false) × (old ≢ n.now)
IsRenewal old new is_new in_place (Ok (RenewInPlace o)) =
    (o.now ≡ old) × (new ≡ None) × (is_new ≡ false) × (in_place ≡ true)
IsRenewal old new is_new in_place (Ok asked) = ⊥
IsRenewal old new is_new in_place (Err SameStores) = (new ≡ Some old) × (in_place ≡ false)
IsRenewal old new is_new in_place (Err Place) = is_misplaced new is_new in_place ≡ true
IsRenewal old new is_new in_place (Err why) = ⊥
