-- What each subcommand does to a store: what its disk was before, and what is left of it.
use Rattle.std.specs.Prelude.{◌≡◌, ◌⊎◌, ◌++◌, ℕ, List, Option, Result, Ok, Err, codes}
use Rattle.std.specs.Prelude.{⊤, length, option_map}
use Rattle.std.specs.Fmt.{decimal}
use Rattle.std.specs.Io.KnownBytes.{Appends}
use Rattle.run_model.specs.declared.faults.Fault.{Fault}
use Rattle.run_model.specs.State.{State}
use Rattle.run_disk.specs.Disk.{DiskState, IsAtRest}
use Rattle.book_model.specs.Openings.{FormatsNot, HasFormatted, HasRecovered, RecoversNone}
use Rattle.book_model.specs.declared.migrations.MigrateFault.{MigrateFault}
use Rattle.book_model.specs.declared.migrations.MigrateFault.TheVariants as of_two
use Rattle.book_model.specs.Migrations.{Migrates}
use Rattle.book_renewal.specs.Renewals.{Renews}
use Rattle.console_lines.specs.declared.faults.RunFault.{RunFault}
use Rattle.console_lines.specs.declared.faults.RunFault.TheVariants.{Output}
use Rattle.state_views.specs.Branches.{tree_text}
use Rattle.state_views.specs.Entries.{json_text}
use Rattle.state_views.specs.Inspected.{inspected}
use Rattle.state_views.specs.Listed.{listed}
use Rattle.console_lines.specs.Progress.{WritesPart}
use Rattle.state_views.specs.Summaries.{summary_text}
use Rattle.console_lines.specs.Faults.{stopped}
use Rattle.state_views.specs.declared.views.View.{View}
use Rattle.state_views.specs.declared.views.View.TheVariants.{Json, Summary, Tasks, Tree, Whole}
use Rattle.store_words.specs.Failures.{AnswersAlone, FailsOf}
use Rattle.store_words.specs.declared.endings.Done.{Done}
use Rattle.store_words.specs.declared.failures.Failure.{Failure}
use Rattle.store_words.specs.declared.renewals.Kept.{Kept}
use Rattle.store_words.specs.declared.renewals.Sizes.{Sizes}

-- A text was printed whole, or as much of it as the output accepted.
abbrev pub Prints : {T : Type 0} → List ℕ → Result T RunFault → (w0 w1 : Option (List ℕ)) → Type 0
Prints text (Ok done) w0 w1 = Appends w0 w1 text
Prints text (Err why) w0 w1 = (why ≡ Output) × WritesPart w0 w1 text

-- A text was printed, and no file is to blame if it wasn't.
abbrev pub DoesPrint : List ℕ → Result Done Failure → (w0 w1 : Option (List ℕ)) → Type 0
DoesPrint text answer w0 w1 =
    (done : Result ⊤ RunFault) × Prints text done w0 w1 × AnswersAlone done answer

-- ---- format

-- The disk was formatted, and `formatted` was printed. If the disk is honest and was at rest, it is
-- at rest again. Or it wasn't formatted, and nothing was printed; the fault says why.
abbrev pub FormatEnds : {T D : Type 0} → (D → DiskState) → (given : D)
    → Result T RunFault → (left : D) → (w0 w1 : Option (List ℕ)) → Type 0
FormatEnds state given answer left w0 w1 =
    (HasFormatted (state given) (state left)
    × ((state given).honest → IsAtRest (state given) → IsAtRest (state left))
    × Prints (codes "formatted\n") answer w0 w1)
    ⊎ ((why : Fault) × (answer ≡ Err (stopped why)) × FormatsNot state given why left
    × (w1 ≡ w0))

-- ---- inspect

-- The state on the disk was recovered, and this text of it was printed. Or no state was recovered,
-- and nothing was printed; the fault says why. In each case the disk was only read.
abbrev pub Shows : {T D : Type 0} → (State → List ℕ) → (D → DiskState) → (old : D)
    → Result T RunFault → (new : D) → (w0 w1 : Option (List ℕ)) → Type 0
Shows text state old answer new w0 w1 =
    ((p : State) × HasRecovered p (state old) (state new) × Prints (text p) answer w0 w1)
    ⊎ ((why : Fault) × (answer ≡ Err (stopped why)) × RecoversNone state old why new
    × (w1 ≡ w0))

-- The text of a view of a state: all of its rows; the lines of its tasks, or of those in a phase
-- and of a group; all of its rows as one object of JSON, with these tasks; a tree, with or without
-- tasks; or its summary.
abbrev pub view_text : View → State → List ℕ
view_text Whole p = inspected p
view_text (Tasks phase group) p =
    listed (option_map (λ word. word.now) phase) (option_map (λ word. word.now) group) p
view_text (Json phase group) p =
    json_text (option_map (λ word. word.now) phase) (option_map (λ word. word.now) group) p
view_text (Tree no_tasks) p = tree_text no_tasks p
view_text Summary p = summary_text p

-- The text of the view was printed.
abbrev pub InspectEnds : {T D : Type 0} → View → (D → DiskState) → (old : D)
    → Result T RunFault → (new : D) → (w0 w1 : Option (List ℕ)) → Type 0
InspectEnds view state old answer new w0 w1 = Shows (view_text view) state old answer new w0 w1

-- ---- migrate

-- The line of a migration, which says how many events the new store has, as in
-- `migrated; events 6`.
abbrev pub migrated_line : ℕ → List ℕ
migrated_line count = codes "migrated; events " ++ decimal count ++ codes "\n"

-- A new store was made from the old one (Made), but couldn't be read: the fault is that of the new
-- store. Or none was made.
abbrev pub MakesNot : {D E : Type 0} → (Made : Result E (MigrateFault × E) → D → Type 0)
    → (to : E → DiskState) → MigrateFault → (read : D) → (left : E) → Type 0
MakesNot {E = E} Made to fault read left =
    Made (Err (fault, left)) read
    ⊎ ((made : E) × (why : Fault) × (fault ≡ of_two.New why) × Made (Ok made) read
    × RecoversNone to made why left)

-- The small store was migrated, and the new store was read: it has this many events. Or why not,
-- and what is left of the two disks.
abbrev pub MigratesRead : {D E : Type 0} → (D → DiskState) → (E → DiskState) → (old : D)
    → (given : E) → Result ℕ MigrateFault → (read : D) → (left : E) → Type 0
MigratesRead {E = E} from to old given (Ok count) read left =
    (made : E) × (p : State) × Migrates from to old given (Ok made) read
    × HasRecovered p (to made) (to left) × (count ≡ p.count)
MigratesRead from to old given (Err fault) read left =
    MakesNot (Migrates from to old given) to fault read left

-- A store was made in the new file from the one in the old file, and this line about it was
-- printed. Or none was made, or it couldn't be read, and nothing was printed; the result holds the
-- fault and the file that is to blame, the old one or the new one (Old or New).
abbrev pub AnswersMade : {K : Type 0} → (line : K → List ℕ) → (Old New : Failure → Type 0)
    → Result K MigrateFault → Result Done Failure → (w0 w1 : Option (List ℕ)) → Type 0
AnswersMade line Old New (Ok kept) answer w0 w1 = DoesPrint (line kept) answer w0 w1
AnswersMade line Old New (Err why) answer w0 w1 = FailsOf Old New why answer × (w1 ≡ w0)

-- ---- renew

-- The numbers of events, scopes, groups and tasks of a state.
abbrev pub sizes : State → Sizes
sizes p = record {
  events = p.count;
  scopes = length p.tree.scopes;
  groups = length p.work.groups;
  tasks = length p.work.tasks;
}

-- A state was recovered, and has these sizes.
abbrev pub HasSizes : (found : Sizes) → (old read : DiskState) → Type 0
HasSizes found old read = (p : State) × HasRecovered p old read × (found ≡ sizes p)

-- How many rows are left of how many, as in `; tasks 3 of 8`.
abbrev pub of_text : (word : List ℕ) → (left were : ℕ) → List ℕ
of_text word left were = word ++ decimal left ++ (codes " of " ++ decimal were)

-- The line of a renewal, which says how much is left of the old store, as in
-- `renewed; events 9; scopes 2 of 4; groups 1 of 3; tasks 3 of 8`.
abbrev pub sizes_line : (before left : Sizes) → List ℕ
sizes_line before left =
    codes "renewed; events " ++ decimal left.events
    ++ of_text (codes "; scopes ") left.scopes before.scopes
    ++ of_text (codes "; groups ") left.groups before.groups
    ++ of_text (codes "; tasks ") left.tasks before.tasks
    ++ codes "\n"

abbrev pub renewed_line : Kept → List ℕ
renewed_line kept = sizes_line kept.before kept.left

-- A store was read and then renewed, and the new store was read: this many rows there were, and
-- this many are left.
pub record HasRemade {D E : Type 0} (from : D → DiskState) (to : E → DiskState) (old : D)
    (given : E) (kept : Kept) (read : D) (left : E) : Type 0 where
  pub seen : D
  pub made : E
  pub before : HasSizes kept.before (from old) (from seen)
  pub renewed : Renews from to seen given (Ok made) read
  pub behind : HasSizes kept.left (to made) (to left)

-- Why not, and what is left of the two disks: the old store couldn't be read, and nothing was made;
-- or no new store was made; or one was made that couldn't be read.
abbrev pub RemakesNot : {D E : Type 0} → (D → DiskState) → (E → DiskState) → (old : D)
    → (given : E) → MigrateFault → (read : D) → (left : E) → Type 0
RemakesNot {D = D} from to old given fault read left =
    ((why : Fault) × (fault ≡ of_two.Old why) × RecoversNone from old why read × (left ≡ given))
    ⊎ ((p : State) × (seen : D) × HasRecovered p (from old) (from seen)
    × MakesNot (Renews from to seen given) to fault read left)

abbrev pub Remakes : {D E : Type 0} → (D → DiskState) → (E → DiskState) → (old : D)
    → (given : E) → Result Kept MigrateFault → (read : D) → (left : E) → Type 0
Remakes from to old given (Ok kept) read left = HasRemade from to old given kept read left
Remakes from to old given (Err fault) read left = RemakesNot from to old given fault read left
