-- What runs of the program leave of a store, one after another, and what the next one finds of it.
use mathlib.Core.Logic.{inl, inr}
use Rattle.std.specs.Prelude.{◌≡◌, ◌⊎◌, ◌∷◌, [], List, ℕ, Bool, true, ⊤}
use Rattle.std.specs.Prelude.{Option, None, Some, Result, Ok, Err, unwrap_or}
use Rattle.std.specs.List.{list_all}
use Rattle.run_model.specs.declared.answers.Reply.{Reply}
use Rattle.run_model.specs.declared.faults.Trouble.{Trouble}
use Rattle.run_model.specs.declared.layouts.Layout.{Layout}
use Rattle.run_model.specs.Event.{Event}
use Rattle.run_model.specs.Layouts.{store_len}
use Rattle.run_model.specs.State.{State, formatted}
use Rattle.run_disk.specs.Disk.{DiskState}
use Rattle.state_renewal.specs.Renewed.{renewed_in}
use Rattle.book_model.specs.Books.{BookView}
use Rattle.book_model.specs.Migrations.{widened}
use Rattle.book_model.specs.Openings.{Opens}
use Rattle.book_model.specs.Plays.{last_acked}
use Rattle.book_model.specs.Standing.{CutsOpening}
use Rattle.book_model.specs.Stores.{Stores}
use Rattle.run_crew.specs.Openings.{is_work}
use Rattle.book_model.specs.declared.migrations.MigrateFault.{MigrateFault}
use Rattle.console_lines.specs.declared.faults.RunFault.{RunFault}
use Rattle.drive_runs.specs.Laws.{Reaches}
use Rattle.drive_runs.specs.Moving.{Moves}
use Rattle.drive_runs.specs.Runs.{Answers, Place, Sittings}
use Rattle.run_crew.specs.Crews.{CrewEnds, StoresNight}
use Rattle.night_program.specs.Crews.{AreOpenShifts}
use Rattle.store_words.specs.declared.renewals.Kept.{Kept}
use Rattle.night_program.specs.CutScripts.{CutsLines}
use Rattle.store_words.specs.Lasting.{CutsMaking, FindsLeft, IsReadAlone, LeadsBy}
use Rattle.store_words.specs.Stores.{FormatEnds, MigratesRead, Remakes}

-- The bytes store this state, or the state to which its restart and a prefix of a night's starts
-- and finishes lead.
pub record StoresWork (p : State) (bytes : List ℕ) : Type 0 where
  pub work : List Event
  pub only : list_all is_work work ≡ true
  pub stores : StoresNight p work bytes

-- ---- what runs lead to

-- What can be seen of a run of the program, which may have ended at any moment.
pub data Run : Type 0 where
  -- the store was only read
  Reading : Run
  -- lines were run over it, which led to these events, and these replies were printed
  Scripting : List Event → List Reply → Run
  -- a crew worked on it, and `acked n` was printed, or not
  Working : Option ℕ → Run
  -- it was formatted, in this layout
  Formatting : Layout → Run
  -- a large store was made of it
  Migrating : Run
  -- one of this layout was made of what isn't finished in it
  Renewing : Layout → Run
  -- a night was driven over it: the store was opened this many times, and then once more, when
  -- these events came; and what the last whole answer reported was acknowledged, up to the event of
  -- this number
  Driving : ℕ → List Event → ℕ → Run

-- The run leads from state p to state q.
abbrev pub Leads : State → Run → State → Type 0
Leads p Reading q = q ≡ p
Leads p (Scripting events reported) q = LeadsBy p events (unwrap_or (last_acked reported) 0) q
Leads p (Working reported) q =
    (work : List Event) × (list_all is_work work ≡ true) × LeadsBy p work (unwrap_or reported 0) q
Leads p (Formatting layout) q = q ≡ formatted layout
Leads p Migrating q = q ≡ widened p
Leads p (Renewing layout) q = q ≡ renewed_in layout p
Leads p (Driving openings events reported) q =
    Reaches openings p (λ between. LeadsBy between events reported q)

-- The runs, one after another, lead from state p to state q.
abbrev pub LeadOn : State → List Run → State → Type 0
LeadOn p [] q = q ≡ p
LeadOn p (run ∷ runs) q = (next : State) × Leads p run next × LeadOn next runs q

-- ---- what was done with the disks

-- The number of events that the last flush of a crew's night acknowledged.
abbrev pub flushed_of : Result ℕ Trouble → Option ℕ
flushed_of (Ok count) = Some count
flushed_of (Err why) = None

module _ {D : Type 0} (state : D → DiskState) where
  abbrev pub flushed_by : (given : D) (workers : ℕ) (answer : Result Bool RunFault) (left : D)
      (w0 w1 : Option (List ℕ))
      → CrewEnds state (AreOpenShifts state) given workers answer left w0 w1 → Option ℕ
  flushed_by given workers answer left w0 w1 (inl none) = None
  flushed_by given workers answer left w0 w1 (inr (b, opened, begun, inl none)) = None
  flushed_by given workers answer left w0 w1
      (inr (b, opened, begun, inr (audit, starts, finishes, flushed, worked, reported, promises))) =
      flushed_of flushed

  -- A crew worked on the store on a disk. A crash came at any moment; or after the night, when what
  -- its last flush acknowledged was printed.
  pub record CutsCrew (given : D) (reported : Option ℕ) (next : D) : Type 0 where
    pub workers : ℕ
    pub answer : Result Bool RunFault
    pub left : D
    pub w0 : Option (List ℕ)
    pub w1 : Option (List ℕ)
    pub ends : CrewEnds state (AreOpenShifts state) given workers answer left w0 w1
    pub cut : ((reported ≡ None) × FindsLeft state given left next)
        ⊎ ((reported ≡ flushed_by given workers answer left w0 w1 ends)
        × FindsLeft state left left next)

  -- A night was driven over the store on a disk, from this place on. A crash or the end came after
  -- these answers over its last opening.
  pub record CutsAnswers (input : Option (List ℕ)) (given : D) (at : Place) (events : List Event)
      (reported : ℕ) (next : D) : Type 0 where
    pub before : BookView D
    pub opened : Opens state given (Ok before)
    pub count : ℕ
    pub to : Place
    pub middle : BookView D
    pub answers : Answers state input count at before to middle
    pub after : BookView D
    pub goes_on : Moves state middle after
    pub history : after.session.history ≡ events
    pub acked : reported ≡ middle.durable
    pub finds : FindsLeft state middle.journal.disk after.journal.disk next

  -- A night was driven by some input over the store on a disk, which was opened this many times. A
  -- crash or the end came in the opening after these, or over it.
  pub record CutsDrive (given : D) (openings : ℕ) (events : List Event) (reported : ℕ) (next : D)
      : Type 0 where
    pub input : Option (List ℕ)
    pub at : Place
    pub middle : D
    pub to : Place
    pub sittings : Sittings state input openings given at middle to
    pub cut : ((reported ≡ 0) × CutsOpening state middle next)
        ⊎ CutsAnswers input middle to events reported next

  -- The program made this run over the store on the disk, and the next opening finds the other one.
  abbrev pub RunLeaves : (given : D) → Run → (next : D) → Type 0
  RunLeaves given Reading next =
      (read : D) × IsReadAlone (state given) (state read) × FindsLeft state given read next
  RunLeaves given (Scripting events reported) next =
      ((reported ≡ []) × CutsOpening state given next) ⊎ CutsLines state given events reported next
  RunLeaves given (Working reported) next = CutsCrew given reported next
  RunLeaves given (Formatting layout) next =
      CutsMaking state (λ made left. ((state made).size ≡ store_len layout)
      × (done : Result ⊤ RunFault) × (w0 : Option (List ℕ)) × (w1 : Option (List ℕ))
      × FormatEnds state made done left w0 w1) next
  RunLeaves given Migrating next =
      CutsMaking state (λ made left. (looked : D) × IsReadAlone (state given) (state looked)
      × (done : Result ℕ MigrateFault) × (read : D)
      × MigratesRead state state looked made done read left) next
  RunLeaves given (Renewing layout) next =
      CutsMaking state (λ made left. ((state made).size ≡ store_len layout)
      × (looked : D) × IsReadAlone (state given) (state looked)
      × (done : Result Kept MigrateFault) × (read : D)
      × Remakes state state looked made done read left) next
  RunLeaves given (Driving openings events reported) next =
      CutsDrive given openings events reported next

  -- It made these runs, one after another.
  abbrev pub RunsLeave : (given : D) → List Run → (next : D) → Type 0
  RunsLeave given [] next = next ≡ given
  RunsLeave given (run ∷ runs) next =
      (found : D) × RunLeaves given run found × RunsLeave found runs next

-- The bytes store a state to which these runs lead.
pub record StoresAfterRuns (p : State) (runs : List Run) (bytes : List ℕ) : Type 0 where
  pub state : State
  pub stores : Stores bytes state
  pub leads : LeadOn p runs state
