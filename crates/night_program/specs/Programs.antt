-- What the program does, by its arguments.
use Rattle.std.specs.Prelude.{◌≡◌, ◌⊎◌, ◌<◌, ◌&&◌, ℕ, Bool, true, false, List, Option, None, ⊤}
use Rattle.std.specs.Prelude.{Result, Ok, Err, IfErr, IfOk}
use Rattle.std.specs.String.{string_bytes}
use Rattle.run_disk.specs.Disk.{DiskState}
use Rattle.console_lines.specs.declared.faults.RunFault.{RunFault}
use Rattle.console_lines.specs.declared.faults.RunFault.TheVariants.{Memory}
use Rattle.console_lines.specs.declared.rejections.RejectedLine.{RejectedLine}
use Rattle.run_crew.specs.Crews.{CrewEnds}
use Rattle.night_words.specs.Commands.{AsksFor, IsAnswer, IsCausedBy, faults_of}
use Rattle.night_words.specs.declared.requests.Request.{Request}
use Rattle.night_words.specs.declared.requests.Request.TheVariants.{Crew, Demo, Drive, Format}
use Rattle.night_words.specs.declared.requests.Request.TheVariants.{Help, Inspect, Migrate, Plan}
use Rattle.night_words.specs.declared.requests.Request.TheVariants.{Renew, RenewInPlace, Script}
use Rattle.night_words.specs.declared.faults.WordsFault.{WordsFault}
use Rattle.night_words.specs.declared.faults.WordsFault.TheVariants as words
use Rattle.night_words.specs.Faults.{fault_text}
use Rattle.night_program.specs.Demos.{DemoEnds}
use Rattle.night_program.specs.Drives.{DoesDrive}
use Rattle.night_program.specs.Plans.{DoesPlan}
use Rattle.night_program.specs.Scripts.{DoesScript, until_of}
use Rattle.night_program.specs.Timed.{DoesTimed}
use Rattle.night_program.specs.Crews.{AnswersCrew, AreOpenShifts, IsLooked, StopsAt}
use Rattle.store_words.specs.declared.endings.Done.{Done}
use Rattle.store_words.specs.declared.endings.Ended.{Ended}
use Rattle.store_words.specs.declared.failures.Failure.{Failure}
use Rattle.store_words.specs.declared.failures.FileFailure.{FileFailure}
use Rattle.store_words.specs.Endings.{EndsBy}
use Rattle.store_words.specs.Failures.{AnswersAlone, AnswersStrict, HasNoFile, Names}
use Rattle.store_words.specs.Hints.{Hints}
use Rattle.store_words.specs.Replacements.{DoesRenewInPlace}
use Rattle.store_words.specs.Stores.{DoesPrint}
use Rattle.store_words.specs.Words.{DoesFormat, DoesInspect, DoesMigrate, DoesRenew}
use Rattle.store_files.specs.ErrorSinks.{SinkState, IsPrinted}
use Rattle.store_files.specs.Files.{FilesView, HoldsAlone, IsSettled, ToOpen}

-- A crew was asked for.
abbrev pub asks_crew : Request → Bool
asks_crew (Crew store workers known) = true
asks_crew asked = false

-- The request reads lines.
abbrev pub reads_lines : Request → Bool
reads_lines (Demo strict) = true
reads_lines (Script store strict is_timed) = true
reads_lines asked = false

-- The exit status if the arguments ask for nothing.
abbrev pub refusal_status : WordsFault → ℕ
refusal_status words.Memory = 4
refusal_status _ = 2

-- The arguments ask for nothing, and the reason is printed.
abbrev pub Refuses : WordsFault → Ended → (e0 e1 : SinkState) → Type 0
Refuses why ended e0 e1 =
    (ended.status ≡ refusal_status why) × IsPrinted ended.printed (fault_text why) e0 e1

module _ {F D : Type 0} (state : D → DiskState) (seen : FilesView F D) where
  -- ---- crew

  -- The file of this name was opened, and this many workers worked off its tasks. If their jobs had
  -- to be known, the store was read first, and has no task of an unknown job that hasn't ended. The
  -- file is the disk that the night left.
  pub record Works (store : List ℕ) (workers : ℕ) (known : Bool) (answer : Result Done Failure)
      (f0 f1 : F) (w0 w1 : Option (List ℕ)) : Type 0 where
    pub given : D
    pub begun : D
    pub left : D
    pub done : Result Bool RunFault
    pub held : HoldsAlone seen seen.opens store given left f0 f1
    pub settled : IsSettled (state given)
    pub looked : IsLooked state known given begun
    pub works : CrewEnds state (AreOpenShifts state) begun workers done left w0 w1
    pub answers : AnswersCrew (Names (seen.notes given) store) done answer

  -- The file of this name was opened and only read: no state was found in it, or tasks of unknown
  -- jobs. Nothing was started, and the file is the disk that was read.
  pub record LooksFirst (store : List ℕ) (answer : Result Done Failure)
      (f0 f1 : F) (w0 w1 : Option (List ℕ)) : Type 0 where
    pub given : D
    pub read : D
    pub held : HoldsAlone seen seen.opens store given read f0 f1
    pub settled : IsSettled (state given)
    pub stops : StopsAt state (Names (seen.notes given) store) given answer read
    pub output : w1 ≡ w0

  -- If there were fewer lists of jobs than workers, nothing was done.
  abbrev pub DoesCrew : (store : List ℕ) → (workers lists : ℕ) → (known : Bool)
      → Result Done Failure → (f0 f1 : F) → (w0 w1 : Option (List ℕ)) → Type 0
  DoesCrew store workers lists known answer f0 f1 w0 w1 =
      ((lists < workers) × AnswersAlone {T = ⊤} (Err Memory) answer × (f1 ≡ f0) × (w1 ≡ w0))
      ⊎ ((HasNoFile (seen.refuses ToOpen f0 store) store answer × (f1 ≡ f0) × (w1 ≡ w0))
      ⊎ (Works store workers known answer f0 f1 w0 w1
      ⊎ ((known ≡ true) × LooksFirst store answer f0 f1 w0 w1)))

  -- ---- without a store's file

  -- The input was run over a book in memory: all of it, or in a strict run up to the first line
  -- that is bad or refused.
  abbrev pub DoesDemo : (strict : Bool) → Result Done Failure
      → (r0 r1 w0 w1 : Option (List ℕ)) → Type 0
  DoesDemo strict answer r0 r1 w0 w1 =
      (done : Result (Option RejectedLine) RunFault) × DemoEnds (until_of strict) done r0 r1 w0 w1
      × AnswersStrict (λ failure. failure.file ≡ None) done answer

  -- ---- all subcommands

  -- What was asked for was done, with this many lists of jobs and a clock that shows these moments.
  -- A subcommand that needs no input, or no files, leaves them untouched.
  abbrev pub Does : Request → (lists : ℕ) → (moments : Option (List ℕ)) → Result Done Failure
      → (f0 f1 : F) → (r0 r1 w0 w1 : Option (List ℕ)) → Type 0
  Does (Demo strict) lists moments answer f0 f1 r0 r1 w0 w1 =
      DoesDemo strict answer r0 r1 w0 w1 × (f1 ≡ f0)
  Does (Format store only_new) lists moments answer f0 f1 r0 r1 w0 w1 =
      DoesFormat state seen store.now only_new answer f0 f1 w0 w1 × (r1 ≡ r0)
  Does (Script store strict false) lists moments answer f0 f1 r0 r1 w0 w1 =
      DoesScript state seen store.now strict answer f0 f1 r0 r1 w0 w1
  Does (Script store strict true) lists moments answer f0 f1 r0 r1 w0 w1 =
      DoesTimed state seen moments store.now strict answer f0 f1 r0 r1 w0 w1
  Does (Inspect store view) lists moments answer f0 f1 r0 r1 w0 w1 =
      DoesInspect state seen view store.now answer f0 f1 w0 w1 × (r1 ≡ r0)
  Does (Crew store workers known) lists moments answer f0 f1 r0 r1 w0 w1 =
      DoesCrew store.now workers lists known answer f0 f1 w0 w1 × (r1 ≡ r0)
  Does (Migrate old new is_new) lists moments answer f0 f1 r0 r1 w0 w1 =
      DoesMigrate state seen is_new old.now new.now answer f0 f1 w0 w1 × (r1 ≡ r0)
  Does (Renew old new is_new) lists moments answer f0 f1 r0 r1 w0 w1 =
      DoesRenew state seen is_new old.now new.now answer f0 f1 w0 w1 × (r1 ≡ r0)
  Does (RenewInPlace store) lists moments answer f0 f1 r0 r1 w0 w1 =
      DoesRenewInPlace state seen store.now answer f0 f1 w0 w1 × (r1 ≡ r0)
  Does Plan lists moments answer f0 f1 r0 r1 w0 w1 =
      DoesPlan answer r0 r1 w0 w1 × (f1 ≡ f0)
  Does (Drive store) lists moments answer f0 f1 r0 r1 w0 w1 =
      DoesDrive state seen store.now answer f0 f1 r0 r1 w0 w1
  Does (Help text) lists moments answer f0 f1 r0 r1 w0 w1 =
      DoesPrint (string_bytes text) answer w0 w1 × (f1 ≡ f0) × (r1 ≡ r0)

-- Nothing was read, printed or done with a file.
abbrev pub IsUntouched : {F : Type 0} → (f0 f1 : F) → (r0 r1 w0 w1 : Option (List ℕ)) → Type 0
IsUntouched f0 f1 r0 r1 w0 w1 = (f1 ≡ f0) × (r1 ≡ r0) × (w1 ≡ w0)

-- The arguments ask for nothing. The reason was printed, and nothing else was done.
abbrev pub IsRefused : {F : Type 0} → WordsFault → Ended → (f0 f1 : F)
    → (r0 r1 w0 w1 : Option (List ℕ)) → (e0 e1 : SinkState) → Type 0
IsRefused why ended f0 f1 r0 r1 w0 w1 e0 e1 =
    Refuses why ended e0 e1 × IsUntouched f0 f1 r0 r1 w0 w1

module _ {F D : Type 0} (state : D → DiskState) (seen : FilesView F D)
    (Stream : RunFault → Option FileFailure → Type 0) where
  -- What the arguments ask for was done, with this many lists of jobs and a clock that shows these
  -- moments, and how it ended was printed, with the stream that is to blame for a fault (Stream). A
  -- hint was printed before, if the input is a terminal.
  abbrev pub Obeys : Result Request WordsFault → (lists : ℕ) → (moments : Option (List ℕ))
      → (is_terminal : Bool) → Ended
      → (f0 f1 : F) → (r0 r1 w0 w1 : Option (List ℕ)) → (e0 e1 : SinkState) → Type 0
  Obeys (Ok asked) lists moments is_terminal ended f0 f1 r0 r1 w0 w1 e0 e1 =
      (answer : Result Done Failure) × Does state seen asked lists moments answer f0 f1 r0 r1 w0 w1
      × ((e : SinkState) × Hints (is_terminal && reads_lines asked) e0 e
      × EndsBy Stream answer ended e e1)
  Obeys (Err why) lists moments is_terminal ended f0 f1 r0 r1 w0 w1 e0 e1 =
      IsRefused why ended f0 f1 r0 r1 w0 w1 e0 e1

  -- The arguments were read, and what they ask for was done.
  abbrev pub RunsWords : List (List ℕ) → (lists : ℕ) → (moments : Option (List ℕ))
      → (is_terminal : Bool) → Ended
      → (f0 f1 : F) → (r0 r1 w0 w1 : Option (List ℕ)) → (e0 e1 : SinkState) → Type 0
  RunsWords words lists moments is_terminal ended f0 f1 r0 r1 w0 w1 e0 e1 =
      (read : Result Request WordsFault) × IsAnswer (faults_of words) read
      × IfOk read (λ asked. AsksFor asked words) × IfErr read (λ why. IsCausedBy why words)
      × Obeys read lists moments is_terminal ended f0 f1 r0 r1 w0 w1 e0 e1
