-- What a script leaves of a store, cut anywhere, and what the next opening finds of it.
use Rattle.std.specs.Prelude.{◌≡◌, ◌⊎◌, ℕ, List, Option, Result, Err}
use Rattle.run_model.specs.declared.answers.Reply.{Reply}
use Rattle.run_model.specs.declared.commands.Step.{Step}
use Rattle.run_model.specs.declared.faults.Fault.{Fault}
use Rattle.run_model.specs.Event.{Event}
use Rattle.run_disk.specs.Disk.{DiskState}
use Rattle.book_model.specs.Books.{BookView}
use Rattle.book_model.specs.Openings.{Opens}
use Rattle.book_model.specs.Steps.{StepsOn}
use Rattle.console_lines.specs.declared.faults.RunFault.{RunFault}
use Rattle.console_lines.specs.declared.rejections.RejectedLine.{RejectedLine}
use Rattle.run_console.specs.declared.untils.Until.{Until}
use Rattle.night_program.specs.Scripts.{Runs, RunsOver}
use Rattle.store_words.specs.Lasting.{FindsLeft}

-- Lines were run over a book: all of them, or those up to the first one that is bad or refused.
abbrev pub RunsLines : {D : Type 0} → (D → DiskState) → BookView D → BookView D → Type 0
RunsLines state b c =
    (until : Until) × (done : Result (Option RejectedLine) RunFault)
    × (r0 : Option (List ℕ)) × (r1 : Option (List ℕ)) × (w0 : Option (List ℕ))
    × (w1 : Option (List ℕ)) × Runs state until done r0 r1 w0 w1 b c

-- The lines were run over a book on the store of a disk, or the store wasn't opened.
abbrev pub IsRunOver : {D : Type 0} → (D → DiskState) → (given left : D) → Type 0
IsRunOver state given left =
    RunsOver state (RunsLines state) given left
    ⊎ ((why : Fault) × Opens state given (Err (why, left)))

-- Lines were run over the store on a disk, and their steps became these events. A crash or the end
-- came when the replies to the first steps had been printed.
pub record CutsLines {D : Type 0} (state : D → DiskState) (given : D) (events : List Event)
    (reported : List Reply) (next : D) : Type 0 where
  pub left : D
  pub over : RunsOver state (RunsLines state) given left
  pub history : over.after.session.history ≡ events
  pub first : List Step
  pub middle : BookView D
  pub second : List Step
  pub unreported : List Reply
  pub played : StepsOn state over.before first reported middle
  pub goes_on : StepsOn state middle second unreported over.after
  pub finds : FindsLeft state middle.journal.disk left next
