-- The steps that lines play over a book, one after another.
use Rattle.std.specs.Prelude.{◌≡◌, ◌⊎◌, false, ℕ, List, [], ◌∷◌, Err}
use Rattle.std.specs.List.{cons_option, list_any}
use Rattle.run_model.specs.declared.answers.Reply.{Reply}
use Rattle.run_model.specs.declared.commands.Step.{Step}
use Rattle.run_model.specs.declared.commands.Step.TheVariants as step
use Rattle.run_disk.specs.Disk.{DiskState}
use Rattle.book_model.specs.Books.{BookView}
use Rattle.book_model.specs.Plays.{is_fault}
use Rattle.book_model.specs.Steps.{StepsOn, reply_of_save}
use Rattle.console_lines.specs.declared.line_requests.LineRequest.{LineRequest}
use Rattle.console_lines.specs.declared.faults.RunFault.{RunFault}
use Rattle.console_lines.specs.declared.faults.RunFault.TheVariants as fault
use Rattle.console_lines.specs.Script.{step_of, steps_of}

-- The book took these steps, one after another, and carried on over each of them. No answer was a
-- fault.
pub record TakesAll {D : Type 0} (state : D → DiskState) (old : BookView D) (steps : List Step)
    (new : BookView D) : Type 0 where
  pub answers : List Reply
  pub row : StepsOn state old steps answers new
  pub fine : list_any is_fault answers ≡ false

-- What became of the next step, for each cause that stopped. A fault of the store is its answer. If
-- the writer failed, it was answered or not tried. After any other fault it wasn't tried.
abbrev pub Tries :
    {D : Type 0} → (D → DiskState) → BookView D → RunFault → List Step → BookView D → Type 0
Tries state old (fault.Store why) steps new =
    StepsOn state old steps (reply_of_save (Err why) ∷ []) new
Tries state old fault.Output steps new =
    (new ≡ old) ⊎ ((answers : List Reply) × StepsOn state old steps answers new)
Tries state old _ steps new = new ≡ old

-- The step of the first of these lines, if there is a line and it asks for a step.
abbrev pub first_steps : List (List ℕ) → List Step
first_steps [] = []
first_steps (line ∷ left) = steps_of (line ∷ [])

-- The step that comes next: that of the next line, or, after the last line, the closing flush.
abbrev pub next_steps : List (List ℕ) → List Step
next_steps [] = step.Flush ∷ []
next_steps (line ∷ left) = steps_of (line ∷ [])

-- The steps of these lines were taken, and this became of the next step.
pub record TriesLine {D : Type 0} (state : D → DiskState) (old : BookView D) (why : RunFault)
    (ran : List (List ℕ)) (next : List Step) (new : BookView D) : Type 0 where
  pub middle : BookView D
  pub taken : TakesAll state old (steps_of ran) middle
  pub tried : Tries state middle why next new

-- ---- for private functions: no public contract cites what follows

-- The step that is asked for, if one is.
abbrev pub steps_asked : LineRequest → List Step
steps_asked a = cons_option (step_of a) []
