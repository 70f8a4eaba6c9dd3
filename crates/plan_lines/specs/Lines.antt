-- How each line of a plan or of a round is spelled.
use Rattle.std.specs.Prelude.{◌≡◌, ◌<◌, ◌≤◌, ◌^◌, ◌∷◌, ℕ, List, [], Option, Some, None, length}
use Rattle.night_plan.specs.declared.commands.Subject.{Subject}
use Rattle.night_plan.specs.declared.commands.Subject.TheVariants as subject
use Rattle.night_plan.specs.declared.commands.Way.{Way}
use Rattle.night_plan.specs.declared.commands.Way.TheVariants as way
use Rattle.night_plan.specs.declared.commands.When.{When}
use Rattle.night_plan.specs.declared.commands.When.TheVariants as when
use Rattle.night_plan.specs.declared.facts.Phase.{Phase}
use Rattle.night_plan.specs.declared.facts.Phase.TheVariants as phase
use Rattle.plan_lines.specs.declared.lines.PlanLine.{PlanLine}
use Rattle.plan_lines.specs.declared.lines.PlanLine.TheVariants as line
use Rattle.plan_lines.specs.declared.tokens.Keyword.{Keyword}
use Rattle.plan_lines.specs.declared.tokens.Keyword.TheVariants as keyword
use Rattle.plan_lines.specs.declared.tokens.Token.{Token}
use Rattle.plan_lines.specs.declared.tokens.Token.TheVariants as token
use Rattle.plan_lines.specs.Tokens.{IsRow}

-- What a failure for good does to its group.
abbrev pub way_keyword : Way → Keyword
way_keyword way.GoOn = keyword.GoOn
way_keyword way.Stop = keyword.Stop
way_keyword way.Cancel = keyword.Cancel

-- How a needed command has to stand.
abbrev pub when_keyword : When → Keyword
when_keyword when.Well = keyword.Well
when_keyword when.Failed = keyword.Failed
when_keyword when.Ended = keyword.Ended

-- One command, or all commands of a group.
abbrev pub subject_tokens : Subject → List Token
subject_tokens (subject.Command c) = token.Keyword keyword.Command ∷ token.Number c ∷ []
subject_tokens (subject.Group g) = token.Keyword keyword.Group ∷ token.Number g ∷ []

-- How far a command has come.
abbrev pub phase_keyword : Phase → Keyword
phase_keyword phase.Fresh = keyword.Fresh
phase_keyword phase.Busy = keyword.Busy
phase_keyword phase.EndedOk = keyword.Ok
phase_keyword phase.Interrupted = keyword.Interrupted
phase_keyword phase.Canceled = keyword.Cut
phase_keyword (phase.Failed moment) = keyword.Failed

-- The tokens of each line.
abbrev pub line_tokens : PlanLine → List Token
line_tokens (line.Pool size) = token.Keyword keyword.Pool ∷ token.Number size ∷ []
line_tokens (line.Group g) =
    token.Keyword keyword.Group ∷ token.Number g.priority ∷ token.Keyword (way_keyword g.way) ∷ []
line_tokens (line.Command o) =
    token.Keyword keyword.Command ∷ token.Number o.group ∷ token.Number o.priority
    ∷ token.Number o.retries ∷ token.Number o.wait ∷ token.Number o.factor ∷ token.Number o.cap
    ∷ []
line_tokens (line.Need need) =
    token.Keyword keyword.Need ∷ token.Keyword (when_keyword need.when) ∷ subject_tokens need.of
line_tokens (line.Take t) =
    token.Keyword keyword.Take ∷ token.Number t.pool ∷ token.Number t.amount ∷ []
line_tokens (line.Now moment) = token.Keyword keyword.Now ∷ token.Number moment ∷ []
line_tokens (line.Size p size) =
    token.Keyword keyword.Size ∷ token.Number p ∷ token.Number size ∷ []
line_tokens (line.Done g) = token.Keyword keyword.Done ∷ token.Number g ∷ []
line_tokens (line.Cancel c) = token.Keyword keyword.Cancel ∷ token.Number c ∷ []
line_tokens (line.Stands c p) = token.Keyword (phase_keyword p) ∷ token.Number c ∷ []
line_tokens (line.Failed c moment failures) =
    token.Keyword keyword.Failed ∷ token.Number c ∷ token.Number moment ∷ token.Number failures
    ∷ []
line_tokens line.Standings = token.Keyword keyword.Standings ∷ []

-- The numbers of a line aren't too large. No line reports a failed try as a phase, because `failed`
-- does it.
abbrev pub FitsLine : PlanLine → Type 0
FitsLine (line.Pool size) = size < 2 ^ 32
FitsLine (line.Group g) = g.priority < 2 ^ 16
FitsLine (line.Command o) =
    (o.priority < 2 ^ 16) × (o.retries < 2 ^ 32) × (o.wait < 2 ^ 32) × (o.factor < 2 ^ 32)
    × (o.cap < 2 ^ 32)
FitsLine (line.Take t) = t.amount < 2 ^ 32
FitsLine (line.Size p size) = size < 2 ^ 32
FitsLine (line.Stands c (phase.Failed moment)) = ⊥
FitsLine (line.Failed c moment failures) = failures < 2 ^ 32
FitsLine _ = Unit {0}

-- A line of at most 255 bytes is spelled like this.
pub record Means (bytes : List ℕ) (parsed : PlanLine) : Type 0 where
  pub short : length bytes ≤ 255
  pub fits : FitsLine parsed
  pub row : IsRow (line_tokens parsed) bytes

-- ---- for private functions: no public contract cites what follows

-- These are the tokens of this line, or those of no line.
abbrev pub Parses : List Token → Option PlanLine → Type 0
Parses tokens None = (parsed : PlanLine) → FitsLine parsed → line_tokens parsed ≡ tokens → ⊥
Parses tokens (Some parsed) = FitsLine parsed × (line_tokens parsed ≡ tokens)
