-- What a line makes of a run, and what is written of it.
use Rattle.std.specs.Prelude.{◌≡◌, ◌≤◌, ◌+◌, ◌-◌, ◌^◌, ◌++◌, ◌∷◌, ◌⊎◌, ℕ, false, List, []}
use Rattle.std.specs.Prelude.{Option, Some, None, Result, Ok, Err, length}
use Rattle.std.specs.Io.KnownBytes.{Appends, Consumes, IsAtEnd}
use Rattle.console_lines.specs.declared.faults.RunFault.{RunFault}
use Rattle.console_lines.specs.declared.faults.RunFault.TheVariants as fault
use Rattle.console_lines.specs.Lines.{whole_lines}
use Rattle.console_lines.specs.Progress.{IsPrefix}
use Rattle.night_plan.specs.declared.commands.Plan.{Plan}
use Rattle.night_plan.specs.declared.plans.PlanFault.{PlanFault}
use Rattle.plan_lines.specs.declared.answers.AnswerLine.{AnswerLine}
use Rattle.plan_lines.specs.declared.answers.AnswerLine.TheVariants as answer
use Rattle.plan_lines.specs.declared.drafts.Draft.{Draft}
use Rattle.plan_lines.specs.declared.hearing.Round.{Round}
use Rattle.plan_lines.specs.declared.hearing.Heard.TheVariants as heard
use Rattle.plan_lines.specs.declared.hearing.Grown.TheVariants as grown
use Rattle.plan_lines.specs.declared.lines.PlanLine.{PlanLine}
use Rattle.plan_lines.specs.declared.runs.Next.{Next}
use Rattle.plan_lines.specs.declared.runs.Next.TheVariants as next
use Rattle.plan_lines.specs.declared.runs.RunEnd.{RunEnd}
use Rattle.plan_lines.specs.declared.runs.RunEnd.TheVariants as end
use Rattle.plan_lines.specs.declared.runs.InputPart.{InputPart}
use Rattle.plan_lines.specs.declared.runs.InputPart.TheVariants as part
use Rattle.plan_lines.specs.declared.states.PlanState.{PlanState}
use Rattle.plan_lines.specs.Answers.{answer_lines}
use Rattle.plan_lines.specs.Drafts.{Adds, Finishes, IsNew}
use Rattle.plan_lines.specs.Hearing.{Grows, Hears}
use Rattle.plan_lines.specs.Lines.{Means}
use Rattle.plan_lines.specs.Rounds.{IsAnswer, refusal_lines}
use Rattle.plan_lines.specs.States.{HasQuestion, IsBegun}

-- ---- what a line makes of a run, and the lines of its answer

abbrev pub bad_lines : ℕ → List AnswerLine
bad_lines number = answer.Bad number ∷ answer.End ∷ []

-- The run ends, because the line of this number is bad.
abbrev pub Rejects : ℕ → Next → List AnswerLine → Type 0
Rejects number (next.End (end.Bad n)) lines = (n ≡ number) × (lines ≡ bad_lines number)
Rejects number _ lines = ⊥

-- Rounds of a plan follow.
abbrev pub BeginsRounds : Plan → Next → List AnswerLine → Type 0
BeginsRounds plan (next.Part (part.Round r)) lines = IsBegun plan r.state × (r.growth ≡ None)
    × (lines ≡ answer.Plan (length plan.commands.items) ∷ answer.End ∷ [])
BeginsRounds plan _ lines = ⊥

-- The run ends, because the plan is refused.
abbrev pub Refuses : PlanFault → Next → List AnswerLine → Type 0
Refuses why (next.End (end.Refused fault)) lines = (fault ≡ why) × (lines ≡ refusal_lines why)
Refuses why _ lines = ⊥

-- A plan is taken, and rounds follow; or it is refused.
abbrev pub EndsPlan : Draft → Next → List AnswerLine → Type 0
EndsPlan d after lines =
    ((plan : Plan) × Finishes d (Ok plan) × BeginsRounds plan after lines)
    ⊎ ((why : PlanFault) × Finishes d (Err why) × Refuses why after lines)

-- A round is answered, and the next one follows.
abbrev pub AnswersRound : PlanState → Next → List AnswerLine → Type 0
AnswersRound s (next.Part (part.Round t)) lines =
    IsAnswer s lines × HasQuestion false s t.state × (t.growth ≡ None)
AnswersRound s _ lines = ⊥

-- A round has ended: it is answered, once the plan has grown; or the growth is refused.
abbrev pub EndsRound : Round → Next → List AnswerLine → Type 0
EndsRound r after lines =
    ((s : PlanState) × Grows r.growth r.state (grown.State s) × AnswersRound s after lines)
    ⊎ ((n : ℕ) × Grows r.growth r.state (grown.Bad n) × Rejects n after lines)

-- A part has ended.
abbrev pub EndsPart : InputPart → Next → List AnswerLine → Type 0
EndsPart (part.Plan d) = EndsPlan d
EndsPart (part.Round r) = EndsRound r

-- A line of this number is taken, and not answered; or it is bad.
abbrev pub Takes : InputPart → PlanLine → ℕ → Next → List AnswerLine → Type 0
Takes (part.Plan d) parsed number (next.Part (part.Plan e)) lines =
    Adds parsed d (Some e) × (lines ≡ [])
Takes (part.Plan d) parsed number (next.End (end.Bad n)) lines =
    Adds parsed d None × (n ≡ number) × (lines ≡ bad_lines n)
Takes (part.Round r) parsed number (next.Part (part.Round t)) lines =
    Hears parsed number r (heard.Round t) × (lines ≡ [])
Takes (part.Round r) parsed number (next.End (end.Bad n)) lines =
    Hears parsed number r (heard.Bad n) × (lines ≡ bad_lines n)
Takes _ parsed number _ lines = ⊥

-- The bytes of a line of this number are taken. An empty line ends a part. Any other line is taken
-- by its meaning, and is bad if it has none.
abbrev pub TakesLine : InputPart → ℕ → (bytes : List ℕ) → Next → List AnswerLine → Type 0
TakesLine s number [] = EndsPart s
TakesLine s number (b ∷ bytes) = λ after lines.
    ((parsed : PlanLine) × Means (b ∷ bytes) parsed × Takes s parsed number after lines)
    ⊎ (((parsed : PlanLine) → Means (b ∷ bytes) parsed → ⊥) × Rejects number after lines)

-- ---- a whole run

-- The lines of an input are taken one after another, beginning in this part. The first one has the
-- number n. The run ends after the last line, or with the line that ends it. These are the lines of
-- its answers.
abbrev pub RunsOver : InputPart → (n : ℕ) → (input : List (List ℕ)) → RunEnd → List AnswerLine
    → Type 0
RunsOver s n [] stop lines = (stop ≡ end.InputEnded) × (lines ≡ [])
RunsOver s n (line ∷ input) stop lines =
    TakesLine s n line (next.End stop) lines
    ⊎ ((t : InputPart) × (first rest : List AnswerLine) × TakesLine s n line (next.Part t) first
    × RunsOver t (n + 1) input stop rest × (lines ≡ first ++ rest))

-- A run has come to its end. All lines that an LF ended were taken, up to the one that ends the
-- run, and their answers were written. The input was read to its end, unless a line ends the run.
pub record RunEnds (stop : RunEnd) (r0 r1 w0 w1 : Option (List ℕ)) : Type 0 where
  pub bytes : List ℕ
  pub read : Consumes r0 r1 bytes
  pub first : Draft
  pub none_yet : IsNew first
  pub lines : List AnswerLine
  pub runs : RunsOver (part.Plan first) 1 (whole_lines [] bytes) stop lines
  pub ended : stop ≡ end.InputEnded → IsAtEnd r1
  pub written : Appends w0 w1 (answer_lines lines)

-- ---- a run that a fault has stopped

-- What was written of the answer to a line, for each fault that stops the run: a prefix of it if
-- the output failed, and otherwise nothing.
abbrev pub BreaksOff : RunFault → InputPart → ℕ → (line : List ℕ) → (text : List ℕ) → Type 0
BreaksOff fault.Output s n line text =
    (after : Next) × (lines : List AnswerLine) × TakesLine s n line after lines
    × IsPrefix text (answer_lines lines)
BreaksOff fault.Memory s n line text = text ≡ []
BreaksOff fault.InputTooLong s n line text = text ≡ []
BreaksOff _ s n line text = ⊥

-- A fault that stops a run after the last line that was read.
abbrev pub IsAfterLines : RunFault → Type 0
IsAfterLines fault.Input = Unit {0}
IsAfterLines fault.InputTooLong = Unit {0}
IsAfterLines _ = ⊥

-- The lines of an input are taken one after another, beginning in this part, until a fault stops
-- the run at one of them, or after the last one. This is what was written.
abbrev pub StopsOver : RunFault → InputPart → (n : ℕ) → (input : List (List ℕ)) → (text : List ℕ)
    → Type 0
StopsOver why s n [] text = IsAfterLines why × (text ≡ [])
StopsOver why s n (line ∷ input) text =
    BreaksOff why s n line text
    ⊎ ((t : InputPart) × (first : List AnswerLine) × (rest : List ℕ)
    × TakesLine s n line (next.Part t) first × StopsOver why t (n + 1) input rest
    × (text ≡ answer_lines first ++ rest))

-- A fault has stopped a run. Of the answers to the lines that were read a prefix was written.
pub record RunStops (why : RunFault) (r0 r1 w0 w1 : Option (List ℕ)) : Type 0 where
  pub bytes : List ℕ
  pub read : Consumes r0 r1 bytes
  pub first : Draft
  pub none_yet : IsNew first
  pub text : List ℕ
  pub stops : StopsOver why (part.Plan first) 1 (whole_lines [] bytes) text
  pub too_long : why ≡ fault.InputTooLong → 2 ^ 64 - 2 ≤ length bytes
  pub written : Appends w0 w1 text

-- What a run does, by its result.
abbrev pub RunsPlan : Result RunEnd RunFault → (r0 r1 w0 w1 : Option (List ℕ)) → Type 0
RunsPlan (Ok stop) r0 r1 w0 w1 = RunEnds stop r0 r1 w0 w1
RunsPlan (Err why) r0 r1 w0 w1 = RunStops why r0 r1 w0 w1

-- ---- for private functions: no public contract cites what follows

-- What was written, by the result of a step, if `Makes` says what comes after it and which answer
-- it has: the answer; a prefix of it, if the output failed; or nothing, if memory was refused.
abbrev pub Answers : (Makes : Next → List AnswerLine → Type 0) → Result Next RunFault
    → (w0 w1 : Option (List ℕ)) → Type 0
Answers Makes (Ok after) w0 w1 =
    (lines : List AnswerLine) × Makes after lines × Appends w0 w1 (answer_lines lines)
Answers Makes (Err fault.Output) w0 w1 =
    (after : Next) × (lines : List AnswerLine) × Makes after lines
    × (text : List ℕ) × IsPrefix text (answer_lines lines) × Appends w0 w1 text
Answers Makes (Err fault.Memory) w0 w1 = w1 ≡ w0
Answers Makes (Err _) w0 w1 = ⊥

-- This comes after the step, and this is its answer.
abbrev pub Gives : Next → List AnswerLine → Next → List AnswerLine → Type 0
Gives this these after lines = (after ≡ this) × (lines ≡ these)
