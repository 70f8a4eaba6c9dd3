-- How each line of an answer is spelled.
use Rattle.std.specs.Prelude.{◌++◌, ◌∷◌, ℕ, List, [], codes}
use Rattle.std.specs.Fmt.{decimal}
use Rattle.std.specs.List.{flat_map}
use Rattle.night_plan.specs.declared.standings.Standing.{Standing}
use Rattle.night_plan.specs.declared.standings.Standing.TheVariants as standing
use Rattle.plan_lines.specs.declared.answers.AnswerLine.{AnswerLine}
use Rattle.plan_lines.specs.declared.answers.AnswerLine.TheVariants as answer

-- How a command stands, after its number.
abbrev pub standing_text : Standing → List ℕ
standing_text standing.Ready = codes " ready"
standing_text standing.Pending = codes " pending"
standing_text standing.Busy = codes " busy"
standing_text (standing.Waiting moment) = codes " waiting " ++ decimal moment
standing_text standing.EndedOk = codes " ok"
standing_text standing.Failed = codes " failed"
standing_text standing.Canceled = codes " canceled"
standing_text standing.GivenUp = codes " given-up"

-- A line of an answer, without its LF.
abbrev pub answer_text : AnswerLine → List ℕ
answer_text (answer.Plan count) = codes "plan " ++ decimal count
answer_text (answer.Unknown c) = codes "unknown " ++ decimal c
answer_text (answer.TooMuch c) = codes "too-much " ++ decimal c
answer_text answer.Circle = codes "circle"
answer_text (answer.Member c) = codes "member " ++ decimal c
answer_text (answer.Begin c) = codes "begin " ++ decimal c
answer_text (answer.Stop c) = codes "stop " ++ decimal c
answer_text (answer.Later moment) = codes "later " ++ decimal moment
answer_text (answer.Stands c s) = codes "stands " ++ decimal c ++ standing_text s
answer_text (answer.Bad line) = codes "bad " ++ decimal line
answer_text answer.End = []

-- A line of an answer, with its LF.
abbrev pub answer_line : AnswerLine → List ℕ
answer_line it = answer_text it ++ 10 ∷ []

-- Some lines, one after the other, each with its LF.
abbrev pub answer_lines : List AnswerLine → List ℕ
answer_lines lines = flat_map answer_line lines
