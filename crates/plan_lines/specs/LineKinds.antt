-- What a line says of a command.
use Rattle.std.specs.Prelude.{ℕ}
use Rattle.plan_lines.specs.declared.answers.AnswerLine.{AnswerLine}
use Rattle.plan_lines.specs.declared.answers.AnswerLine.TheVariants as answer
use Rattle.plan_lines.specs.declared.rounds.LineKind.{LineKind}
use Rattle.plan_lines.specs.declared.rounds.LineKind.TheVariants as kind

-- The line that says this of a command.
abbrev pub line_of_kind : LineKind → ℕ → AnswerLine
line_of_kind kind.Member c = answer.Member c
line_of_kind kind.Begin c = answer.Begin c
line_of_kind kind.Stop c = answer.Stop c
