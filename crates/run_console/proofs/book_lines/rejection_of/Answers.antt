use Rattle.std.proofs.Common.{◌∙◌}
use Rattle.run_console.proofs.LineSteps.{only_rejection}
use Rattle.run_console.proofs.book_lines.rejection_of.Goals as goal

pub returns-in-Some : goal.returns-in-Some
returns-in-Some c = rw c.in-Some.is (c.of.ensures ∙ only_rejection _)
