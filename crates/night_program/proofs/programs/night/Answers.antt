use Rattle.std.specs.Prelude.{map}
use Rattle.std.specs.String.{string_bytes}
use Rattle.std.proofs.Common.{◌∙◌, Ok, subst}
use Rattle.night_words.specs.Commands.{AsksFor, IsAnswer, faults_of}
use Rattle.night_program.proofs.programs.night.Goals as goal
use Rattle.night_program.proofs.programs.night.Goals.{else-streams, then-streams}

pub returns-after-streams-clause-runs : goal.returns-after-streams-clause-runs
returns-after-streams-clause-runs g c =
    let same = c.as_slice.ensures.value in
    let asked = c.in-Ok-read_words.request in
    rw c.in-Ok.is (
      Ok asked,
      subst (λ words. IsAnswer (faults_of (map string_bytes words)) (Ok asked)) same
          c.in-Ok-read_words.ensures.answer,
      subst (λ words. AsksFor asked (map string_bytes words)) same
          c.in-Ok-read_words.ensures.asks,
      tt,
      (
        c.answer-answer.result,
        c.answer-answer.ensures,
        (
          g.E.ErrorSink.state c.hint.new.errors,
          elim c.if-streams.branch [
            | then-streams w ↦
                rw w.if-streams.true
                (rw (w.hint-is ∙ w.reads_lines.ensures) at c.hint.ensures)
            | else-streams w ↦
                rw w.if-streams.false
                (rw (w.hint-is ∙ w.if-streams.false) at c.hint.ensures)
          ],
          rw c.of.ensures c.end.ensures,
        ),
      ),
    )
