use Rattle.std.specs.Prelude.{◌++◌}
use Rattle.std.proofs.Common.{inl, refl, sym, ap, ◌∙◌}
use Rattle.std.proofs.lemmas.Result.{err_from_is_err_and}
use Rattle.console_lines.specs.LineRequests.{asks_cancel}
use Rattle.console_lines.specs.Words.{lent}
use Rattle.run_console.specs.RunProgress.{Obeys}
use Rattle.run_console.proofs.Cancels.{answer_rejection, cancel_obeyed, cancel_refused}
use Rattle.run_console.proofs.Cancels.{cancel_runs, done_line, refused_line}
use Rattle.run_console.proofs.Lines.{cut_before}
use Rattle.run_console.proofs.TakenSteps.{takes_none}
use Rattle.run_console.proofs.book_lines.run_cancel.Goals as goal
use Rattle.run_console.proofs.book_lines.run_cancel.Goals.{in-Ok, in-Err}

-- ---- no room

pub returns-in_err-make_room : goal.returns-in_err-make_room
returns-in_err-make_room g c = λ ends.
    let p = err_from_is_err_and c.from_residual.result
    c.from_residual.ensures.1 in
    rw (p.1, p.2, c.in_err-make_room.ensures.fault) (record {
      ran = λ line e. tt;
      cut = λ line e. cut_before refl (record {
        middle = c.args.book.now;
        taken = takes_none g.D.RunDisk.state;
        tried = inl refl;
      }) c.in_err-make_room.ensures.cut;
      rejected = λ line e is. tt;
      sound = tt;
      saved = λ saving. tt;
    })

-- ---- an answer

pub returns-in-Ok-answer : goal.returns-in-Ok-answer
returns-in-Ok-answer g c = λ ends.
    let state = g.D.RunDisk.state in
    let b = c.args.book.now in
    let d = c.match-read_cancel.book in
    let r = c.match-read_cancel.answer in
    let scope = c.args.scope.now in
    let cause = lent c.args.cause in
    let it : Obeys state (asks_cancel scope cause) r b d = elim c.match-read_cancel.branch [
      | in-Ok w ↦ rw (w.answer-is, w.book-is)
          (cancel_obeyed state b w.command-answer.new.self (asks_cancel scope cause) w.in-Ok.call
          w.command-answer.result w.in-Ok.ensures.asked c.requires.sound
          w.command-answer.ensures.answers w.command-answer.ensures.carries_on
          w.command-answer.ensures.stays)
      | in-Err w ↦ rw (w.answer-is, w.book-is)
          (cancel_refused state b (asks_cancel scope cause) w.in-Err.refusal
          w.in-Err.ensures.refused c.requires.sound)
    ] in
    cancel_runs state b d scope cause ends r _ c.args.buffer.now.items c.make_room.new.buffer.items
    _ _ _ it c.in_ok-make_room.ensures.buffered
    (λ line e. c.push.ensures.items ∙ ap (λ t. c.make_room.new.buffer.items ++ t)
    (done_line state b d line scope cause r _ e it c.in-Ok-answer.is))
    (sym (ap answer_rejection c.in-Ok-answer.is))

pub returns-in-Err-answer : goal.returns-in-Err-answer
returns-in-Err-answer g c = λ ends.
    let state = g.D.RunDisk.state in
    let b = c.args.book.now in
    let d = c.match-read_cancel.book in
    let r = c.match-read_cancel.answer in
    let scope = c.args.scope.now in
    let cause = lent c.args.cause in
    let it : Obeys state (asks_cancel scope cause) r b d = elim c.match-read_cancel.branch [
      | in-Ok w ↦ rw (w.answer-is, w.book-is)
          (cancel_obeyed state b w.command-answer.new.self (asks_cancel scope cause) w.in-Ok.call
          w.command-answer.result w.in-Ok.ensures.asked c.requires.sound
          w.command-answer.ensures.answers w.command-answer.ensures.carries_on
          w.command-answer.ensures.stays)
      | in-Err w ↦ rw (w.answer-is, w.book-is)
          (cancel_refused state b (asks_cancel scope cause) w.in-Err.refusal
          w.in-Err.ensures.refused c.requires.sound)
    ] in
    cancel_runs state b d scope cause ends r _ c.args.buffer.now.items c.make_room.new.buffer.items
    _ _ _ it c.in_ok-make_room.ensures.buffered
    (λ line e. c.append.ensures.items ∙ ap (λ t. c.make_room.new.buffer.items ++ t)
    (refused_line state b d line scope cause r _ e it c.in-Err-answer.is))
    (sym (ap answer_rejection c.in-Err-answer.is))
