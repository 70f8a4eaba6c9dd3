use Rattle.std.specs.Prelude.{◌≡◌, ◌∷◌, ◌++◌, []}
use Rattle.std.proofs.Common.{inl, refl, sym, subst, ap, ◌∙◌}
use Rattle.std.proofs.lemmas.Result.{err_from_is_err_and}
use Rattle.console_lines.specs.declared.line_requests.LineRequest.{LineRequest}
use Rattle.console_lines.specs.declared.line_requests.LineRequest.TheVariants as asked
use Rattle.console_lines.specs.LineRequests.{request_of}
use Rattle.console_lines.specs.Script.{reply, scope_reply}
use Rattle.console_lines.specs.Strict.{ends_in_return, rejection_among}
use Rattle.console_lines.proofs.Buffered.{buffered_more}
use Rattle.run_console.specs.SavingLines.{IsSaving}
use Rattle.run_console.proofs.LineSteps.{line_obeyed, line_replies, line_rejected}
use Rattle.run_console.proofs.LineSteps.{scope_rejected}
use Rattle.run_console.proofs.ScopeQuestions.{asked_reply, looks, view_line}
use Rattle.run_console.proofs.Lines.{cut_before, ran_line}
use Rattle.run_console.specs.TakenSteps.{TakesAll, steps_asked}
use Rattle.run_console.proofs.TakenSteps.{takes_none}
use Rattle.run_console.proofs.book_lines.run_line.Goals as goal

-- ---- no room

pub returns-in_err-make_room : goal.returns-in_err-make_room
returns-in_err-make_room g c =
    let p = err_from_is_err_and c.from_residual.result
    c.from_residual.ensures.1 in
    rw (p.1, p.2, c.in_err-make_room.ensures.fault) (record {
      ran = λ line e. tt;
      cut = λ line e. cut_before refl (record {
        middle = c.args.book.now;
        taken = takes_none g.D.RunDisk.state;
        tried = inl refl;
      }) c.in_err-make_room.ensures.cut;
      rejected = λ line e ends. tt;
      sound = tt;
      saved = λ saving. tt;
    })

-- ---- a question about a scope

pub returns : goal.returns
returns g c =
    let b = c.args.book.now in
    let m = c.make_room.new.buffer.items in
    let p = c.state.result.now in
    let it = c.in-Some.ensures in
    let a = asked.Scope it.name in
    let reply_is = scope_reply p it.name ∷ [] in
    let does = looks g.D.RunDisk.state b p it.name c.requires.sound c.state.ensures.state in
    record {
      ran = λ line e.
          let read : a ≡ request_of line = sym it.asks ∙ sym e in
          ran_line (line_obeyed b.session b.session line a read refl)
          (subst (λ (q : LineRequest). TakesAll g.D.RunDisk.state b (steps_asked q) b) read
          does.taken)
          does.lasts
          (buffered_more (reply b.session line) c.args.buffer.now.items m
          c.append_scope.new.out.items (g.W.Write.contents c.args.output.now)
          (g.W.Write.contents c.make_room.new.output) c.in_ok-make_room.ensures.buffered
          (c.append_scope.ensures.items
          ∙ ap (λ t. m ++ t) (view_line p c.args.bytes.now c.in-Some.field-0 it)
          ∙ ap (λ t. m ++ t) (line_replies b.session line a reply_is read does.replied)));
      cut = λ line e. tt;
      rejected = λ line e ends.
          sym (ap (λ r. rejection_among (r ∷ []))
          (asked_reply p c.args.bytes.now c.in-Some.field-0 it))
          ∙ sym (scope_rejected p it.name line)
          ∙ line_rejected b.session line line a reply_is (rejection_among reply_is)
          (sym it.asks ∙ sym e) does.replied refl refl;
      sound = does.sound;
      saved = λ saving. absurd (subst IsSaving it.asks saving);
    }

-- ---- a cancel

pub returns-in-Some-cancel_words : goal.returns-in-Some-cancel_words
returns-in-Some-cancel_words g c =
    let asks = c.in-Some-cancel_words.ensures.asks in
    let it = c.run_cancel.ensures (ends_in_return c.args.bytes.now) in
    record {
      ran = λ line e. it.ran line (e ∙ asks);
      cut = λ line e. it.cut line (e ∙ asks);
      rejected = λ line e ends. it.rejected line (e ∙ asks) ends;
      sound = it.sound;
      saved = λ saving. it.saved (subst IsSaving asks saving);
    }
