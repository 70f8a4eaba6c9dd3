use Rattle.std.specs.Prelude.{◌≡◌, ◌∷◌, ◌++◌, [], Err, true, map}
use Rattle.std.specs.Option.{option_to_list}
use Rattle.std.proofs.Common.{ℕ, List, arith, inl, refl, sym, subst, ap, ◌∙◌}
use Rattle.std.proofs.lemmas.Result.{err_from_is_err_and}
use Rattle.run_model.specs.State.{State}
use Rattle.run_model.specs.Session.{Session}
use Rattle.console_lines.specs.declared.line_requests.LineRequest.{LineRequest}
use Rattle.run_session.proofs.Staying.{stays_same}
use Rattle.console_lines.specs.LineRequests.{request_of}
use Rattle.console_lines.specs.Replies.{reply_lines}
use Rattle.console_lines.specs.Script.{reply}
use Rattle.console_lines.specs.Tallies.{tallies_of}
use Rattle.console_lines.specs.declared.line_replies.LineReply.TheVariants as printed
use Rattle.run_console.specs.RunProgress.{NotAppended}
use Rattle.console_lines.specs.Buffered.{Buffered}
use Rattle.run_console.specs.SavingLines.{IsSaving, is_tally}
use Rattle.run_console.proofs.Ends.{cut_stopped}
use Rattle.console_lines.proofs.Buffered.{buffered_more}
use Rattle.run_console.proofs.LineSteps.{line_obeyed, line_replies, line_rejected, line_tally}
use Rattle.run_console.proofs.LineSteps.{saves_no_tally, tally_asked, tally_leaves}
use Rattle.run_console.proofs.LineSteps.{tally_stays}
use Rattle.run_console.proofs.Lines.{cut_before, cut_not_appended, ran_line}
use Rattle.book_model.specs.Steps.{StepsOn, reply_of_save}
use Rattle.run_console.specs.TakenSteps.{TakesAll, steps_asked}
use Rattle.run_console.proofs.TakenSteps.{takes_none, takes_tally}
use Rattle.run_console.proofs.book_lines.run_request.Goals as goal

-- ---- a tally

-- What is printed for a tally.
tallied : (s : Session) (p : State) (line : List ℕ) (a : LineRequest)
    → p ≡ s.state
    → a ≡ request_of line
    → is_tally a ≡ true
    → reply_lines (map printed.Tally (tallies_of p.work.tasks)) ≡ reply s line
tallied s p line a same read tally =
    ap (λ (q : State). reply_lines (map printed.Tally (tallies_of q.work.tasks))) same
    ∙ line_tally s line a read tally

pub returns-then-is_tally : goal.returns-then-is_tally
returns-then-is_tally g c =
    let s = c.args.book.now.session in
    let a = c.read_line-asked.result in
    let tally = sym c.is_tally.ensures ∙ c.if-is_tally.true in
    let P : List ℕ → Type 0 = λ t.
    Buffered t c.args.buffer.now.items c.append_tally.new.buffer.items
    (g.W.Write.contents c.args.output.now) (g.W.Write.contents c.append_tally.new.output) in
    record {
      ran = λ line e.
          let read = c.read_line-asked.ensures ∙ sym e in
          ran_line (tally_leaves s line a read tally)
          (takes_tally g.D.RunDisk.state line (tally_asked line a read tally))
          (stays_same s.state)
          (subst P (tallied s c.state.result.now line a c.state.ensures.state read tally)
          c.in_ok-append_tally.ensures.buffered);
      cut = λ line e. tt;
      rejected = λ line e ends. tally_stays s line a (c.read_line-asked.ensures ∙ sym e) tally;
      sound = c.requires.sound;
      saved = λ saving.
          saves_no_tally c.args.bytes.now a _ c.read_line-asked.ensures tally saving;
    }

pub returns-in_err-append_tally : goal.returns-in_err-append_tally
returns-in_err-append_tally g c =
    let p = err_from_is_err_and c.from_residual.result
    c.from_residual.ensures.1 in
    let s = c.args.book.now.session in
    let a = c.read_line-asked.result in
    let why = c.in_err-append_tally.field-0.0 in
    let tally = sym c.is_tally.ensures ∙ c.if-is_tally.true in
    let P : List ℕ → Type 0 = λ t.
    NotAppended why t c.args.buffer.now.items (g.W.Write.contents c.args.output.now)
    (g.W.Write.contents c.append_tally.new.output) in
    rw (p.1, p.2) (record {
      ran = λ line e. tt;
      cut = λ line e.
          let read = c.read_line-asked.ensures ∙ sym e in
          cut_not_appended why (tally_asked line a read tally) (tally_leaves s line a read tally)
          (subst P (tallied s c.state.result.now line a c.state.ensures.state read tally)
          c.in_err-append_tally.ensures.not_appended);
      rejected = λ line e ends. tt;
      sound = tt;
      saved = λ saving. tt;
    })

-- ---- no room

pub returns-in_err-make_room : goal.returns-in_err-make_room
returns-in_err-make_room g c =
    let p = err_from_is_err_and c.from_residual-in_err-make_room.result
    c.from_residual-in_err-make_room.ensures.1 in
    rw (p.1, p.2, c.in_err-make_room.ensures.fault) (record {
      ran = λ line e. tt;
      cut = λ line e. cut_before refl (record {
        middle = c.args.book.now;
        taken = takes_none g.D.RunDisk.state;
        tried = inl refl;
      }) c.in_err-make_room.ensures.cut;
      rejected = λ line e ends. tt;
      sound = tt;
      saved = λ saving. tt;
    })

-- ---- a trouble

pub returns-in-Err : goal.returns-in-Err
returns-in-Err g c =
    let fails = c.in-Err.ensures in
    record {
      ran = λ line e. tt;
      cut = λ line e.
          let read = c.read_line-asked.ensures ∙ sym e in
          cut_stopped c.in-Err.trouble (subst IsSaving read fails.saving) fails.kept
          (subst (λ (a : LineRequest). StepsOn g.D.RunDisk.state c.args.book.now (steps_asked a)
          (reply_of_save (Err c.in-Err.trouble) ∷ []) c.reply_to.new.book) read fails.tried)
          c.in_ok-make_room.ensures.buffered c.stop.ensures;
      rejected = λ line e ends. tt;
      sound = tt;
      saved = λ saving. tt;
    }

-- ---- a reply

pub append_reply-requires : goal.append_reply-requires
append_reply-requires g c = omega (arith, c.in_ok-make_room.ensures.room)

pub returns-in-Ok : goal.returns-in-Ok
returns-in-Ok g c =
    let b = c.args.book.now in
    let d = c.reply_to.new.book in
    let m = c.make_room.new.buffer.items in
    let a = c.read_line-asked.result in
    let does = c.in-Ok.ensures in
    record {
      ran = λ line e.
          let read = c.read_line-asked.ensures ∙ sym e in
          ran_line (line_obeyed b.session d.session line a read does.session)
          (subst (λ (q : LineRequest). TakesAll g.D.RunDisk.state b (steps_asked q) d) read
          does.taken)
          does.lasts
          (buffered_more (reply b.session line) c.args.buffer.now.items m
          c.append_reply.new.buffer.items (g.W.Write.contents c.args.output.now)
          (g.W.Write.contents c.make_room.new.output) c.in_ok-make_room.ensures.buffered
          (c.append_reply.ensures
          ∙ ap (λ t. m ++ t)
          (line_replies b.session line a (option_to_list c.in-Ok.reply) read does.replied)));
      cut = λ line e. tt;
      rejected = λ line e ends.
          c.by-why.ensures
          ∙ line_rejected b.session line c.args.bytes.now a
          (option_to_list c.in-Ok.reply) c.rejection_of.result (c.read_line-asked.ensures ∙ sym e)
          does.replied c.rejection_of.ensures ends;
      sound = does.sound;
      saved = λ saving. does.saved (subst IsSaving (sym c.read_line-asked.ensures) saving);
    }
