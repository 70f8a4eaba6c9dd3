use Rattle.std.specs.Prelude.{◌++◌}
use Rattle.std.specs.Io.KnownBytes.{Appends}
use Rattle.std.specs.Option.{option_to_list}
use Rattle.std.proofs.Common.{[], ◌∷◌, arith, inl, inr, refl, ap, ◌∙◌}
use Rattle.std.proofs.lemmas.Result.{err_from_is_err_and, on_ok_weaker}
use Rattle.console_lines.specs.Script.{closing}
use Rattle.console_lines.specs.declared.faults.RunFault.{RunFault}
use Rattle.console_lines.specs.declared.faults.RunFault.TheVariants as fault
use Rattle.run_console.specs.RunProgress.{Closes, EndStops}
use Rattle.console_lines.specs.Buffered.{Buffered}
use Rattle.run_console.proofs.Ends.{end_stopped}
use Rattle.console_lines.proofs.Buffered.{buffered_cut, buffered_more, buffered_written}
use Rattle.run_console.proofs.LineSteps.{closing_is, fault_known}
use Rattle.run_console.proofs.book_lines.close.Given.{Over}
use Rattle.run_console.proofs.book_lines.close.Goals as goal
use Rattle.run_console.proofs.book_lines.close.Goals.{After-write_out}
use Rattle.run_model.specs.declared.commands.Step.TheVariants as step
use Rattle.run_console.specs.TakenSteps.{Tries}
use Rattle.run_console.proofs.TakenSteps.{tries_troubled}

pub returns-in_err-make_room-clause-stops : goal.returns-in_err-make_room-clause-stops
returns-in_err-make_room-clause-stops g c =
    let p = err_from_is_err_and c.from_residual.result c.from_residual.ensures.1 in
    rw (p.1, p.2, c.in_err-make_room.ensures.fault) (inl c.in_err-make_room.ensures.cut)

pub returns-in-Err-clause-stops : goal.returns-in-Err-clause-stops
returns-in-Err-clause-stops g c =
    end_stopped c.stop.result c.in-Err.trouble c.step_reply.new.book
    (closing c.args.book.now.session)
    (g.W.Write.contents c.stop.new.output) c.in_ok-make_room.ensures.buffered c.stop.ensures

-- The closing line is buffered.
reported : (g : Over) (c : After-write_out g)
    → Buffered (closing c.args.book.now.session) c.args.buffer.now.items
    c.append_reply.new.buffer.items (g.W.Write.contents c.args.output.now)
    (g.W.Write.contents c.make_room.new.output)
reported g c =
    let s = c.args.book.now.session in
    let m = c.make_room.new.buffer.items in
    buffered_more (closing s) c.args.buffer.now.items m c.append_reply.new.buffer.items
    (g.W.Write.contents c.args.output.now) (g.W.Write.contents c.make_room.new.output)
    c.in_ok-make_room.ensures.buffered
    (c.append_reply.ensures
    ∙ ap (λ t. m ++ t) (closing_is s (option_to_list c.in-Ok.reply) c.in-Ok.ensures.replied))

pub returns-clause-closes : goal.returns-clause-closes
returns-clause-closes g c =
    let w0 = g.W.Write.contents c.args.output.now in
    let w1 = g.W.Write.contents c.make_room.new.output in
    let w2 = g.W.Write.contents c.write_out.new.output in
    let f = c.args.buffer.now.items in
    let h = c.append_reply.new.buffer.items in
    let Done : Type 0 =
    Closes g.D.RunDisk.state c.args.book.now c.step_reply.new.book f w0 w2 in
    let done : Appends w1 w2 h → Done = λ all. record {
      reported = buffered_written (closing c.args.book.now.session) f h w0 w1 w2 (reported g c) all;
      taken = c.in-Ok.ensures.taken;
      saved = c.in-Ok.ensures.saved tt;
    } in
    on_ok_weaker c.write_out.result done c.write_out.ensures.whole

pub returns-clause-stops : goal.returns-clause-stops
returns-clause-stops g c =
    let end = closing c.args.book.now.session in
    let f = c.args.buffer.now.items in
    let w0 = g.W.Write.contents c.args.output.now in
    let w1 = g.W.Write.contents c.make_room.new.output in
    let w2 = g.W.Write.contents c.write_out.new.output in
    let Stops : RunFault → Type 0 = λ why. EndStops why c.step_reply.new.book end f w0 w2 in
    fault_known c.write_out.result fault.Output _ Stops
    (λ h. inr (
      c.in-Ok.ensures.saved tt,
      buffered_cut end f c.append_reply.new.buffer.items w0 w1 w2 (reported g c) h,
    ))
    c.write_out.ensures.fault c.write_out.ensures.cut

-- ---- the steps

pub returns-in_err-make_room-clause-tried : goal.returns-in_err-make_room-clause-tried
returns-in_err-make_room-clause-tried g c =
    let p = err_from_is_err_and c.from_residual.result c.from_residual.ensures.1 in
    rw (p.1, p.2, c.in_err-make_room.ensures.fault) (inl refl)

pub returns-in-Err-clause-tried : goal.returns-in-Err-clause-tried
returns-in-Err-clause-tried g c =
    tries_troubled g.D.RunDisk.state c.args.book.now c.step_reply.new.book c.stop.result
    c.in-Err.trouble (step.Flush ∷ []) c.make_room.new.buffer.items
    (g.W.Write.contents c.make_room.new.output) (g.W.Write.contents c.stop.new.output)
    c.in-Err.ensures.tried c.stop.ensures

pub returns-clause-tried : goal.returns-clause-tried
returns-clause-tried g c =
    let b = c.args.book.now in
    let d = c.step_reply.new.book in
    let t = c.in-Ok.ensures.taken in
    let Says : RunFault → Type 0 = λ why. Tries g.D.RunDisk.state b why (step.Flush ∷ []) d in
    fault_known c.write_out.result fault.Output _ Says
    (λ h. inr (t.answers, t.row))
    c.write_out.ensures.fault c.write_out.ensures.cut

-- ---- the session

pub returns-in-Err-clause-session : goal.returns-in-Err-clause-session
returns-in-Err-clause-session g c = c.in-Err.ensures.kept

-- ---- a reply

pub append_reply-requires : goal.append_reply-requires
append_reply-requires g c = omega (arith, c.in_ok-make_room.ensures.room)
