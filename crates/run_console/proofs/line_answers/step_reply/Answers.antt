use Rattle.std.proofs.Common.{refl, subst, sym}
use Rattle.book_model.proofs.Stepping.{answers_checkpoint, answers_flush}
use Rattle.console_lines.specs.declared.line_requests.LineRequest.TheVariants as asked
use Rattle.run_book.proofs.Stepping.{stays_by}
use Rattle.run_model.specs.declared.commands.Step.TheVariants as step
use Rattle.run_console.specs.RunProgress.{Answers}
use Rattle.run_console.proofs.Saving.{command_answers, finish_answers, save_answers, start_answers}
use Rattle.run_console.proofs.line_answers.step_reply.Goals as goal

pub returns-in-Flush : goal.returns-in-Flush
returns-in-Flush g c =
    let state = g.D.RunDisk.state in
    let b = c.args.book.now in
    let d = c.flush.new.self in
    let e = c.flush.ensures in
    rw (c.in-Flush.is, c.reply_to_save.ensures) (
    save_answers state b d step.Flush c.flush.result c.requires
    (answers_flush state b d c.flush.result e.flushes e.layout) e.flushes.saves e.carries_on
    (stays_by _ _ e.flushes.saves.session))

pub returns-in-Checkpoint : goal.returns-in-Checkpoint
returns-in-Checkpoint g c =
    let state = g.D.RunDisk.state in
    let b = c.args.book.now in
    let d = c.checkpoint.new.self in
    let e = c.checkpoint.ensures in
    rw (c.in-Checkpoint.is, c.reply_to_save-in-Checkpoint.ensures) (
    save_answers state b d step.Checkpoint c.checkpoint.result c.requires
    (answers_checkpoint state b d c.checkpoint.result e.checkpoints e.layout) e.checkpoints.saves
    e.carries_on (stays_by _ _ e.checkpoints.saves.session))

pub returns-in-Command : goal.returns-in-Command
returns-in-Command g c =
    let e = c.step.ensures in
    rw c.in-Command.is (
    command_answers g.D.RunDisk.state c.args.book.now c.step.new.self c.step.result c.requires
    e.carries_on e.stays (rw c.in-Command.is at e.answers))

pub returns-in-Start : goal.returns-in-Start
returns-in-Start g c =
    let e = c.step-in-Start.ensures in
    rw c.in-Start.is (
    start_answers g.D.RunDisk.state c.args.book.now c.step-in-Start.new.self c.step-in-Start.result
    c.requires e.carries_on e.stays (rw c.in-Start.is at e.answers))

pub returns-in-Finish : goal.returns-in-Finish
returns-in-Finish g c =
    let e = c.step-in-Finish.ensures in
    rw c.in-Finish.is (
    finish_answers g.D.RunDisk.state c.args.book.now c.step-in-Finish.new.self
    c.step-in-Finish.result c.requires e.carries_on e.stays (rw c.in-Finish.is at e.answers))
