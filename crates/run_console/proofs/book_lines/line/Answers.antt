use Rattle.std.proofs.Common.{refl}
use Rattle.std.proofs.lemmas.Result.{err_from_is_err_and, on_ok_weaker}
use Rattle.console_lines.specs.declared.faults.RunFault.{RunFault}
use Rattle.console_lines.specs.declared.faults.RunFault.TheVariants as fault
use Rattle.run_console.specs.RunProgress.{LineStops}
use Rattle.run_console.proofs.Carrying.{cut_carries, ran_carries}
use Rattle.run_console.proofs.Ends.{line_runs, line_stops}
use Rattle.run_console.proofs.LineSteps.{fault_known}
use Rattle.run_console.proofs.Lines.{cut_written}
use Rattle.run_console.proofs.book_lines.line.Goals as goal

pub returns-in_err-run_line-clause-stops : goal.returns-in_err-run_line-clause-stops
returns-in_err-run_line-clause-stops g c = λ sound.
    let p = err_from_is_err_and c.from_residual.result c.from_residual.ensures.1 in
    rw (p.1, p.2) (
    line_stops g.D.RunDisk.state c.args.bytes.now c.args.book.now c.run_line.new.book
    (g.W.Write.contents c.args.output.now) (g.W.Write.contents c.run_line.new.output)
    c.in_err-run_line.field-0.0
    (rw c.new-buffer.ensures at (c.in_err-run_line.ensures.cut c.args.bytes.now refl)))

pub returns-clause-runs : goal.returns-clause-runs
returns-clause-runs g c =
    on_ok_weaker c.write_out.result
    (λ h. line_runs
    (rw c.new-buffer.ensures at (c.in_ok-run_line.ensures.ran c.args.bytes.now refl)) h
    c.in_ok-run_line.ensures.saved)
    c.write_out.ensures.whole

pub returns-clause-stops : goal.returns-clause-stops
returns-clause-stops g c = λ sound.
    let line = c.args.bytes.now in
    let b = c.args.book.now in
    let d = c.run_line.new.book in
    let w0 = g.W.Write.contents c.args.output.now in
    let w2 = g.W.Write.contents c.write_out.new.output in
    let Stops : RunFault → Type 0 = λ why. LineStops g.D.RunDisk.state why line b d w0 w2 in
    fault_known c.write_out.result fault.Output _ Stops
    (λ h. line_stops g.D.RunDisk.state line b d w0 w2 fault.Output
    (cut_written (rw c.new-buffer.ensures at (c.in_ok-run_line.ensures.ran line refl)) h))
    c.write_out.ensures.fault c.write_out.ensures.cut

-- ---- the book

pub returns-in_err-run_line-clause-lasts : goal.returns-in_err-run_line-clause-lasts
returns-in_err-run_line-clause-lasts g c =
    (c.in_err-run_line.ensures.cut c.args.bytes.now refl).lasts

pub returns-clause-lasts : goal.returns-clause-lasts
returns-clause-lasts g c = (c.in_ok-run_line.ensures.ran c.args.bytes.now refl).lasts

pub returns-in_err-run_line-clause-carries_on :
    goal.returns-in_err-run_line-clause-carries_on
returns-in_err-run_line-clause-carries_on g c =
    cut_carries g.D.RunDisk.state g.met.D.RunDisk.is_disk
    c.durable-durable.ensures.images (c.in_err-run_line.ensures.cut c.args.bytes.now refl)

pub returns-clause-carries_on : goal.returns-clause-carries_on
returns-clause-carries_on g c =
    ran_carries g.D.RunDisk.state g.met.D.RunDisk.is_disk
    c.durable-durable.ensures.images (c.in_ok-run_line.ensures.ran c.args.bytes.now refl)
