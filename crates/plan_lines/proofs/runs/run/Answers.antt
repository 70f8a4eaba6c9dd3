use Rattle.std.proofs.Common.{arith}
use Rattle.std.proofs.lemmas.Result.{err_from_is_err_and}
use Rattle.plan_lines.specs.Runs.{TakesLine}
use Rattle.plan_lines.proofs.Reading.{reads_ended, reads_slice}
use Rattle.plan_lines.proofs.Running.{begun, input_ends_run, input_stops_run, line_ends_run}
use Rattle.plan_lines.proofs.Running.{line_stops_run, line_taken, lines_stop_run}
use Rattle.plan_lines.proofs.Steps.{answers_at}
use Rattle.plan_lines.proofs.runs.run.Goals as goal

pub loop-number-init : goal.loop-number-init
loop-number-init g c = begun _ _ _ _ c.new-reader.ensures c.new.ensures

pub returns-in_err-found : goal.returns-in_err-found
returns-in_err-found g c =
    let p = err_from_is_err_and c.from_residual.result c.from_residual.ensures.1 in
    rw (p.1, p.2)
    (input_stops_run c.in_err-found.field-0.0 c.loop-number.invariant c.in_err-found.ensures)

pub returns-then-not-found : goal.returns-then-not-found
returns-then-not-found g c =
    input_ends_run c.loop-number.invariant
    (reads_ended c.in_ok-found.found _ _ _ _ _ c.if-not-found.true c.in_ok-found.ensures)

pub returns-in_err-next : goal.returns-in_err-next
returns-in_err-next g c =
    let p = err_from_is_err_and c.from_residual-in_err-next.result
    c.from_residual-in_err-next.ensures.1 in
    let reads = reads_slice c.in_ok-found.found _ _ _ _ _ c.as_slice.result.now c.if-not-found.false
    c.as_slice.ensures.value c.in_ok-found.ensures in
    rw (p.1, p.2)
    (line_stops_run c.in_err-next.field-0.0 c.loop-number.invariant reads c.in_err-next.ensures)

pub returns-in-End : goal.returns-in-End
returns-in-End g c =
    let reads = reads_slice c.in_ok-found.found _ _ _ _ _ c.as_slice.result.now c.if-not-found.false
    c.as_slice.ensures.value c.in_ok-found.ensures in
    line_ends_run c.in-End.end c.loop-number.invariant reads
    (answers_at (TakesLine c.loop-number.part c.loop-number.number c.as_slice.result.now) _ _ _ _
    c.in-End.is c.in_ok-next.ensures)

pub loop-number-preserved : goal.loop-number-preserved
loop-number-preserved g c =
    let reads = reads_slice c.in_ok-found.found _ _ _ _ _ c.as_slice.result.now c.if-not-found.false
    c.as_slice.ensures.value c.in_ok-found.ensures in
    line_taken c.in-Part.next c.loop-number.invariant reads
    (answers_at (TakesLine c.loop-number.part c.loop-number.number c.as_slice.result.now) _ _ _ _
    c.in-Part.is c.in_ok-next.ensures)

pub returns : goal.returns
returns g c = lines_stop_run _ _ _ _ _ _ _ c.loop-number.invariant (omega arith)
