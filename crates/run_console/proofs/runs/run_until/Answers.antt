use Rattle.std.proofs.Common.{sym, subst, ◌∙◌}
use Rattle.std.proofs.lemmas.Result.{err_from_is_err_and}
use Rattle.run_model.specs.Session.{Session}
use Rattle.run_console.specs.RunProgress.{Lasts}
use Rattle.run_console.proofs.Carrying.{run_ended, run_halted, run_refused}
use Rattle.run_console.proofs.Wholes.{run_ends, stops_closing}
use Rattle.run_console.proofs.runs.run_until.Goals as goal

pub returns-then-is_broken : goal.returns-then-is_broken
returns-then-is_broken g c =
    run_refused g.D.RunDisk.state c.durable-durable.ensures.carries_on
    (sym c.is_broken.ensures ∙ c.if-is_broken.true)

pub returns-in_err-rejection : goal.returns-in_err-rejection
returns-in_err-rejection g c =
    let p = err_from_is_err_and c.from_residual.result c.from_residual.ensures.1 in
    rw (p.1, p.2) (
    run_halted g.D.RunDisk.state g.met.D.RunDisk.is_disk c.durable-durable.ensures.images
    (sym c.is_broken.ensures ∙ c.if-is_broken.false) c.in_err-rejection.ensures.stops)

pub returns-in_err-close : goal.returns-in_err-close
returns-in_err-close g c =
    let p = err_from_is_err_and c.from_residual-in_err-close.result
    c.from_residual-in_err-close.ensures.1 in
    rw (p.1, p.2) (
    run_halted g.D.RunDisk.state g.met.D.RunDisk.is_disk c.durable-durable.ensures.images
    (sym c.is_broken.ensures ∙ c.if-is_broken.false)
    (stops_closing c.in_ok-rejection.ensures.ran c.close.ensures.session
    c.in_err-close.ensures.stops
    c.in_err-close.ensures.tried))

pub returns : goal.returns
returns g c =
    let P : Session → Type 0 = λ s. Lasts c.args.book.now.session s in
    run_ended g.D.RunDisk.state g.met.D.RunDisk.is_disk c.durable-durable.ensures.images
    (sym c.is_broken.ensures ∙ c.if-is_broken.false)
    (run_ends c.in_ok-rejection.ensures.ran c.close.ensures.session c.in_ok-close.ensures.closes)
    (subst P (sym c.close.ensures.session) c.in_ok-rejection.ensures.ran.ran.lasts)
