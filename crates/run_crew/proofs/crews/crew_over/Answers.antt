use Rattle.std.proofs.Common.{◌∙◌, Err, ap, inl, inr, refl}
use Rattle.console_lines.specs.Faults.{stopped}
use Rattle.run_crew.proofs.PrintedNights.{acks_reported, keeps_night}
use Rattle.run_crew.proofs.crews.crew_over.Goals as goal

pub returns-in-Err : goal.returns-in-Err
returns-in-Err g c =
    inl (
      c.in-Err.fault,
      ap Err c.from.ensures,
      c.in-Err.ensures.opens.answer,
      refl,
      λ honest rest p stores. c.in-Err.ensures.opens.any_moment honest rest p stores,
    )

pub returns-in-Err-report : goal.returns-in-Err-report
returns-in-Err-report g c =
    let state = g.D.RunDisk.state in
    let b = c.in-Ok.book in
    let reported = rw c.in-Err-report.is at c.work-report.ensures.worked in
    let left = c.work-report.ensures.left in
    inr (
      b,
      c.in-Ok.ensures.opens.answer,
      c.in-Ok.ensures.session,
      inl (
        ap Err (c.from-in-Err-report.ensures ∙ ap stopped reported),
        refl,
        λ honest rest p stores. (
          left.book.session.history,
          keeps_night state c.args.disk b c.in-Ok.ensures.opens c.in-Ok.ensures.session honest rest
              p stores left.book left.carries c.work-report.result.1 left.disk,
        ),
      ),
    )

pub returns-in-Ok-report : goal.returns-in-Ok-report
returns-in-Ok-report g c =
    let state = g.D.RunDisk.state in
    let b = c.in-Ok.book in
    let report = c.in-Ok-report.report in
    let left = c.work-report.result.1 in
    let worked = rw c.in-Ok-report.is at c.work-report.ensures.worked in
    inr (
      b,
      c.in-Ok.ensures.opens.answer,
      c.in-Ok.ensures.session,
      inr (
        report.audited,
        report.starts,
        report.finishes,
        report.flushed,
        worked,
        c.print_report.ensures,
        λ honest rest p stores. (
          keeps_night state c.args.disk b c.in-Ok.ensures.opens c.in-Ok.ensures.session honest rest
              p stores worked.desk.book worked.carries left worked.disk,
          acks_reported state c.args.disk b c.in-Ok.ensures.opens c.in-Ok.ensures.session honest
              rest
              p stores worked.desk.book worked.carries left report.flushed worked.disk
              worked.replays worked.durable worked.acked,
        ),
      ),
    )
