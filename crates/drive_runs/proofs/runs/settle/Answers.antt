use Rattle.std.specs.Prelude.{Err}
use Rattle.std.proofs.Common.{List, inr, refl, subst, ◌∙◌}
use Rattle.run_model.specs.declared.faults.Trouble.{Trouble}
use Rattle.book_model.specs.Books.{Flushes}
use Rattle.plan_lines.specs.Writing.{WritesPrefix}
use Rattle.drive_lines.specs.declared.orders.Order.{Order}
use Rattle.drive_lines.specs.Orders.{order_lines}
use Rattle.drive_runs.proofs.Driving.{stored_all, whole_prefix}
use Rattle.drive_runs.proofs.runs.settle.Goals as goal

pub returns-in-Ok-clause-settles : goal.returns-in-Ok-clause-settles
returns-in-Ok-clause-settles g c =
    let e = c.in-Ok.ensures in (
      stored_all g.D.RunDisk.state c.args.book.now c.flush.new.self c.in-Ok.field-0
          (g.met.D.RunDisk.is_disk c.flush.new.self.journal.disk) e.flushes.saves e.stores,
      refl,
    )

pub returns-in-Ok-written-clause-settles : goal.returns-in-Ok-written-clause-settles
returns-in-Ok-written-clause-settles g c =
    let fault = c.in-Err-Faulty.fault in
    inr (
      fault,
      subst (λ (t : Trouble). Flushes g.D.RunDisk.state c.args.book.now (Err t) c.flush.new.self)
          c.in-Err-Faulty.field-0-is c.in-Err-Faulty.ensures.flushes,
      subst (λ (l : List Order). WritesPrefix (g.W.Write.contents c.args.output.now)
          (g.W.Write.contents c.write_answer-written.new.output) (order_lines l))
          (c.as_slice.ensures.value ∙ c.in-Ok-one_line.ensures)
          (whole_prefix _ _ (order_lines c.as_slice.result.now) c.in-Ok-written.ensures.whole),
    )

pub returns-in-Err-written-clause-settles : goal.returns-in-Err-written-clause-settles
returns-in-Err-written-clause-settles g c =
    let fault = c.in-Err-Faulty.fault in
    inr (
      fault,
      subst (λ (t : Trouble). Flushes g.D.RunDisk.state c.args.book.now (Err t) c.flush.new.self)
          c.in-Err-Faulty.field-0-is c.in-Err-Faulty.ensures.flushes,
      subst (λ (l : List Order). WritesPrefix (g.W.Write.contents c.args.output.now)
          (g.W.Write.contents c.write_answer-written.new.output) (order_lines l))
          (c.as_slice.ensures.value ∙ c.in-Ok-one_line.ensures) c.in-Err-written.ensures.prefix,
    )
