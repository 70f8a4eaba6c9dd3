use Rattle.std.specs.Prelude.{Option}
use Rattle.std.proofs.Common.{inl, subst}
use Rattle.std.proofs.lemmas.Result.{IfOk-weaker}
use Rattle.drive_runs.specs.declared.answers.Answer.{Answer}
use Rattle.drive_runs.specs.declared.openings.Hindrance.{Hindrance}
use Rattle.drive_runs.specs.Answers.{ClosesRound, EndsNight, Hinders}
use Rattle.drive_runs.proofs.round_parts.give_orders.Goals as goal

pub returns-in-Some-clause-closed : goal.returns-in-Some-clause-closed
returns-in-Some-clause-closed g c =
    let ends = subst (λ (found : Option Hindrance). EndsNight g.D.RunDisk.state
    c.args.sitting.kept.night c.args.orders.is_over c.args.book.now found c.mark_end.new.book)
    c.in-Some.is c.in_ok-hindrance.ensures.ends in
    IfOk-weaker c.hindered.result (Hinders c.in-Some.hindrance)
    (λ (answer : Answer). ClosesRound g.D.RunDisk.state c.args.sitting c.args.book.now
    c.args.bound.items c.args.orders answer c.mark_end.new.book)
    (λ answer is. inl record {
      what = c.in-Some.hindrance;
      over = ends.0;
      why = ends.1;
      says = is;
    }) c.hindered.ensures
