use Rattle.std.proofs.Common.{ap, inl, refl, sym, ◌∙◌}
use Rattle.std.proofs.lemmas.Result.{IfOk-weaker}
use Rattle.run_model.specs.State.{State}
use Rattle.drive_steps.specs.Rooms.{are_housed}
use Rattle.drive_runs.specs.declared.answers.Answer.{Answer}
use Rattle.drive_runs.specs.declared.openings.Hindrance.TheVariants as hindrance
use Rattle.drive_runs.specs.declared.rounds.Course.TheVariants as course
use Rattle.drive_runs.specs.Answers.{ClosesRound, EndsRound, Hinders, PutsBack}
use Rattle.drive_runs.proofs.Answering.{goes_as}
use Rattle.drive_runs.proofs.Moving.{moves_then}
use Rattle.drive_runs.proofs.round_parts.answer.Goals as goal

pub returns-then-not-are_housed-clause-ended : goal.returns-then-not-are_housed-clause-ended
returns-then-not-are_housed-clause-ended g c =
    IfOk-weaker c.hindered.result (Hinders hindrance.Full)
    (λ (answer : Answer). EndsRound g.D.RunDisk.state c.args.kind c.args.sitting c.args.rest
    c.args.book.now c.args.bound.items answer c.args.book.now)
    (λ answer is. inl (
      ap (λ (p : State). are_housed p c.args.sitting.names) (sym c.state.ensures.state)
          ∙ sym c.are_housed.ensures ∙ c.if-not-are_housed.true,
      is,
      refl,
    )) c.hindered.ensures

pub returns-in-On-clause-ended : goal.returns-in-On-clause-ended
returns-in-On-clause-ended g c =
    let after = c.go_on.new.sitting in
    let to = c.go_on.new.book in
    let orders = c.in-On.orders in
    IfOk-weaker c.give_orders.result
    (λ (answer : Answer). ClosesRound g.D.RunDisk.state after to c.args.bound.items orders answer
    c.give_orders.new.book)
    (λ (answer : Answer). EndsRound g.D.RunDisk.state c.args.kind c.args.sitting c.args.rest
    c.args.book.now c.args.bound.items answer c.give_orders.new.book)
    (λ answer closes. goes_as g.D.RunDisk.state c.args.kind c.args.sitting after c.args.rest
    c.args.book.now to c.give_orders.new.book c.args.bound.items _ (course.On orders) answer
    c.in_ok-orders.ensures.goes_on c.in-On.is closes) c.give_orders.ensures.closed

pub returns-in-Faulty-clause-ended : goal.returns-in-Faulty-clause-ended
returns-in-Faulty-clause-ended g c =
    let to = c.go_on.new.book in
    IfOk-weaker c.fail.result (Hinders (hindrance.Fault c.in-Faulty.fault))
    (λ (answer : Answer). EndsRound g.D.RunDisk.state c.args.kind c.args.sitting c.args.rest
    c.args.book.now c.args.bound.items answer to)
    (λ answer is. goes_as g.D.RunDisk.state c.args.kind c.args.sitting c.go_on.new.sitting
    c.args.rest c.args.book.now to to c.args.bound.items _ (course.Faulty c.in-Faulty.fault) answer
    c.in_ok-orders.ensures.goes_on c.in-Faulty.is (is, refl)) c.fail.ensures

pub returns-in-Refused-clause-ended : goal.returns-in-Refused-clause-ended
returns-in-Refused-clause-ended g c =
    let after = c.go_on.new.sitting in
    let to = c.go_on.new.book in
    IfOk-weaker c.open_again.result (PutsBack c.args.kind after c.args.rest)
    (λ (answer : Answer). EndsRound g.D.RunDisk.state c.args.kind c.args.sitting c.args.rest
    c.args.book.now c.args.bound.items answer to)
    (λ answer back. goes_as g.D.RunDisk.state c.args.kind c.args.sitting after c.args.rest
    c.args.book.now to to c.args.bound.items _ course.Refused answer
    c.in_ok-orders.ensures.goes_on c.in-Refused.is (back, refl)) c.open_again.ensures

pub returns-in-On-clause-moves : goal.returns-in-On-clause-moves
returns-in-On-clause-moves g c =
    moves_then g.D.RunDisk.state _ _ _ c.go_on.ensures.moves c.give_orders.ensures.moves
