use Rattle.std.proofs.Common.{refl}
use Rattle.std.proofs.lemmas.Result.{IfOk-weaker}
use Rattle.drive_runs.specs.declared.answers.Answer.{Answer}
use Rattle.drive_runs.specs.declared.openings.Hindrance.TheVariants as hindrance
use Rattle.drive_runs.specs.declared.records.Recorded.TheVariants as recorded
use Rattle.drive_runs.specs.Answers.{EndsRound, Hinders, PlaysRound, PutsBack}
use Rattle.drive_runs.proofs.Answering.{plays_recorded, plays_unbound}
use Rattle.drive_runs.proofs.Moving.{moves_then}
use Rattle.drive_runs.proofs.round_parts.play_round.Goals as goal

pub returns-in-Hindered-clause-answered : goal.returns-in-Hindered-clause-answered
returns-in-Hindered-clause-answered g c =
    let rest = c.args.rest in
    IfOk-weaker c.hindered.result (Hinders c.in-Hindered.hindrance)
    (λ (answer : Answer). PlaysRound g.D.RunDisk.state c.args.kind c.args.sitting rest.heard
    rest.now c.args.book.now answer c.bind_first.new.book)
    (λ answer is. plays_unbound g.D.RunDisk.state c.args.kind c.args.sitting
    c.bind_first.new.sitting rest.heard rest.now c.args.book.now c.bind_first.new.book _
    c.in-Hindered.hindrance answer c.in_ok-orders.ensures.binds c.in-Hindered.is is)
    c.hindered.ensures

pub returns-in_err-recorded-clause-moves : goal.returns-in_err-recorded-clause-moves
returns-in_err-recorded-clause-moves g c =
    moves_then g.D.RunDisk.state _ _ _ c.bind_first.ensures.moves c.record.ensures.moves

pub returns-in-Reopen-clause-moves : goal.returns-in-Reopen-clause-moves
returns-in-Reopen-clause-moves g c =
    moves_then g.D.RunDisk.state _ _ _ c.bind_first.ensures.moves c.record.ensures.moves

pub returns-in-Full-clause-moves : goal.returns-in-Full-clause-moves
returns-in-Full-clause-moves g c =
    moves_then g.D.RunDisk.state _ _ _ c.bind_first.ensures.moves c.record.ensures.moves

pub returns-in-Faulty-clause-moves : goal.returns-in-Faulty-clause-moves
returns-in-Faulty-clause-moves g c =
    moves_then g.D.RunDisk.state _ _ _ c.bind_first.ensures.moves c.record.ensures.moves

pub returns-in-Well-clause-moves : goal.returns-in-Well-clause-moves
returns-in-Well-clause-moves g c =
    moves_then g.D.RunDisk.state _ _ _ c.bind_first.ensures.moves
    (moves_then g.D.RunDisk.state _ _ _ c.record.ensures.moves c.answer.ensures.moves)

pub returns-in-Reopen-clause-answered : goal.returns-in-Reopen-clause-answered
returns-in-Reopen-clause-answered g c =
    let rest = c.args.rest in
    IfOk-weaker c.open_again.result
    (PutsBack c.args.kind c.record.new.sitting c.without_ends-rest.result)
    (λ (answer : Answer). PlaysRound g.D.RunDisk.state c.args.kind c.args.sitting rest.heard
    rest.now c.args.book.now answer c.record.new.book)
    (λ answer is. plays_recorded g.D.RunDisk.state c.args.kind c.args.sitting
    c.bind_first.new.sitting c.record.new.sitting rest.heard rest.now c.args.book.now
    c.bind_first.new.book c.record.new.book c.record.new.book _ c.in-Orders.orders _
    recorded.Reopen c.without_ends-rest.result answer c.in_ok-orders.ensures.binds c.in-Orders.is
    c.in_ok-recorded.ensures.recorded c.in-Reopen.is c.without_ends-rest.ensures (is, refl))
    c.open_again.ensures

pub returns-in-Full-clause-answered : goal.returns-in-Full-clause-answered
returns-in-Full-clause-answered g c =
    let rest = c.args.rest in
    IfOk-weaker c.hindered-in-Full.result (Hinders hindrance.Full)
    (λ (answer : Answer). PlaysRound g.D.RunDisk.state c.args.kind c.args.sitting rest.heard
    rest.now c.args.book.now answer c.record.new.book)
    (λ answer is. plays_recorded g.D.RunDisk.state c.args.kind c.args.sitting
    c.bind_first.new.sitting c.record.new.sitting rest.heard rest.now c.args.book.now
    c.bind_first.new.book c.record.new.book c.record.new.book _ c.in-Orders.orders _
    recorded.Full c.without_ends-rest.result answer c.in_ok-orders.ensures.binds c.in-Orders.is
    c.in_ok-recorded.ensures.recorded c.in-Full.is c.without_ends-rest.ensures (is, refl))
    c.hindered-in-Full.ensures

pub returns-in-Faulty-clause-answered : goal.returns-in-Faulty-clause-answered
returns-in-Faulty-clause-answered g c =
    let rest = c.args.rest in
    IfOk-weaker c.fail.result (Hinders (hindrance.Fault c.in-Faulty.fault))
    (λ (answer : Answer). PlaysRound g.D.RunDisk.state c.args.kind c.args.sitting rest.heard
    rest.now c.args.book.now answer c.record.new.book)
    (λ answer is. plays_recorded g.D.RunDisk.state c.args.kind c.args.sitting
    c.bind_first.new.sitting c.record.new.sitting rest.heard rest.now c.args.book.now
    c.bind_first.new.book c.record.new.book c.record.new.book _ c.in-Orders.orders _
    (recorded.Faulty c.in-Faulty.fault) c.without_ends-rest.result answer
    c.in_ok-orders.ensures.binds c.in-Orders.is
    c.in_ok-recorded.ensures.recorded c.in-Faulty.is c.without_ends-rest.ensures (is, refl))
    c.fail.ensures

pub returns-in-Well-clause-answered : goal.returns-in-Well-clause-answered
returns-in-Well-clause-answered g c =
    let rest = c.args.rest in
    IfOk-weaker c.answer.result
    (λ (answer : Answer). EndsRound g.D.RunDisk.state c.args.kind c.record.new.sitting
    c.without_ends-rest.result c.record.new.book c.in-Orders.orders.items answer
    c.answer.new.book)
    (λ (answer : Answer). PlaysRound g.D.RunDisk.state c.args.kind c.args.sitting rest.heard
    rest.now c.args.book.now answer c.answer.new.book)
    (λ answer is. plays_recorded g.D.RunDisk.state c.args.kind c.args.sitting
    c.bind_first.new.sitting c.record.new.sitting rest.heard rest.now c.args.book.now
    c.bind_first.new.book c.record.new.book c.answer.new.book _ c.in-Orders.orders _
    recorded.Well c.without_ends-rest.result answer c.in_ok-orders.ensures.binds c.in-Orders.is
    c.in_ok-recorded.ensures.recorded c.in-Well.is c.without_ends-rest.ensures is)
    c.answer.ensures.ended
