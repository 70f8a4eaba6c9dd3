use Rattle.std.specs.Prelude.{Option, None}
use Rattle.std.proofs.Common.{subst}
use Rattle.std.proofs.lemmas.Result.{IfOk-weaker}
use Rattle.drive_runs.specs.declared.answers.Answer.{Answer}
use Rattle.drive_runs.specs.declared.openings.Hindrance.{Hindrance}
use Rattle.drive_runs.specs.declared.round_parts.RoundKind.TheVariants as kind
use Rattle.drive_runs.specs.Answers.{Hinders, PlaysRound, Resumes}
use Rattle.drive_runs.specs.Opens.{Opens}
use Rattle.drive_runs.proofs.Answering.{hinders_before}
use Rattle.drive_runs.proofs.Moving.{moves_then}
use Rattle.drive_runs.proofs.round_parts.resume.Goals as goal

pub returns-in-Some-clause-answered : goal.returns-in-Some-clause-answered
returns-in-Some-clause-answered g c =
    let rest = c.args.rest in
    let middle = c.open_night.new.book in
    IfOk-weaker c.hindered.result (Hinders c.in-Some.hindrance)
    (λ (answer : Answer). Resumes g.D.RunDisk.state c.args.sitting rest c.args.book.now answer
    middle)
    (λ answer is. (
      _,
      middle,
      c.in_ok-hindrance.ensures.opens,
      hinders_before g.D.RunDisk.state _ c.in-Some.hindrance kind.Again c.args.sitting rest.heard
          rest.now middle answer c.in-Some.is is,
    )) c.hindered.ensures

pub returns-clause-moves : goal.returns-clause-moves
returns-clause-moves g c =
    moves_then g.D.RunDisk.state _ _ _ c.open_night.ensures.moves c.play_round.ensures.moves

pub returns-clause-answered : goal.returns-clause-answered
returns-clause-answered g c =
    let rest = c.args.rest in
    let middle = c.open_night.new.book in
    IfOk-weaker c.play_round.result
    (λ (answer : Answer). PlaysRound g.D.RunDisk.state kind.Again c.args.sitting rest.heard rest.now
    middle answer c.play_round.new.book)
    (λ (answer : Answer). Resumes g.D.RunDisk.state c.args.sitting rest c.args.book.now answer
    c.play_round.new.book)
    (λ answer plays. (
      None,
      middle,
      subst (λ (found : Option Hindrance). Opens g.D.RunDisk.state c.args.sitting c.args.book.now
          found middle) c.in_default.is c.in_ok-hindrance.ensures.opens,
      plays,
    )) c.play_round.ensures.answered
