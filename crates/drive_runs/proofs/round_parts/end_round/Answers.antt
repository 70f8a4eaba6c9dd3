use Rattle.std.specs.Prelude.{Option, None}
use Rattle.std.proofs.Common.{List, ap, length, subst, ◌∙◌, ℕ}
use Rattle.std.proofs.lemmas.Result.{IfOk-weaker}
use Rattle.run_model.specs.State.{State}
use Rattle.drive_runs.specs.declared.answers.Answer.{Answer}
use Rattle.drive_runs.specs.declared.openings.Hindrance.{Hindrance}
use Rattle.drive_runs.specs.Answers.{Hinders, PlaysRound, time_of}
use Rattle.drive_runs.specs.Grows.{Grows}
use Rattle.drive_runs.specs.Parts.{AnswersDraft}
use Rattle.drive_runs.proofs.Answering.{hinders_before}
use Rattle.drive_runs.proofs.Seating.{sits_down}
use Rattle.drive_runs.proofs.Moving.{moves_then}
use Rattle.drive_runs.proofs.round_parts.end_round.Goals as goal

pub of-sitting-requires : goal.of-sitting-requires
of-sitting-requires g c =
    c.in_ok-kept.ensures.sizes.sized
    ∙ ap (λ (l : List ℕ). length l) c.as_slice.ensures.value

pub returns-in-Some-clause-answered : goal.returns-in-Some-clause-answered
returns-in-Some-clause-answered g c =
    let round = c.in_ok-plan.field-0 in
    let middle = c.missing_groups.new.book in
    let sitting = c.of-sitting.result in
    IfOk-weaker c.hindered.result (Hinders c.in-Some.hindrance)
    (λ (answer : Answer). AnswersDraft g.D.RunDisk.state c.args.kind c.args.kept c.args.heard
    c.args.book.now answer middle)
    (λ answer is. (
      round,
      c.in_ok-plan.ensures,
      record {
        sitting = sitting;
        is = sits_down c.args.kept round c.in_ok-kept.kept sitting _ c.as_slice.ensures.value
            c.in_ok-kept.ensures c.of-sitting.ensures.plan c.of-sitting.ensures.kept
            c.of-sitting.ensures.night;
        found = _;
        between = middle;
        grows = c.in_ok-hindrance.ensures.grows;
        plays = hinders_before g.D.RunDisk.state _ c.in-Some.hindrance c.args.kind sitting
            round.heard _ middle answer c.in-Some.is is;
      },
    )) c.hindered.ensures

pub returns-clause-moves : goal.returns-clause-moves
returns-clause-moves g c =
    moves_then g.D.RunDisk.state _ _ _ c.missing_groups.ensures.moves c.play_round.ensures.moves

pub returns-clause-answered : goal.returns-clause-answered
returns-clause-answered g c =
    let round = c.in_ok-plan.field-0 in
    let middle = c.missing_groups.new.book in
    let sitting = c.of-sitting.result in
    let at = c.time_of-now.ensures ∙ ap (λ (n : ℕ). time_of round.heard.time n)
    (c.clock.ensures ∙ ap (λ (p : State). p.tree.clock) c.state.ensures.state) in
    IfOk-weaker c.play_round.result (λ (answer : Answer).
    PlaysRound g.D.RunDisk.state c.args.kind sitting round.heard c.time_of-now.result middle answer
    c.play_round.new.book)
    (λ (answer : Answer). AnswersDraft g.D.RunDisk.state c.args.kind c.args.kept c.args.heard
    c.args.book.now answer c.play_round.new.book)
    (λ answer plays. (
      round,
      c.in_ok-plan.ensures,
      record {
        sitting = sitting;
        is = sits_down c.args.kept round c.in_ok-kept.kept sitting _ c.as_slice.ensures.value
            c.in_ok-kept.ensures c.of-sitting.ensures.plan c.of-sitting.ensures.kept
            c.of-sitting.ensures.night;
        found = None;
        between = middle;
        grows = subst (λ (found : Option Hindrance). Grows g.D.RunDisk.state sitting
            c.args.book.now found middle) c.in_default.is c.in_ok-hindrance.ensures.grows;
        plays = subst (λ (now : ℕ). PlaysRound g.D.RunDisk.state c.args.kind sitting round.heard
            now middle answer c.play_round.new.book) at plays;
      },
    )) c.play_round.ensures.answered
