use Rattle.std.proofs.Common.{arith, refl, ◌∙◌}
use Rattle.run_crew.proofs.Coursing.{all_turns, failed_turn, finished_turn, next_round}
use Rattle.run_crew.proofs.Coursing.{no_rounds, refused_turn, round-path}
use Rattle.run_crew.proofs.courses.make_turns.Goals as goal

pub loop-turn-init : goal.loop-turn-init
loop-turn-init g c = (refl, no_rounds g.W.WorkerCalls.step c.args.info.now c.args.job _)

pub returns-then-not-may_turn-clause-jobs : goal.returns-then-not-may_turn-clause-jobs
returns-then-not-may_turn-clause-jobs g c = c.may_turn.ensures.jobs ∙ c.loop-turn.invariant.0

pub returns-then-not-may_turn-clause-calls : goal.returns-then-not-may_turn-clause-calls
returns-then-not-may_turn-clause-calls g c =
    refused_turn g.W.WorkerCalls.step c.args.info.now c.args.job c.loop-turn.turn c.may_turn.result
    c.failure.result _ _ _ (omega (arith, c.loop-turn-test.true)) c.if-not-may_turn.true
    c.failure.ensures c.loop-turn.invariant.1 c.may_turn.ensures.step

pub returns-in-Finished-clause-jobs : goal.returns-in-Finished-clause-jobs
returns-in-Finished-clause-jobs g c =
    c.turn.ensures.jobs ∙ (c.is_done-done.ensures.jobs
    ∙ (c.may_turn.ensures.jobs ∙ c.loop-turn.invariant.0))

pub returns-in-Finished-clause-calls : goal.returns-in-Finished-clause-calls
returns-in-Finished-clause-calls g c =
    finished_turn g.W.WorkerCalls.step c.args.info.now c.args.job c.loop-turn.turn
    c.is_done-done.result
    c.turn.result _ _ _ (omega (arith, c.loop-turn-test.true)) c.in-Finished.is
    c.loop-turn.invariant.1
    (round-path g.W.WorkerCalls.step c.args.info.now c.args.job c.loop-turn.turn c.may_turn.result
    c.is_done-done.result c.turn.result _ _ _ _ c.if-not-may_turn.false c.may_turn.ensures.step
    c.is_done-done.ensures.step c.turn.ensures.step)

pub returns-in-Failed-clause-jobs : goal.returns-in-Failed-clause-jobs
returns-in-Failed-clause-jobs g c =
    c.turn.ensures.jobs ∙ (c.is_done-done.ensures.jobs
    ∙ (c.may_turn.ensures.jobs ∙ c.loop-turn.invariant.0))

pub returns-in-Failed-clause-calls : goal.returns-in-Failed-clause-calls
returns-in-Failed-clause-calls g c =
    failed_turn g.W.WorkerCalls.step c.args.info.now c.args.job c.loop-turn.turn
    c.is_done-done.result
    c.turn.result c.in-Failed.error _ _ _ (omega (arith, c.loop-turn-test.true)) c.in-Failed.is
    c.loop-turn.invariant.1
    (round-path g.W.WorkerCalls.step c.args.info.now c.args.job c.loop-turn.turn c.may_turn.result
    c.is_done-done.result c.turn.result _ _ _ _ c.if-not-may_turn.false c.may_turn.ensures.step
    c.is_done-done.ensures.step c.turn.ensures.step)

pub loop-turn-preserved : goal.loop-turn-preserved
loop-turn-preserved g c = (
  c.turn.ensures.jobs ∙ (c.is_done-done.ensures.jobs
      ∙ (c.may_turn.ensures.jobs ∙ c.loop-turn.invariant.0)),
  next_round g.W.WorkerCalls.step c.args.info.now c.args.job c.loop-turn.turn c.is_done-done.result
      c.turn.result _ _ _ c.in-More.is c.loop-turn.invariant.1
      (round-path g.W.WorkerCalls.step c.args.info.now c.args.job c.loop-turn.turn c.may_turn.result
      c.is_done-done.result c.turn.result _ _ _ _ c.if-not-may_turn.false c.may_turn.ensures.step
      c.is_done-done.ensures.step c.turn.ensures.step),
)

pub returns-clause-jobs : goal.returns-clause-jobs
returns-clause-jobs g c = c.loop-turn.invariant.0

pub returns-clause-calls : goal.returns-clause-calls
returns-clause-calls g c =
    all_turns g.W.WorkerCalls.step c.args.info.now c.args.job c.loop-turn.turn c.failure-2.result _
    _
    (omega (arith, c.loop-turn-test.false, c.loop-turn.auto.turn-end)) c.failure-2.ensures
    c.loop-turn.invariant.1
