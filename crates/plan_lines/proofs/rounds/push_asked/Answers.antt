use Rattle.plan_lines.proofs.Answered.{asked_for, not_asked_for}
use Rattle.plan_lines.proofs.rounds.push_asked.Goals as goal

pub returns-in_ok-push_standings : goal.returns-in_ok-push_standings
returns-in_ok-push_standings c =
    asked_for c.args.state.now _ _ c.if-state.true c.in_ok-push_standings.ensures

pub returns-else-state : goal.returns-else-state
returns-else-state c = not_asked_for c.args.state.now _ c.if-state.false
