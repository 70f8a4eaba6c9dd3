use Rattle.plan_lines.proofs.Standing.{appended}
use Rattle.plan_lines.proofs.rounds.push_all_standings.Goals as goal

pub loop-command-preserved : goal.loop-command-preserved
loop-command-preserved c =
    appended c.args.lines.now.items c.loop-command.lines.items c.push.new.self.items
    c.loop-command.command c.args.all.now _ c.loop-command-test.true c.loop-command.invariant
    c.in_ok-push.ensures.items
