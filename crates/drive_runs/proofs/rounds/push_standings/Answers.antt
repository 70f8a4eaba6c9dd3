use Rattle.drive_runs.proofs.Ordering.{standing_more}
use Rattle.drive_runs.proofs.rounds.push_standings.Goals as goal

pub loop-command-preserved : goal.loop-command-preserved
loop-command-preserved c =
    standing_more c.args.orders.now.items c.loop-command.orders.items c.push.new.self.items
    c.loop-command.command c.args.all.now _ c.loop-command-test.true c.loop-command.invariant
    c.in_ok-push.ensures.items
