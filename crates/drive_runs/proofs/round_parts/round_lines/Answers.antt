use Rattle.drive_runs.proofs.Ordering.{closed}
use Rattle.drive_runs.proofs.round_parts.round_lines.Goals as goal

pub returns : goal.returns
returns c =
    closed c.args.bound.items c.args.orders.lines.items _ _ _ _ _ c.in_ok-append.ensures.items
    c.in_ok-push.ensures.items c.in_ok-push_over.ensures c.in_ok-push-2.ensures.items
