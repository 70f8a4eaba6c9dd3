use Rattle.std.specs.Prelude.{◌≡◌, drop}
use Rattle.drive_steps.specs.Cancels.{are_started}
use Rattle.drive_steps.proofs.reported.were_canceled.Given as goal

-- It depends on the other cancels and replies.
abbrev pub invariant-loop-cancel : goal.invariant-loop-cancel
invariant-loop-cancel l =
    are_started l.taken (drop l.ends l.replies)
    ≡ are_started (drop l.cancel-index l.taken) l.rest
