use Rattle.std.specs.Prelude.{◌≡◌, drop}
use Rattle.drive_runs.specs.Faults.{first_fault}
use Rattle.drive_runs.proofs.faults.first_fault.Given as goal

-- It is the first one of the other replies.
abbrev pub invariant-loop-reply : goal.invariant-loop-reply
invariant-loop-reply l =
    first_fault l.replies ≡ first_fault (drop l.reply-index l.replies)
