use Rattle.drive_nights.specs.Deadlines.{IsLeastOf}
use Rattle.drive_nights.proofs.Waking.{ComesBelow}
use Rattle.drive_nights.proofs.deadlines.next_moment.Given as goal

-- The least moment, if only the first groups count.
abbrev pub invariant-loop-group : goal.invariant-loop-group
invariant-loop-group g l =
    IsLeastOf (ComesBelow l.group-index l.state l.night l.groups l.fn.retry) l.next
