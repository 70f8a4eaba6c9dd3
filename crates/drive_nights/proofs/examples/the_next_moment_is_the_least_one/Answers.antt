use Rattle.std.proofs.Common.{None, Some, [], codes, ◌∷◌}
use Rattle.drive_nights.specs.Examples.{timed, timed_at, two_groups}
use Rattle.drive_nights.proofs.Waking.{computes}
use Rattle.drive_nights.proofs.examples.the_next_moment_is_the_least_one.Goals as goal

pub returns-clause-retry : goal.returns-clause-retry
returns-clause-retry c = computes timed 1 two_groups (Some 300)

pub returns-clause-disks : goal.returns-clause-disks
returns-clause-disks c = computes timed 1 two_groups (Some 500)

pub returns-clause-all : goal.returns-clause-all
returns-clause-all c = computes (timed_at 400) 1 two_groups None

pub returns-clause-none : goal.returns-clause-none
returns-clause-none c = computes (timed_at 600) 1 two_groups None

pub returns-clause-tapes : goal.returns-clause-tapes
returns-clause-tapes c = computes timed 1 (codes "tapes" ∷ []) None
