use Rattle.std.proofs.Common.{◌≡◌, ◌+◌, ◌++◌, ◌≤◌, map, vec_len, vec_capacity}
use Rattle.std.specs.Vec.Iter.{into_iter_items, into_iter_len}
use Rattle.run_crew.specs.OwnCounts.{CountsSame, GivesParts}
use Rattle.run_crew.proofs.nights.workers_of.Given as goal

abbrev pub invariant-loop-list : goal.invariant-loop-list
invariant-loop-list g l =
    (vec_len l.workers + into_iter_len l.list-iterator ≡ vec_len l.fn.jobs)
    × (vec_len l.fn.jobs ≤ vec_capacity l.workers)
    × GivesParts (vec_len l.workers) l.fn.own l.own
    × CountsSame l.fn.own l.own
    × (map (λ worker. worker.jobs) l.workers.items ++ into_iter_items l.list-iterator
    ≡ l.fn.jobs.items)
