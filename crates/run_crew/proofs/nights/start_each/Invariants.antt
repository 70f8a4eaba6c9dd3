use Rattle.std.proofs.Common.{◌≡◌, ◌⊎◌, ◌+◌, ◌++◌, ◌<◌, ◌≤◌, All, map, vec_len, vec_capacity}
use Rattle.std.specs.Vec.Iter.{into_iter_items, into_iter_len}
use Rattle.run_crew.proofs.nights.start_each.Given as goal

abbrev pub invariant-loop-worker : goal.invariant-loop-worker
invariant-loop-worker g l =
    (vec_len l.handles + into_iter_len l.worker-iterator ≤ vec_len l.fn.workers)
    × (vec_len l.fn.workers ≤ vec_capacity l.handles)
    × All (λ h. h.promise.gate.now ≡ l.gate) l.handles.items
    × ((vec_len l.handles + into_iter_len l.worker-iterator < vec_len l.fn.workers)
    ⊎ (map (λ h. h.promise.jobs.value) l.handles.items
    ++ map (λ worker. worker.jobs) (into_iter_items l.worker-iterator)
    ≡ map (λ worker. worker.jobs) l.fn.workers.items))
