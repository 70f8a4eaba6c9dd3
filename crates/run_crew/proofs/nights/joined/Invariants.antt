use Rattle.std.proofs.Common.{◌≡◌, ◌+◌, ◌++◌, ◌≤◌, All, List, vec_len, vec_capacity}
use Rattle.std.specs.List.{AllZip}
use Rattle.std.specs.Vec.Iter.{into_iter_items, into_iter_len}
use Rattle.run_crew.specs.Courses.{IsAnswered, IsOfShift}
use Rattle.run_crew.proofs.nights.joined.Given as goal

abbrev pub invariant-loop-handle : goal.invariant-loop-handle
invariant-loop-handle g l =
    (vec_len l.shifts + into_iter_len l.handle-iterator ≤ l.count)
    × (l.count ≤ vec_capacity l.shifts)
    × All (λ h. h.promise.gate.now ≡ l.gate) (into_iter_items l.handle-iterator)
    × (taken : List _) × (taken ++ into_iter_items l.handle-iterator ≡ l.fn.handles.items)
    × AllZip (λ h end. IsOfShift (IsAnswered g.T.CountedPlace.starts g.T.Place.holds
    g.T.Place.flushes g.T.Place.reports g.T.CountedPlace.finishes (g.G.Gate.lets l.gate)
    (g.G.Gate.reported l.gate)) g.J.Job.answers g.J.Job.turns h.promise.jobs.value.items end.notes
    end.own.starts) taken l.shifts.items
