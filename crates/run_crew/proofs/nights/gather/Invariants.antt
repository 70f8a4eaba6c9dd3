use Rattle.std.proofs.Common.{◌≡◌, ◌+◌, ◌++◌, ◌≤◌, map, vec_len, vec_capacity}
use Rattle.std.specs.Prelude.{sum_by}
use Rattle.std.specs.Vec.Iter.{into_iter_items, into_iter_len}
use Rattle.run_crew.specs.Notes.{noted}
use Rattle.run_crew.specs.OwnCounts.{JoinsShifts}
use Rattle.run_crew.proofs.nights.gather.Given as goal

abbrev pub invariant-loop-shift : goal.invariant-loop-shift
invariant-loop-shift g l =
    (vec_len l.notes + into_iter_len l.shift-iterator ≡ vec_len l.fn.shifts)
    × (vec_len l.fn.shifts ≤ vec_capacity l.notes)
    × JoinsShifts (vec_len l.notes) (noted l.notes.items) l.fn.own l.own
    × (l.own.starts + sum_by (λ s. s.own.starts) (into_iter_items l.shift-iterator)
    ≡ l.fn.own.starts + sum_by (λ s. s.own.starts) l.fn.shifts.items)
    × (l.notes.items ++ map (λ s. s.notes) (into_iter_items l.shift-iterator)
    ≡ map (λ s. s.notes) l.fn.shifts.items)
