use Rattle.std.proofs.Common.{Global, List, Vec, arith}
use Rattle.run_crew.specs.Courses.{Call, IsAnswered}
use Rattle.run_crew.proofs.Summing.{shifts_of_maps}
use Rattle.run_crew.proofs.nights.run_shifts.Goals as goal

pub returns-clause-own : goal.returns-clause-own
returns-clause-own g c =
    let workers = c.in-Ok-workers_of.ensures in
    let shifts = c.in-Ok-shifts_of.ensures in
    record {
      start_parts = omega (arith, workers.len, workers.parts.0, shifts);
      finish_parts = omega (arith, workers.len, workers.parts.1, shifts);
      finishes = omega arith;
      starts = omega arith;
      one_more = omega (arith, workers.len, shifts);
    }

pub returns-clause-shifts : goal.returns-clause-shifts
returns-clause-shifts g c =
    let T = g.T in
    let Answered : Call → Type 0 = IsAnswered T.CountedPlace.starts T.Place.holds T.Place.flushes
    T.Place.reports T.CountedPlace.finishes (g.G.Gate.lets c.args.gate.now)
    (g.G.Gate.reported c.args.gate.now) in
    let items : Vec g.row.J.Denot Global → List g.row.J.Denot = λ list. list.items in
    shifts_of_maps Answered g.J.Job.answers g.J.Job.turns items (λ worker. worker.jobs)
    (λ s. s.notes) (λ s. s.own.starts) _ _ _ _ _ _ _ c.in-Ok-shifts_of.ensures.shifts
    c.in-Ok-workers_of.ensures.jobs c.gather.ensures.notes c.gather.ensures.starts
    c.in-Ok-workers_of.ensures.counts.0
