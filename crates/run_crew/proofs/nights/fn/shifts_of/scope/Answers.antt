use Rattle.std.proofs.Common.{Global, Vec, sym, vec_len, ◌∙◌}
use Rattle.run_crew.specs.declared.workers.WorkerEnd.{WorkerEnd}
use Rattle.run_crew.specs.Courses.{IsAnswered, IsOfShift}
use Rattle.run_crew.proofs.Zipping.{ok_then, zip_taken}
use Rattle.run_crew.proofs.nights.fn.shifts_of.scope.Goals as goal

pub returns : goal.returns
returns g c =
    let K : Vec g.row.J.Denot Global → WorkerEnd g.row.S.Denot g.row.F.Denot → Type 0 =
    λ list end. IsOfShift (IsAnswered g.T.CountedPlace.starts g.T.Place.holds g.T.Place.flushes
    g.T.Place.reports g.T.CountedPlace.finishes (g.G.Gate.lets c.captures.gate.now)
    (g.G.Gate.reported c.captures.gate.now)) g.J.Job.answers g.J.Job.turns list.items end.notes
    end.own.starts in
    record {
      len = c.joined-left.ensures.len;
      shifts = ok_then _ _ _ (λ v len zip. zip_taken K (λ h. h.promise.jobs.value)
          (λ worker. worker.jobs) (vec_len c.start_each.new.handles)
          (vec_len c.captures.workers) (vec_len v) c.start_each.new.handles.items
          c.captures.workers.items v.items c.start_each.ensures.jobs
          c.start_each.new.handles.ok.0 v.ok.0 (len ∙ sym c.requires.workers) zip)
          c.joined-left.result c.joined-left.ensures.len c.joined-left.ensures.shifts;
    }
