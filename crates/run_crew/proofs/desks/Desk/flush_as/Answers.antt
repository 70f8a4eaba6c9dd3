use Rattle.std.proofs.Common.{arith, subst, ◌≤◌}
use Rattle.run_crew.specs.Desks.{finishes_of, starts_of}
use Rattle.run_crew.specs.OwnCounts.{OwnCountsView}
use Rattle.run_crew.proofs.desks.Desk.flush_as.Goals as goal

pub returns-clause-flushes : goal.returns-clause-flushes
returns-clause-flushes g c =
    let b = c.self.inside.book in
    let Started : OwnCountsView → Type 0 = λ s. s.starts ≤ starts_of b.session.history in
    let Finished : OwnCountsView → Type 0 = λ s. s.finishes ≤ finishes_of b.session.history in
    record {
      old = b;
      new = c.flush.new.self.book;
      carries = c.self.invariant.2;
      starts = subst Started c.own.view_is
          (omega (arith, c.audit.ensures.bound, c.self.invariant.0));
      finishes = subst Finished c.own.view_is
          (omega (arith, c.audit-2.ensures.bound, c.self.invariant.1));
      flushes = c.flush.ensures.flushes;
    }
