use Rattle.std.proofs.Common.{◌≡◌, ◌∙◌, ap, length, refl, subst, sym}
use Rattle.std.specs.List.Sorted.{IsPermutation}
use Rattle.std.specs.Prelude.{MatchResult, OnOk}
use Rattle.book_model.specs.Books.{BookView}
use Rattle.run_crew.specs.Audits.{HasStrayed, IsComplete, made_at}
use Rattle.run_crew.specs.Desks.{DeskView}
use Rattle.run_crew.specs.Nights.{OfDesk}
use Rattle.run_crew.specs.Notes.{all_notes}
use Rattle.run_crew.specs.OwnCounts.{OwnCountsView}
use Rattle.run_crew.proofs.Summing.{counted_all, shifts_for}
use Rattle.run_crew.proofs.Working.{acknowledged, no_finishes, no_starts, shares_count}
use Rattle.run_crew.proofs.crews.work.Goals as goal

pub new-desk-requires-clause-carries : goal.new-desk-requires-clause-carries
new-desk-requires-clause-carries g c = c.requires.carries

pub returns-clause-worked : goal.returns-clause-worked
returns-clause-worked g c =
    let begun = c.requires.begun in
    let counts = shares_count _ _ _ _ _ _ _ _ _
    (ap (λ (s : OwnCountsView). s.starts) c.new-desk.ensures.own ∙ no_starts c.args.book begun)
    (ap (λ (s : OwnCountsView). s.finishes) c.new-desk.ensures.own ∙ no_finishes c.args.book begun)
    c.in-Ok.ensures.own.finishes c.in-Ok.ensures.own.starts c.in-Ok.ensures.own.one_more
    c.settle-starts.ensures.counted.0 c.settle-starts.ensures.counted.1
    refl in
    let none = ap (λ (s : OwnCountsView). s.starts) c.new-desk.ensures.own
    ∙ no_starts c.args.book begun in
    let settled = c.settle-starts.ensures.counted.0 in
    let is = c.as_slice.ensures.value in
    let desk = c.flush-flushed.new.self in
    record {
      book = c.into_inner-desk.result.book;
      desk = desk;
      lists = c.in-Ok.lists.items;
      flushes = c.flush-flushed.ensures.flushes;
      session = c.flush-flushed.ensures.flushes.saves.session;
      carries = c.book-book.ensures.carries;
      disk = sym (c.into_disk-disk.ensures
          ∙ ap (λ (b : BookView _). b.journal.disk) c.into_book-2.ensures.book
          ∙ ap (λ (d : DeskView _). d.book.journal.disk) c.settle-starts.ensures.same.0);
      acked = acknowledged g.D.RunDisk.state c.into_inner-desk.result.book
          c.flush-flushed.new.self.book c.flush-flushed.result
          c.flush-flushed.ensures.flushes.saves;
      replays = c.book-book.ensures.replays;
      durable = c.book-book.ensures.images;
      audit = subst (λ l. MatchResult c.audit-audited.result (λ _. IsComplete desk l)
          (λ strayed. HasStrayed desk l strayed)) is c.audit-audited.ensures.answer;
      exactly = subst (λ l. OnOk c.audit-audited.result
          (IsPermutation (made_at desk) (all_notes l))) is c.audit-audited.ensures.exactly;
      started = c.settle-starts.ensures.history.0;
      finished = c.settle-starts.ensures.history.1;
      shifts = shifts_for
          (OfDesk g.D.RunDisk.state g.O.Opening.opening (g.G.Gate.lets c.args.gate.now)
          (g.G.Gate.reported c.args.gate.now))
          (λ b name answer. (g.dyn-1.0.entry b.vtable).1.answers b.value name answer)
          (λ b info turn done answer left.
          (job : _) × (g.dyn-1.0.entry b.vtable).1.turns b.value info turn done answer job
          × (left ≡ record b { value = job })) (λ list. list.items) c.args.jobs.items
          c.in-Ok.lists.items _ _ (counted_all _ _ _ none settled) c.in-Ok.ensures.shifts;
      each_has_a_list = ap (λ l. length l) (sym is)
          ∙ (c.as_slice.ensures.len ∙ c.in-Ok.ensures.workers);
      each_is_noted = counts.0;
      each_was_started = counts.1;
      one_more_at_most = counts.2;
    }

pub returns-in-Err-clause-left : goal.returns-in-Err-clause-left
returns-in-Err-clause-left g c = record {
  book = c.flush-flushed.new.self.book;
  carries = c.into_book.ensures.carries;
  disk = sym (c.into_disk.ensures
      ∙ ap (λ (b : BookView _). b.journal.disk) c.into_book.ensures.book);
}

pub returns-clause-left : goal.returns-clause-left
returns-clause-left g c = record {
  book = c.settle-starts.new.self.book;
  carries = c.into_book-2.ensures.carries;
  disk = sym (c.into_disk-disk.ensures
      ∙ ap (λ (b : BookView _). b.journal.disk) c.into_book-2.ensures.book);
}
