use Rattle.run_model.proofs.Common.{◌<◌, ◌≤◌, ◌^◌, sym, subst, HasLayout}
use Rattle.book_model.specs.Migrations.{ReadsNot}
use Rattle.book_model.proofs.Meaning.{means_layout}
use Rattle.run_book.proofs.Copying.{reported_unread}
use Rattle.run_book.proofs.copies.read_stored.Goals as goal

pub returns-in-Err-clause-none : goal.returns-in-Err-clause-none
returns-in-Err-clause-none g c =
    let state = g.D.RunDisk.state in
    subst (λ w. ReadsNot state c.args.old.now w c.read_state.new.disk) (sym c.of_old.ensures)
    (reported_unread state c.args.old.now c.read_state.new.disk c.in-Err.fault
    c.args.state.tree.layout c.requires.size c.in-Err.ensures.none)

pub returns-then-count-clause-none : goal.returns-then-count-clause-none
returns-then-count-clause-none g c =
    record {
      state = c.in-Ok.read.1;
      recovered = c.in-Ok.ensures.recovered;
      many = subst (λ n. 2 ^ 62 ≤ n) c.count.ensures.count c.if-count.true;
    }

pub returns-clause-found : goal.returns-clause-found
returns-clause-found g c =
    record {
      recovered = c.in-Ok.ensures.recovered;
      few = subst (λ n. n < 2 ^ 62) c.count.ensures.count c.if-count.false;
    }

pub returns-clause-layout : goal.returns-clause-layout
returns-clause-layout g c =
    let stored = c.in-Ok.read.0 in
    let p = c.in-Ok.read.1 in
    let e = c.in-Ok.ensures in
    subst (λ l. HasLayout p l) e.layout
    (means_layout stored.layout stored.image stored.batches p e.means)
