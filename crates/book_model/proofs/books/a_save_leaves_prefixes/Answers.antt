use Rattle.std.proofs.Common.{[], ◌∷◌, ◌++◌}
use Rattle.book_model.specs.Books.{acked}
use Rattle.book_model.proofs.NightLemmas.{flush_means, leaves_sized, saves_leave}
use Rattle.book_model.proofs.books.a_save_leaves_prefixes.Goals as goal

pub returns-clause-flush : goal.returns-clause-flush
returns-clause-flush g c h new p pending settled le all are honest whole run =
    saves_leave h.journal.layout h.session.start settled.at p h.session.history (acked h)
    settled.image settled.image settled.batches (settled.batches ++ pending ∷ [])
    (g.D.RunDisk.state h.journal.disk) (g.D.RunDisk.state new) le settled.reached all settled.means
    (flush_means h.journal.layout h.session.start settled.at p h.session.history (acked h)
    settled.image pending settled.batches settled.reached all settled.means are)
    (leaves_sized h.journal.layout (g.D.RunDisk.state new) (g.met.D.RunDisk.is_disk new) honest
    whole) run

pub returns-clause-checkpoint : goal.returns-clause-checkpoint
returns-clause-checkpoint g c h new p fresh settled le all means honest whole run =
    saves_leave h.journal.layout h.session.start settled.at p h.session.history (acked h)
    settled.image fresh settled.batches [] (g.D.RunDisk.state h.journal.disk)
    (g.D.RunDisk.state new) le settled.reached all settled.means means
    (leaves_sized h.journal.layout (g.D.RunDisk.state new) (g.met.D.RunDisk.is_disk new) honest
    whole) run
