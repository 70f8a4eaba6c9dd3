use Rattle.book_model.proofs.NightLemmas.{leaves_sized, opening_leaves}
use Rattle.book_model.proofs.books.an_opening_leaves_the_state_or_its_restart.Goals as goal

pub returns : goal.returns
returns g c layout old new p image fresh batches was means honest whole run =
    opening_leaves layout (g.D.RunDisk.state old) (g.D.RunDisk.state new) p image fresh batches was
    means
    (leaves_sized layout (g.D.RunDisk.state new) (g.met.D.RunDisk.is_disk new) honest whole) run
