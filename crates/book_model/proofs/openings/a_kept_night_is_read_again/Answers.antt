use Rattle.book_model.proofs.OpeningLemmas.{opens_again, recovers_state}
use Rattle.book_model.proofs.openings.a_kept_night_is_read_again.Goals as goal

pub returns-clause-recovered : goal.returns-clause-recovered
returns-clause-recovered g c start events acks old new result kept honest is =
    recovers_state g.D.RunDisk.state old new result kept.state (g.met.D.RunDisk.is_disk old)
    honest is kept.stores

pub returns-clause-reopened : goal.returns-clause-reopened
returns-clause-reopened g c start events acks given result kept honest is =
    opens_again g.D.RunDisk.state given result kept.state (g.met.D.RunDisk.is_disk given) honest
    is kept.stores
