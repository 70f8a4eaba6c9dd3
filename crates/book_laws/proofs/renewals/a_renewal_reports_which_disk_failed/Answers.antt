use Rattle.book_laws.proofs.RenewalLemmas.{renews_new_cause, renews_old_cause}
use Rattle.book_laws.proofs.renewals.a_renewal_reports_which_disk_failed.Goals as goal

pub returns-clause-old : goal.returns-clause-old
returns-clause-old g c old read given result is =
    renews_old_cause g.D.RunDisk.state g.E.RunDisk.state old read given
    (g.met.D.RunDisk.is_disk old) result is

pub returns-clause-new : goal.returns-clause-new
returns-clause-new g c old read given result is =
    renews_new_cause g.D.RunDisk.state g.E.RunDisk.state old read given
    (g.met.D.RunDisk.is_disk old) result is
