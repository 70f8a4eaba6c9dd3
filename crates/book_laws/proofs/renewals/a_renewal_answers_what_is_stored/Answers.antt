use Rattle.book_laws.proofs.RenewalLemmas.{renews_full, renews_none, renews_state}
use Rattle.book_laws.proofs.renewals.a_renewal_answers_what_is_stored.Goals as goal

pub returns-clause-state : goal.returns-clause-state
returns-clause-state g c old read given result p honest sized is stores few fits =
    renews_state g.D.RunDisk.state g.E.RunDisk.state old read given
    (g.met.D.RunDisk.is_disk old) result p honest sized is stores few fits

pub returns-clause-full : goal.returns-clause-full
returns-clause-full g c old read given result p honest sized is stores few full =
    renews_full g.D.RunDisk.state g.E.RunDisk.state old read given
    (g.met.D.RunDisk.is_disk old) result p (λ new. g.met.E.RunDisk.is_disk new) honest sized is
    stores few full

pub returns-clause-none : goal.returns-clause-none
returns-clause-none g c old read given result other honest sized is none =
    renews_none g.D.RunDisk.state g.E.RunDisk.state old read given
    (g.met.D.RunDisk.is_disk old) result other honest sized is none
