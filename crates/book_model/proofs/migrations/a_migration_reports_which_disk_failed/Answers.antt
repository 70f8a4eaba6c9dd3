use Rattle.book_model.proofs.MigrationLemmas.{migrates_new_cause, migrates_old_cause}
use Rattle.book_model.proofs.migrations.a_migration_reports_which_disk_failed.Goals as goal

pub returns-clause-old : goal.returns-clause-old
returns-clause-old g c old read given result is =
    migrates_old_cause g.D.RunDisk.state g.E.RunDisk.state old read given
    (g.met.D.RunDisk.is_disk old) result is

pub returns-clause-new : goal.returns-clause-new
returns-clause-new g c old read given result is =
    migrates_new_cause g.D.RunDisk.state g.E.RunDisk.state old read given
    (g.met.D.RunDisk.is_disk old) result is
