use Rattle.book_model.proofs.MigrationLemmas.{migrates_none, migrates_state}
use Rattle.book_model.proofs.migrations.a_migration_answers_what_is_stored.Goals as goal

pub returns-clause-state : goal.returns-clause-state
returns-clause-state g c old read given result p honest sized is stores few =
    migrates_state g.D.RunDisk.state g.E.RunDisk.state old read given
    (g.met.D.RunDisk.is_disk old) result p honest sized is stores few

pub returns-clause-none : goal.returns-clause-none
returns-clause-none g c old read given result other honest sized is none =
    migrates_none g.D.RunDisk.state g.E.RunDisk.state old read given
    (g.met.D.RunDisk.is_disk old) result other honest sized is none
