use Rattle.std.proofs.Common.{refl, sym, ◌∙◌}
use Rattle.run_model.specs.declared.faults.Fault.TheVariants as fault
use Rattle.book_model.specs.declared.migrations.MigrateFault.TheVariants as why
use Rattle.book_model.proofs.MigrationLemmas.{migrates, migrates_not}
use Rattle.run_book.proofs.migrations.migrate.Goals as goal

pub returns-then-size-store_len : goal.returns-then-size-store_len
returns-then-size-store_len g c =
    let old = c.args.old.now in
    let new = c.args.new in
    record {
      migrates = migrates_not g.D.RunDisk.state g.E.RunDisk.state old old new
          (g.met.D.RunDisk.is_disk old) (why.Old fault.WrongSize) new
          (g.met.E.RunDisk.is_disk new) (
            λ small. c.if-size-store_len.true (c.size.ensures ∙ small ∙ sym c.store_len.ensures),
            (refl, refl),
          );
    }

pub returns-then-size-store_len-2 : goal.returns-then-size-store_len-2
returns-then-size-store_len-2 g c =
    let old = c.args.old.now in
    let new = c.args.new in
    record {
      migrates = migrates_not g.D.RunDisk.state g.E.RunDisk.state old old new
          (g.met.D.RunDisk.is_disk old) (why.New fault.WrongSize) new
          (g.met.E.RunDisk.is_disk new) (
            sym c.size.ensures ∙ c.if-size-store_len.false ∙ c.store_len.ensures,
            λ large. c.if-size-store_len-2.true
                (c.size-2.ensures ∙ large ∙ sym c.store_len-2.ensures),
            (refl, refl),
          );
    }

pub returns-in-Ok : goal.returns-in-Ok
returns-in-Ok g c =
    let old = c.args.old.now in
    record {
      migrates = migrates g.D.RunDisk.state g.E.RunDisk.state old c.migrate_sized.new.old c.args.new
          (g.met.D.RunDisk.is_disk old) c.migrate_sized.new.new c.in-Ok.ensures.migrated;
    }

pub returns-in-Err : goal.returns-in-Err
returns-in-Err g c =
    let old = c.args.old.now in
    record {
      migrates = migrates_not g.D.RunDisk.state g.E.RunDisk.state old c.migrate_sized.new.old
          c.args.new (g.met.D.RunDisk.is_disk old) c.in-Err.fault c.migrate_sized.new.new
          (g.met.E.RunDisk.is_disk c.args.new) c.in-Err.ensures.not;
    }
