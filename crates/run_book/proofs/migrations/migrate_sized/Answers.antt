use Rattle.run_model.proofs.Common.{sym, subst, IfOk-from_err, IfErr, HasLayout, State}
use Rattle.run_model.specs.declared.layouts.Layout.TheVariants.{Small}
use Rattle.book_model.specs.Migrations.{MigratesNot}
use Rattle.run_book.proofs.Exits.{passed_on}
use Rattle.run_book.proofs.Migrating.{unread_not, written_done, written_not}
use Rattle.run_book.proofs.Copying.{new_size, new_state, no_memory}
use Rattle.run_book.proofs.migrations.migrate_sized.Goals as goal

pub read_stored-requires-clause-new : goal.read_stored-requires-clause-new
read_stored-requires-clause-new g c =
    new_state Small _ c.in_ok-state.ensures.state

pub read_stored-requires-clause-size : goal.read_stored-requires-clause-size
read_stored-requires-clause-size g c =
    new_size Small _ _ c.in_ok-state.ensures.state c.requires.sized.small

pub write_large-written-requires-clause-size : goal.write_large-written-requires-clause-size
write_large-written-requires-clause-size g c = c.requires.sized.large

pub write_large-written-requires-clause-layout : goal.write_large-written-requires-clause-layout
write_large-written-requires-clause-layout g c =
    subst (λ (q : State). HasLayout c.in_ok-stored.stored q.tree.layout)
    c.in_ok-state.ensures.state c.in_ok-stored.ensures.layout

pub write_large-written-requires-clause-few : goal.write_large-written-requires-clause-few
write_large-written-requires-clause-few g c = c.in_ok-stored.ensures.found.few

pub returns-clause-migrated : goal.returns-clause-migrated
returns-clause-migrated g c =
    written_done (g.D.RunDisk.state c.args.old.now) (g.D.RunDisk.state c.read_stored.new.old)
    (g.E.RunDisk.state c.args.new.now) (g.E.RunDisk.state c.write_large-written.new.new)
    c.write_large-written.result c.in_ok-stored.stored c.requires.sized c.in_ok-stored.ensures.found
    c.write_large-written.ensures.writes

pub returns-clause-not : goal.returns-clause-not
returns-clause-not g c =
    written_not g.D.RunDisk.state g.E.RunDisk.state c.args.old.now c.read_stored.new.old
    c.args.new.now c.write_large-written.new.new c.write_large-written.result c.in_ok-stored.stored
    c.requires.sized c.in_ok-stored.ensures.found c.write_large-written.ensures.fault
    c.write_large-written.ensures.writes

pub returns-in_err-state-clause-migrated : goal.returns-in_err-state-clause-migrated
returns-in_err-state-clause-migrated g c =
    IfOk-from_err c.from_residual.result _ c.from_residual.ensures.0

pub returns-in_err-state-clause-not : goal.returns-in_err-state-clause-not
returns-in_err-state-clause-not g c =
    let from = g.D.RunDisk.state in
    let to = g.E.RunDisk.state in
    let old = c.args.old.now in
    let given = c.args.new.now in
    subst (λ r. IfErr r (λ w. MigratesNot from to old given w old given))
    (sym (passed_on c.from_residual.result _ c.from_residual.ensures.1))
    (unread_not from to old old given _ c.requires.sized
    (no_memory from old _ c.in_err-state.ensures.fault))

pub returns-in_err-stored-clause-migrated : goal.returns-in_err-stored-clause-migrated
returns-in_err-stored-clause-migrated g c =
    IfOk-from_err c.from_residual-in_err-stored.result _ c.from_residual-in_err-stored.ensures.0

pub returns-in_err-stored-clause-not : goal.returns-in_err-stored-clause-not
returns-in_err-stored-clause-not g c =
    let from = g.D.RunDisk.state in
    let to = g.E.RunDisk.state in
    let old = c.args.old.now in
    let read = c.read_stored.new.old in
    let given = c.args.new.now in
    let r = c.from_residual-in_err-stored in
    subst (λ r. IfErr r (λ w. MigratesNot from to old given w read given))
    (sym (passed_on r.result _ r.ensures.1))
    (unread_not from to old read given _ c.requires.sized c.in_err-stored.ensures.none)
