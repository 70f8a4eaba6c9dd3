use Rattle.std.proofs.Common.{refl, sym, subst, ◌≡◌, ◌∙◌, IfErr}
use Rattle.run_model.specs.declared.faults.Fault.TheVariants.{DiskFailed}
use Rattle.book_model.specs.declared.migrations.MigrateFault.TheVariants as why
use Rattle.state_renewal.specs.Renewed.{renewed_in}
use Rattle.book_model.specs.Migrations.{Writes}
use Rattle.book_renewal.specs.Renewals.{WritesNot}
use Rattle.book_renewal.proofs.renewals.write_left.Goals as goal

pub returns-in_default-clause-written : goal.returns-in_default-clause-written
returns-in_default-clause-written g c = tt

pub returns-in_default-clause-not : goal.returns-in_default-clause-not
returns-in_default-clause-not g c = refl

pub fits-requires : goal.fits-requires
fits-requires g c = record { marks = c.in-Ok.ensures.marks }

pub returns-then-not-fits-clause-written : goal.returns-then-not-fits-clause-written
returns-then-not-fits-clause-written g c = tt

pub returns-then-not-fits-clause-not : goal.returns-then-not-fits-clause-not
returns-then-not-fits-clause-not g c = (
  record {
    layout = c.args.to;
    size = c.requires.size;
    full = sym c.fits.ensures ∙ c.if-not-fits.true;
  },
  refl,
)

pub write_fitting-written-requires-clause-size : goal.write_fitting-written-requires-clause-size
write_fitting-written-requires-clause-size g c = c.requires.size

pub write_fitting-written-requires-clause-marks : goal.write_fitting-written-requires-clause-marks
write_fitting-written-requires-clause-marks g c = c.in-Ok.ensures.marks

pub write_fitting-written-requires-clause-few : goal.write_fitting-written-requires-clause-few
write_fitting-written-requires-clause-few g c = c.requires.few

pub write_fitting-written-requires-clause-fits : goal.write_fitting-written-requires-clause-fits
write_fitting-written-requires-clause-fits g c = sym c.fits.ensures ∙ c.if-not-fits.false

pub write_fitting-written-requires-clause-room : goal.write_fitting-written-requires-clause-room
write_fitting-written-requires-clause-room g c = c.requires.room

pub returns-in-Ok-written-clause-written : goal.returns-in-Ok-written-clause-written
returns-in-Ok-written-clause-written g c =
    let state = g.E.RunDisk.state in
    subst (λ r. Writes c.args.to (renewed_in c.args.to c.args.state.now) (state c.args.new.now) r
    (state c.write_fitting-written.new.new)) c.in-Ok-written.is
    c.write_fitting-written.ensures.writes

pub returns-in-Ok-written-clause-not : goal.returns-in-Ok-written-clause-not
returns-in-Ok-written-clause-not g c = tt

pub returns-in-Err-clause-written : goal.returns-in-Err-clause-written
returns-in-Err-clause-written g c = tt

pub returns-in-Err-clause-not : goal.returns-in-Err-clause-not
returns-in-Err-clause-not g c =
    let to = g.E.RunDisk.state in
    let p = c.args.state.now in
    let given = c.args.new.now in
    let new = c.write_fitting-written.new.new in
    let reported : c.in-Err.fault ≡ DiskFailed =
    subst (λ r. IfErr r (λ f. f ≡ DiskFailed)) c.in-Err.is c.write_fitting-written.ensures.fault in
    subst (λ f. WritesNot to p given (why.New f) new) (sym reported) (record {
      layout = c.args.to;
      size = c.requires.size;
      failed = subst (λ r. Writes c.args.to (renewed_in c.args.to p) (to given) r (to new))
          c.in-Err.is c.write_fitting-written.ensures.writes;
    })
