use Rattle.std.proofs.Common.{refl, sym, ◌∙◌, inl, inr}
use Rattle.run_model.specs.declared.faults.Fault.TheVariants.{WrongSize}
use Rattle.run_journal.proofs.LayoutLemmas.{len_found}
use Rattle.book_model.specs.declared.migrations.MigrateFault.TheVariants as why
use Rattle.run_book.proofs.Copying.{no_size}
use Rattle.book_renewal.proofs.Renewing.{renews, renews_not}
use Rattle.book_renewal.proofs.renewals.renew.Goals as goal

pub returns-in-Ok : goal.returns-in-Ok
returns-in-Ok g c =
    let old = c.args.old.now in
    record {
      renews = renews g.D.RunDisk.state g.E.RunDisk.state old c.renew_sized.new.old c.args.new
          (g.met.D.RunDisk.is_disk old) c.renew_sized.new.new c.in-Ok.ensures.renewed;
    }

pub returns-in-Err : goal.returns-in-Err
returns-in-Err g c =
    let old = c.args.old.now in
    record {
      renews = renews_not g.D.RunDisk.state g.E.RunDisk.state old c.renew_sized.new.old c.args.new
          (g.met.D.RunDisk.is_disk old) c.in-Err.fault c.renew_sized.new.new
          (g.met.E.RunDisk.is_disk c.args.new) c.in-Err.ensures.not;
    }

pub returns-in_default : goal.returns-in_default
returns-in_default g c =
    let old = c.args.old.now in
    let new = c.args.new in
    let none = no_size _ _ _ c.size.ensures c.of.ensures c.in_default.is in
    record {
      renews = renews_not g.D.RunDisk.state g.E.RunDisk.state old old new
          (g.met.D.RunDisk.is_disk old) (why.Old WrongSize) new (g.met.E.RunDisk.is_disk new)
          (inl (refl, none, (refl, refl)));
    }

pub returns-in_default-of : goal.returns-in_default-of
returns-in_default-of g c =
    let old = c.args.old.now in
    let new = c.args.new in
    let none = no_size _ _ _ c.size-2.ensures c.of-2.ensures c.in_default-of.is in
    let found = len_found c.size.result c.in-Some.from (sym c.in-Some.ensures) in
    record {
      renews = renews_not g.D.RunDisk.state g.E.RunDisk.state old old new
          (g.met.D.RunDisk.is_disk old) (why.New WrongSize) new (g.met.E.RunDisk.is_disk new)
          (inr (inl (refl, (c.in-Some.from, sym c.size.ensures ∙ found), none, (refl, refl))));
    }

pub renew_sized-requires : goal.renew_sized-requires
renew_sized-requires g c = record {
  from = sym c.size.ensures ∙ len_found c.size.result c.in-Some.from (sym c.in-Some.ensures);
  to = sym c.size-2.ensures ∙ len_found c.size-2.result c.in-Some-of.to (sym c.in-Some-of.ensures);
}
