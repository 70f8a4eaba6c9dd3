use Rattle.std.proofs.Common.{inl, inr, refl}
use Rattle.store_words.proofs.renewals.renew.Goals as goal

pub returns-in-Err-renew : goal.returns-in-Err-renew
returns-in-Err-renew g c =
    let found = c.in-Ok.ensures.found in
    inr (found.0, c.sizes_on.new.disk, found.1, inl c.in-Err-renew.ensures.renews)

pub returns-in-Err-sizes_on : goal.returns-in-Err-sizes_on
returns-in-Err-sizes_on g c =
    let found = c.in-Ok.ensures.found in
    inr (
      found.0,
      c.sizes_on.new.disk,
      found.1,
      inr (
        c.in-Ok-renew.made,
        c.in-Err-sizes_on.fault,
        refl,
        c.in-Ok-renew.ensures.renews,
        c.in-Err-sizes_on.ensures.none,
      ),
    )

pub returns-in-Ok-sizes_on : goal.returns-in-Ok-sizes_on
returns-in-Ok-sizes_on g c =
    record {
      seen = c.sizes_on.new.disk;
      made = c.in-Ok-renew.made;
      before = c.in-Ok.ensures.found;
      renewed = c.in-Ok-renew.ensures.renews;
      behind = c.in-Ok-sizes_on.ensures.found;
    }
