use Rattle.std.proofs.Common.{ap, inl, inr, refl}
use Rattle.store_words.proofs.migrations.migrate.Goals as goal

pub returns-in-Err : goal.returns-in-Err
returns-in-Err g c = inl c.in-Err.ensures.migrates

pub returns-in-Ok-sizes_on : goal.returns-in-Ok-sizes_on
returns-in-Ok-sizes_on g c =
    let found = c.in-Ok-sizes_on.ensures.found in
    (c.in-Ok.made, found.0, c.in-Ok.ensures.migrates, found.1, ap (λ s. s.events) found.2)

pub returns-in-Err-sizes_on : goal.returns-in-Err-sizes_on
returns-in-Err-sizes_on g c =
    inr (
      c.in-Ok.made,
      c.in-Err-sizes_on.fault,
      refl,
      c.in-Ok.ensures.migrates,
      c.in-Err-sizes_on.ensures.none,
    )
