use Rattle.std.proofs.Common.{ap, codes, inl, inr, refl}
use Rattle.std.specs.Prelude.{Err}
use Rattle.store_words.proofs.EndLemmas.{printed}
use Rattle.store_words.proofs.stores.format.Goals as goal

pub returns-in-Ok : goal.returns-in-Ok
returns-in-Ok g c =
    inl (
      c.in-Ok.ensures.formats,
      c.in-Ok.ensures.rest,
      printed c.write_whole.result (codes "formatted\n") _ _
          c.write_whole.ensures.whole c.write_whole.ensures.cut c.write_whole.ensures.fault,
    )

pub returns-in-Err : goal.returns-in-Err
returns-in-Err g c =
    inr (c.in-Err.fault, ap Err c.from.ensures, c.in-Err.ensures.formats, refl)
