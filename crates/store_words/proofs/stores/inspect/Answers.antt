use Rattle.std.proofs.Common.{ap, inl, inr, refl}
use Rattle.std.specs.Prelude.{Err}
use Rattle.store_words.proofs.EndLemmas.{printed}
use Rattle.store_words.specs.Stores.{view_text}
use Rattle.store_words.proofs.stores.inspect.Goals as goal

pub returns-in-Ok : goal.returns-in-Ok
returns-in-Ok g c =
    inl (
      c.in-Ok.state,
      c.in-Ok.ensures,
      printed c.show.result (view_text c.args.view c.in-Ok.state) _ _
          c.show.ensures.whole c.show.ensures.cut c.show.ensures.fault,
    )

pub returns-in-Err : goal.returns-in-Err
returns-in-Err g c = inr (c.in-Err.fault, ap Err c.from.ensures, c.in-Err.ensures, refl)
