use Rattle.std.proofs.Common.{inl, inr, refl}
use Rattle.store_words.proofs.words.look_file.Goals as goal

pub returns-in-Ok : goal.returns-in-Ok
returns-in-Ok g c =
    inr record {
      given = c.in-Ok.opened.disk;
      left = c.look-answer.result.1;
      held = record {
        opened = c.look.new.self;
        after = c.look.new.self;
        opens = c.in-Ok.ensures.shows;
        did = refl;
        closes = c.close.ensures;
      };
      looks = c.look-answer.ensures;
    }

pub returns-in-Err : goal.returns-in-Err
returns-in-Err g c =
    inl (
      (c.no_file.result, c.in-Err.error, c.in-Err.ensures.not.0, refl, c.no_file.ensures),
      c.in-Err.ensures.not.1,
      refl,
    )
