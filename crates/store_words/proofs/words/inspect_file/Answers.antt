use Rattle.std.proofs.Common.{inl, inr, refl}
use Rattle.store_words.proofs.NotedLemmas.{answers_over, named}
use Rattle.store_words.proofs.words.inspect_file.Goals as goal

pub returns-in-Ok : goal.returns-in-Ok
returns-in-Ok g c =
    inr (inl record {
      given = c.in-Ok.field-0.disk;
      left = c.inspect-done.new.disk;
      done = c.inspect-done.result;
      held = record {
        opened = c.open_to_read.new.self;
        after = c.open_to_read.new.self;
        opens = c.in-Ok.ensures.shows;
        did = refl;
        closes = c.close.ensures;
      };
      settled = c.in-Ok.ensures.settled;
      inspects = c.inspect-done.ensures;
      answers = answers_over _ _ (named c.args.store.now c.in-Ok.ensures.noted)
          c.done_over.ensures;
    })
