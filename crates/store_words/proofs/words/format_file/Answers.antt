use Rattle.std.proofs.Common.{inl, inr, refl}
use Rattle.store_words.proofs.NotedLemmas.{answers_over, named}
use Rattle.store_words.proofs.words.format_file.Goals as goal

pub returns-in-Ok : goal.returns-in-Ok
returns-in-Ok g c =
    inr record {
      made = c.make.new.files;
      is_new = c.in-Ok.field-0.is_new;
      given = c.in-Ok.field-0.disk;
      left = c.format-done.result.1;
      done = c.format-done.result.0;
      makes = c.in-Ok.ensures.made;
      formats = c.format-done.ensures;
      answers = answers_over _ _ (named c.args.store.now c.in-Ok.ensures.noted)
          c.done_over-answer.ensures;
      files = c.leave.ensures;
    }

pub returns-in-Err : goal.returns-in-Err
returns-in-Err g c =
    inl (
      (
        c.no_file.result,
        c.in-Err.error,
        c.in-Err.ensures.not.0,
        refl,
        c.no_file.ensures,
      ),
      c.in-Err.ensures.not.1,
      refl,
    )
