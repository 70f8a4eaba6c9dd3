use Rattle.std.proofs.Common.{◌∙◌, inl, inr, refl, rules}
use Rattle.store_words.proofs.NotedLemmas.{named}
use Rattle.store_words.proofs.replacements.renew_in_place.Goals as goal

pub returns-in_default : goal.returns-in_default
returns-in_default g c =
    inr (inl (
      inl record {
        source = c.in-Ok.opened.disk;
        held = record {
          opened = c.open.new.self;
          after = c.open.new.self;
          opens = c.in-Ok.ensures.opens;
          did = refl;
          closes = c.close.ensures;
        };
        none = search rules;
        answers = (
          c.failed_over.result,
          refl,
          c.failed_over.ensures.fault ∙ c.from.ensures,
          named c.args.store.now c.in-Ok.ensures.noted c.failed_over.result
              c.failed_over.ensures.file,
        );
      },
      refl,
    ))

pub returns-in_default-name_beside : goal.returns-in_default-name_beside
returns-in_default-name_beside g c =
    inr (inl (
      inr (inl (
        c.done_alone.ensures,
        c.in-Ok.opened.disk,
        record {
          opened = c.open.new.self;
          after = c.open.new.self;
          opens = c.in-Ok.ensures.opens;
          did = refl;
          closes = c.close-in_default-name_beside.ensures;
        },
      )),
      refl,
    ))

pub returns-in-Ok-make_beside : goal.returns-in-Ok-make_beside
returns-in-Ok-make_beside g c =
    inr (inr record {
      source = c.in-Ok.opened.disk;
      layout = c.in-Some.layout;
      given = c.in-Ok-make_beside.made.disk;
      opened = c.open.new.self;
      made = c.make_beside.new.files;
      opens = c.in-Ok.ensures.opens;
      settled = c.in-Ok.ensures.settled;
      fits = cc;
      makes = rw (c.as_str.ensures.value ∙ c.in-Ok-name_beside.ensures)
          at c.in-Ok-make_beside.ensures.made;
      ends = c.put_renewed.ensures;
    })

pub returns : goal.returns
returns g c =
    inr (inl (
      inr (inr (
        c.in-Ok.opened.disk,
        record {
          opened = c.open.new.self;
          after = c.make_beside.new.files;
          opens = c.in-Ok.ensures.opens;
          did = (
            c.unopened.result,
            c.in-Err-make_beside.error,
            rw (c.as_str.ensures.value ∙ c.in-Ok-name_beside.ensures)
                at c.in-Err-make_beside.ensures.not,
            refl,
            c.unopened.ensures,
          );
          closes = c.close-in-Err-make_beside.ensures;
        },
      )),
      refl,
    ))

pub returns-in-Err : goal.returns-in-Err
returns-in-Err g c =
    inl (
      (c.no_file.result, c.in-Err.error, c.in-Err.ensures.not.0, refl, c.no_file.ensures),
      c.in-Err.ensures.not.1,
      refl,
    )
