use Rattle.std.proofs.Common.{◌≡◌, ◌∙◌, Option, ap, inl, inr, refl, subst, sym}
use Rattle.run_model.specs.declared.layouts.Layout.{Layout}
use Rattle.run_model.specs.Layouts.{layout_of}
use Rattle.store_words.specs.Failures.{NamesSource}
use Rattle.store_words.specs.Sources.{ServesNot}
use Rattle.store_words.proofs.NotedLemmas.{answers_made, named, named_source}
use Rattle.store_words.proofs.words.make_from.Goals as goal

-- No store is made of the old one, and the new file wasn't touched.
pub returns-in-Err-read_source : goal.returns-in-Err-read_source
returns-in-Err-read_source g c =
    let state = g.F.Disk.RunDisk.state in
    let source = c.in-Ok.opened.disk in
    let to : c.layout_for-to.result ≡ g.M.Making.layout (state source).size =
    c.layout_for-to.ensures ∙ ap g.M.Making.layout c.size-2.ensures in
    let from : c.of-from.result ≡ layout_of (state source).size =
    c.of-from.ensures ∙ ap layout_of c.size.ensures in
    let names : NamesSource (g.F.Files.seen.notes source) (layout_of (state source).size)
    (g.M.Making.layout (state source).size) c.args.old.now c.failed_source.result =
    named_source _ _ c.args.old.now c.failed_source.result c.in-Ok.ensures.noted
    (rw from at (rw to at c.failed_source.ensures.file)) in
    let None : Option Layout → Type 0 = λ to.
    ServesNot state to source c.in-Err-read_source.fault c.read_source.new.disk in
    inr (inl (
      record {
        source = source;
        read = c.read_source.new.disk;
        why = c.in-Err-read_source.fault;
        held = record {
          opened = c.open_to_read.new.self;
          after = c.open_to_read.new.self;
          opens = c.in-Ok.ensures.shows;
          did = refl;
          closes = c.close.ensures;
        };
        settled = c.in-Ok.ensures.settled;
        none = subst None to c.in-Err-read_source.ensures.not;
        answers = (
          c.failed_source.result,
          refl,
          c.failed_source.ensures.fault ∙ c.from.ensures,
          names,
        );
      },
      refl,
    ))

pub returns-in-Ok-make : goal.returns-in-Ok-make
returns-in-Ok-make g c =
    inr (inr (inr record {
      source = c.in-Ok.opened.disk;
      layout = c.in-Ok-read_source.layout;
      looked = c.read_source.new.disk;
      is_new = c.in-Ok-make.field-0.is_new;
      given = c.in-Ok-make.field-0.disk;
      read = c.make-done.new.old;
      left = c.make-done.result.1;
      done = c.make-done.result.0;
      settled = c.in-Ok.ensures.settled;
      fits = sym (c.layout_for-to.ensures ∙ ap g.M.Making.layout c.size-2.ensures)
          ∙ c.in-Ok-read_source.ensures.layout;
      serves = c.in-Ok-read_source.ensures.serves;
      ends = c.make-done.ensures;
      answers = answers_made _ _ _ _ _ (named c.args.old.now c.in-Ok.ensures.noted)
          (named c.args.new.now c.in-Ok-make.ensures.noted) c.made_of-answer.ensures;
      held = record {
        opened = c.open_to_read.new.self;
        after = c.leave.new.files;
        opens = c.in-Ok.ensures.shows;
        did = (c.make.new.files, c.in-Ok-make.ensures.made, c.leave.ensures);
        closes = c.close-in-Ok-make.ensures;
      };
    }))

pub returns : goal.returns
returns g c =
    inr (inr (inl (
      record {
        source = c.in-Ok.opened.disk;
        layout = c.in-Ok-read_source.layout;
        read = c.read_source.new.disk;
        settled = c.in-Ok.ensures.settled;
        fits = sym (c.layout_for-to.ensures ∙ ap g.M.Making.layout c.size-2.ensures)
            ∙ c.in-Ok-read_source.ensures.layout;
        serves = c.in-Ok-read_source.ensures.serves;
        held = record {
          opened = c.open_to_read.new.self;
          after = c.make.new.files;
          opens = c.in-Ok.ensures.shows;
          did = (
            (
              c.no_file-in-Err-make.result,
              c.in-Err-make.error,
              c.in-Err-make.ensures.not.0,
              refl,
              c.no_file-in-Err-make.ensures,
            ),
            c.in-Err-make.ensures.not.1,
          );
          closes = c.close-in-Err-make.ensures;
        };
      },
      refl,
    )))

pub returns-in-Err : goal.returns-in-Err
returns-in-Err g c =
    inl (
      (c.no_file.result, c.in-Err.error, c.in-Err.ensures.not.0, refl, c.no_file.ensures),
      c.in-Err.ensures.not.1,
      refl,
    )
